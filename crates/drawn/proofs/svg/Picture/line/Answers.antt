use Rattle.std.proofs.Common.{◌≡◌, ap₂, ◌∙◌, rules, to_z, of_z, w64, ℤ}
use Rattle.std.specs.Prelude.{codes}
use Rattle.drawn.specs.Svg.{lengths_text}
use Rattle.drawn.proofs.Shapes.{line-put}
use Rattle.drawn.proofs.svg.Picture.line.Goals as goal

pub returns : goal.returns
returns c =
    let x1 : to_z w64 (of_z w64 c.args.from.x) ≡ c.args.from.x = search rules in
    let y1 : to_z w64 (of_z w64 c.args.from.y) ≡ c.args.from.y = search rules in
    let x2 : to_z w64 (of_z w64 c.args.to.x) ≡ c.args.to.x = search rules in
    let y2 : to_z w64 (of_z w64 c.args.to.y) ≡ c.args.to.y = search rules in
    line-put c.write.result _ _ c.args.from c.args.to c.args.style.now _ _
    (c.in_ok-from.ensures ∙ ap₂ (λ (x y : ℤ). lengths_text (codes "x1") x (codes "y1") y) x1 y1)
    (c.in_ok-to.ensures ∙ ap₂ (λ (x y : ℤ). lengths_text (codes "x2") x (codes "y2") y) x2 y2) c.write.ensures.bytes
