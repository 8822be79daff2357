use Rattle.std.proofs.Common.{◌≡◌, ap₂, ◌∙◌, rules, to_z, of_z, w64, ℤ}
use Rattle.std.specs.Prelude.{codes}
use Rattle.drawn.specs.Svg.{lengths_text}
use Rattle.drawn.proofs.Shapes.{rectangle-put}
use Rattle.drawn.proofs.svg.Picture.rectangle.Goals as goal

pub returns : goal.returns
returns c =
    let x : to_z w64 (of_z w64 c.args.corner.x) ≡ c.args.corner.x = search rules in
    let y : to_z w64 (of_z w64 c.args.corner.y) ≡ c.args.corner.y = search rules in
    let w : to_z w64 (of_z w64 c.args.width) ≡ c.args.width = search rules in
    let h : to_z w64 (of_z w64 c.args.height) ≡ c.args.height = search rules in
    rectangle-put c.write.result _ _ c.args.corner c.args.width c.args.height c.args.style.now _ _
    (c.in_ok-corner.ensures ∙ ap₂ (λ (x y : ℤ). lengths_text (codes "x") x (codes "y") y) x y)
    (c.in_ok-size.ensures ∙ ap₂ (λ (w h : ℤ). lengths_text (codes "width") w (codes "height") h) w h) c.write.ensures.bytes
