use Rattle.std.proofs.Common.{◌≡◌, ap, ap₂, ◌∙◌, rules, to_z, of_z, w64, ℤ}
use Rattle.std.specs.Prelude.{codes}
use Rattle.drawn.specs.Svg.{lengths_text, pixels_text}
use Rattle.drawn.proofs.Shapes.{opened-is}
use Rattle.drawn.proofs.svg.Picture.open.Goals as goal

pub returns : goal.returns
returns c =
    let w : to_z w64 (of_z w64 c.args.width) ≡ c.args.width = search rules in
    let h : to_z w64 (of_z w64 c.args.height) ≡ c.args.height = search rules in
    opened-is c.args.width c.args.height _ _ _ _ (c.in_ok-size.ensures ∙ ap₂ (λ (w h : ℤ). lengths_text (codes "width") w (codes "height") h) w h)
    (c.in_ok-width.ensures ∙ ap pixels_text w) (c.in_ok-height.ensures ∙ ap pixels_text h) c.in_ok-text.ensures.ok
