use Rattle.std.proofs.Common.{◌≡◌, List, ℕ, ap, ap₂, ◌∙◌, ◌++◌, rules, to_z, of_z, w64}
use Rattle.drawn.specs.Svg.{sheet, sheet_opened, sheet_titled, sheet_whitened}
use Rattle.drawn.proofs.svg.Picture.new.Goals as goal

pub returns : goal.returns
unfolding sheet
returns c =
    let w : to_z w64 (of_z w64 c.args.width) ≡ c.args.width = search rules in
    let h : to_z w64 (of_z w64 c.args.height) ≡ c.args.height = search rules in
    let title = sheet_titled c.args.title.now in
    c.in_ok-whiten.ensures
    ∙ ap₂ (λ (a b : List ℕ). a ++ b) (c.in_ok-entitle.ensures ∙ ap (λ (a : List ℕ). a ++ title) (c.in_ok-picture.ensures ∙ ap₂ sheet_opened w h)) (ap₂ sheet_whitened w h)
