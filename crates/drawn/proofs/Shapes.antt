-- The text of each shape, piece by piece.
use Rattle.std.proofs.Common.{◌≡◌, ℕ, ℤ, List, ◌++◌, ap, ◌∙◌, append_assoc, Result}
use Rattle.std.specs.Prelude.{codes, OnOk}
use Rattle.std.proofs.lemmas.Result.{on_ok_weaker}
use Rattle.drawn.specs.declared.svg.Place.{Place}
use Rattle.drawn.specs.Svg.{pixels_text, in_xml, lengths_text, text_shape, line_shape, rectangle_shape, sheet_opened}

pub lengths_are : (across : List ℕ) (x : ℤ) (down : List ℕ) (y : ℤ) → lengths_text across x down y
    ≡ across ++ (codes "=\"" ++ (pixels_text x ++ (codes "\" " ++ (down ++ (codes "=\"" ++ (pixels_text y ++ codes "\""))))))
unfolding lengths_text
lengths_are across x down y = simp append_assoc

pub text_is : (at : Place) (style text : List ℕ) → text_shape at style text
    ≡ codes "<text " ++ (lengths_text (codes "x") at.x (codes "y") at.y ++ (codes " " ++ (style ++ (codes ">" ++ (in_xml text ++ codes "</text>\n")))))
unfolding text_shape
text_is at style text = simp append_assoc

module _ {E : Type 0} (r : Result (Unit {0}) E) (old new : List ℕ) where
  pub line-put : (from to : Place) (style f t : List ℕ) → f ≡ lengths_text (codes "x1") from.x (codes "y1") from.y → t ≡ lengths_text (codes "x2") to.x (codes "y2") to.y
      → OnOk r (new ≡ old ++ (codes "<line " ++ (f ++ (codes " " ++ (t ++ (codes " " ++ (style ++ codes "/>\n"))))))) → OnOk r (new ≡ old ++ line_shape from to style)
  unfolding line_shape
  line-put from to style f t a b h = on_ok_weaker r (λ e. e ∙ ap (λ (l : List ℕ). old ++ l) (rw (a, b) (simp append_assoc))) h

  pub rectangle-put : (corner : Place) (width height : ℤ) (style f t : List ℕ) → f ≡ lengths_text (codes "x") corner.x (codes "y") corner.y
      → t ≡ lengths_text (codes "width") width (codes "height") height
      → OnOk r (new ≡ old ++ (codes "<rect " ++ (f ++ (codes " " ++ (t ++ (codes " " ++ (style ++ codes "/>\n"))))))) → OnOk r (new ≡ old ++ rectangle_shape corner width height style)
  unfolding rectangle_shape
  rectangle-put corner width height style f t a b h = on_ok_weaker r (λ e. e ∙ ap (λ (l : List ℕ). old ++ l) (rw (a, b) (simp append_assoc))) h

pub opened-is : (width height : ℤ) (out s w h : List ℕ) → s ≡ lengths_text (codes "width") width (codes "height") height → w ≡ pixels_text width → h ≡ pixels_text height
    → out ≡ codes "<svg xmlns=\"http://www.w3.org/2000/svg\" " ++ (s ++ (codes " viewBox=\"0 0 " ++ (w ++ (codes " " ++ (h ++ codes "\" role=\"img\" font-family=\"sans-serif\" font-size=\"12\">\n")))))
    → out ≡ sheet_opened width height
unfolding sheet_opened
opened-is width height out s w h a b c e = e ∙ rw (a, b, c) (simp append_assoc)

-- ---- several pieces, one after the other

module _ {E : Type 0} (r : Result (Unit {0}) E) (old s₁ s₂ new a b c : List ℕ) where
  pub put_three : s₁ ≡ old ++ a → s₂ ≡ s₁ ++ b → OnOk r (new ≡ s₂ ++ c) → OnOk r (new ≡ old ++ (a ++ b ++ c))
  put_three p q h = on_ok_weaker r (λ e. e ∙ rw (q, p) (simp append_assoc)) h

  pub put_five : (s₃ s₄ d e : List ℕ) → s₃ ≡ old ++ a → s₄ ≡ s₃ ++ b → s₁ ≡ s₄ ++ c → s₂ ≡ s₁ ++ d → OnOk r (new ≡ s₂ ++ e) → OnOk r (new ≡ old ++ (a ++ b ++ c ++ d ++ e))
  put_five s₃ s₄ d e p q t u h = on_ok_weaker r (λ x. x ∙ rw (u, t, q, p) (simp append_assoc)) h
