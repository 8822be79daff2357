-- A build whose text came into a buffer, and whose report was put into the folder, or not.
use Rattle.std.proofs.Common.{◌≡◌, ℕ, Bool, true, false, List, [], ◌∷◌, ◌++◌, Option, Some, None, IsSomeAnd, length, take, refl, sym, ap, subst, ◌∙◌, append-nil}
use Rattle.std.proofs.Math.Seq.{take-append_seam}
use Rattle.crpd.specs.Operations.{printed}
use Rattle.lists.specs.declared.Fate.{Fate}
use Rattle.lists.specs.declared.Fate.TheVariants.{Unwritten}
use Rattle.builds.specs.Fates.{fate_of}
use Rattle.builds.specs.Folders.{Held, HasText, Gains, TakesNone, with_reports, fate_by, reports_by, ReportsBuild}
use Rattle.builds.proofs.LongTexts.{printed_front, fate_front}

-- no report more
same-held : (h : Held) → Some h ≡ Some (with_reports h [])
same-held h = ap (λ (rs : List (List ℕ × List ℕ)). Some (record h { reports = rs })) (sym (append-nil h.reports))

-- by whether there is a text, and whether a report is taken
put-by : (way : List ℕ) (text : Option (List ℕ)) (takes : Bool) (buf : List ℕ) (len : ℕ) → length buf ≡ 16385 → IsSomeAnd text (λ t. take len buf ≡ take (length buf) t) → takes ≡ true
    → (fate_of (take len buf) ≡ fate_by text takes) × ((way, printed (take len buf)) ∷ [] ≡ reports_by way text takes)
put-by way None takes buf len room has e = absurd has
put-by way (Some text) takes buf len room has e =
    let front : take len buf ≡ take 16385 text = has ∙ ap (λ n. take n text) room in
    rw e (ap fate_of front ∙ fate_front text, ap (λ (p : List ℕ). (way, p) ∷ []) (ap printed front ∙ printed_front text))

unwritten-by : (way : List ℕ) (text : Option (List ℕ)) (takes : Bool) (P : List ℕ → Type 0) → IsSomeAnd text P → takes ≡ false → (Unwritten ≡ fate_by text takes) × ([] ≡ reports_by way text takes)
unwritten-by way None takes P has e = absurd has
unwritten-by way (Some text) takes P has e = rw e (refl, refl)

-- as the code has it: the report stands at the start of a buffer, what was held before is what is held when the text was read, and nothing is put after it
pub put-told : (before start end after : Option Held) (way buf out rest : List ℕ) (len size : ℕ) (fate : Fate) → length buf ≡ 16385 → HasText before way len buf
    → fate ≡ fate_of (take len buf) → start ≡ before → size ≡ length (printed (take len buf)) → out ≡ printed (take len buf) ++ rest
    → Gains start end way (take size out) → after ≡ end → ReportsBuild before way fate after
put-told None start end after way buf out rest len size fate room has is e s p gains f = tt
put-told (Some h) start end after way buf out rest len size fate room has is e s p gains f =
    let put : take size out ≡ printed (take len buf) = ap (λ n. take n out) s ∙ ap (take (length (printed (take len buf)))) p ∙ take-append_seam (printed (take len buf)) rest in
    let gained : Gains (Some h) end way (printed (take len buf)) = subst (λ (b : Option Held). Gains b end way (printed (take len buf))) e (subst (Gains start end way) put gains) in
    let by = put-by way (h.texts way) (h.takes way) buf len room has gained.0 in
    record { told = is ∙ by.0; put = f ∙ gained.1 ∙ ap (λ (more : List (List ℕ × List ℕ)). Some (with_reports h more)) by.1 }

-- nothing is put
pub unwritten-told : (before start end after : Option Held) (way buf : List ℕ) (len : ℕ) (fate : Fate) → fate ≡ Unwritten → HasText before way len buf → TakesNone start way
    → start ≡ before → end ≡ start → after ≡ end → ReportsBuild before way fate after
unwritten-told None start end after way buf len fate is has takes e n f = tt
unwritten-told (Some h) start end after way buf len fate is has takes e n f =
    let by = unwritten-by way (h.texts way) (h.takes way) _ has (subst (λ (b : Option Held). TakesNone b way) e takes) in
    record { told = is ∙ by.0; put = f ∙ n ∙ e ∙ same-held h ∙ ap (λ (more : List (List ℕ × List ℕ)). Some (with_reports h more)) by.1 }
