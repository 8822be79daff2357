-- What is written of an answer, and that it is printable.
use Rattle.std.proofs.Common.{◌≡◌, ℕ, List, Option, Result, Ok, Err, refl}
use Rattle.std.specs.Prelude.{OnOk, OnErr}
use Rattle.std.specs.Io.KnownBytes.{Appends}
use Rattle.texts.specs.declared.refusals.Refusal.{Refusal}
use Rattle.table.specs.Reading.{then_read}
use Rattle.streams.specs.Bytes.{AppendsPart}
use Rattle.writing.proofs.Printable.{Printable}
use Rattle.endings.specs.Answered.{unless_refused, Writes}

pub wrote : {E : Type 0} (bytes : List ℕ) (a b : Option (List ℕ)) (written : Result Unit E) → OnOk written (Appends a b bytes) → OnErr written (AppendsPart a b bytes) → Writes bytes a b written
wrote bytes a b (Ok done) whole part = whole
wrote bytes a b (Err e) whole part = part

module _ {A : Type 0} (told : A → List ℕ) where
  pub each-printable : ((a : A) → Printable (told a)) → (answer : Result A Refusal) → Printable (unless_refused told answer)
  each-printable each (Ok a) = each a
  each-printable each (Err refusal) = refl

  pub then-printable : {X : Type 0} (read : Result X Refusal) (next : X → Result A Refusal) → ((x : X) → read ≡ Ok x → Printable (unless_refused told (next x)))
      → Printable (unless_refused told (then_read read next))
  then-printable (Ok x) next h = h x refl
  then-printable (Err refusal) next h = refl
