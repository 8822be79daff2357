-- What becomes of a question about a text: what is written, and how the command ends.
use Rattle.std.specs.Prelude.{ℕ, ◌≡◌, List, [], Option, Result, Ok, Err}
use Rattle.std.specs.Io.KnownBytes.{Appends}
use Rattle.texts.specs.declared.refusals.Refusal.{Refusal}
use Rattle.streams.specs.Bytes.{AppendsPart}
use Rattle.endings.specs.declared.Ending.{Ending}
use Rattle.endings.specs.declared.Answered.{Answered}

-- what is told of an answer; of a refusal nothing
abbrev pub unless_refused : {A : Type 0} → (A → List ℕ) → Result A Refusal → List ℕ
unless_refused told (Ok answer) = told answer
unless_refused told (Err refusal) = []

-- all of these bytes are written; where a write failed a part of them
abbrev pub Writes : {E : Type 0} → List ℕ → Option (List ℕ) → Option (List ℕ) → Result Unit E → Type 0
Writes bytes before after (Ok done) = Appends before after bytes
Writes bytes before after (Err e) = AppendsPart before after bytes

-- what is written, all of it or a part, and how the command ends
pub record WritesAnswer (bytes : List ℕ) (ending : Result Ending Refusal) (before after : Option (List ℕ)) (answered : Answered) : Type 0 where
  pub written : Writes bytes before after answered.written
  pub ending-is : answered.ending ≡ ending
