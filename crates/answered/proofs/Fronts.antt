-- What stands behind the first 16,385 bytes of a text changes nothing of what is written, and of how it ends.
use Rattle.std.proofs.Common.{◌≡◌, ℕ, ◌<◌, List, Option, Result, take, length, arith, refl, ap, subst, ◌∙◌, take_all, length-take-le}
use Rattle.std.proofs.Math.Decide.{dec_lt}
use Rattle.texts.specs.declared.refusals.Refusal.{Refusal}
use Rattle.endings.specs.declared.Ending.{Ending}
use Rattle.crpd.specs.Operations.{printed, answer_to, growth_to, scaled_to, edf_to, replay_to}
use Rattle.streams.proofs.LongTexts.{too_long, read_front}
use Rattle.answered.specs.declared.Question.{Question}
use Rattle.answered.specs.declared.Question.TheVariants.{Report, Answer, Explain, Growth, Scaled, Edf, Replay}
use Rattle.endings.specs.declared.Answered.{Answered}
use Rattle.endings.specs.Answered.{Writes, WritesAnswer}
use Rattle.report.specs.Verdicts.{passes_to}
use Rattle.answered.specs.Answered.{bytes_for, ending_for, bytes_checked, ending_checked, AnswersTo, ChecksTo}

scaled_long : (m : ℕ) (text : List ℕ) → 16384 < length text → scaled_to (take 16385 text) m ≡ scaled_to text m
unfolding scaled_to
scaled_long m text long = rw (too_long (take 16385 text) (omega (arith, length-take-le 16385 text long)), too_long text long) refl

scaled_front : (m : ℕ) (text : List ℕ) → scaled_to (take 16385 text) m ≡ scaled_to text m
scaled_front m text =
    elim (dec_lt 16384 (length text)) [
      | yes long ↦ scaled_long m text long
      | no short ↦ ap (λ t. scaled_to t m) (take_all 16385 text (omega arith))
    ]

answer_front : (m p : ℕ) (text : List ℕ) → answer_to (take 16385 text) m p ≡ answer_to text m p
unfolding answer_to
answer_front m p text = rw (read_front text) refl

growth_front : (m : ℕ) (text : List ℕ) → growth_to (take 16385 text) m ≡ growth_to text m
unfolding growth_to
growth_front m text = rw (read_front text) refl

edf_front : (text : List ℕ) → edf_to (take 16385 text) ≡ edf_to text
unfolding edf_to
edf_front text = rw (read_front text) refl

replay_front : (p : ℕ) (text : List ℕ) → replay_to (take 16385 text) p ≡ replay_to text p
unfolding replay_to
replay_front p text = rw (read_front text) refl

printed_front : (text : List ℕ) → printed (take 16385 text) ≡ printed text
unfolding printed
printed_front text = rw (read_front text) refl

passes_front : (text : List ℕ) → passes_to (take 16385 text) ≡ passes_to text
unfolding passes_to
passes_front text = rw (read_front text) refl

pub bytes_front : (question : Question) (text : List ℕ) → bytes_for question (take 16385 text) ≡ bytes_for question text
unfolding bytes_for
bytes_front Report text = printed_front text
bytes_front (Answer m p) text = rw (answer_front m p text) refl
bytes_front (Explain m p) text = rw (read_front text) refl
bytes_front (Growth m) text = rw (growth_front m text) refl
bytes_front (Scaled m) text = rw (scaled_front m text) refl
bytes_front Edf text = rw (edf_front text) refl
bytes_front (Replay p) text = rw (replay_front p text) refl

pub ending_front : (question : Question) (text : List ℕ) → ending_for question (take 16385 text) ≡ ending_for question text
unfolding ending_for
ending_front Report text = rw (passes_front text) refl
ending_front (Answer m p) text = rw (answer_front m p text) refl
ending_front (Explain m p) text = rw (answer_front m p text, read_front text) refl
ending_front (Growth m) text = rw (growth_front m text) refl
ending_front (Scaled m) text = rw (scaled_front m text, growth_front m text) refl
ending_front Edf text = rw (edf_front text) refl
ending_front (Replay p) text = rw (replay_front p text) refl

-- of a list that is checked
bytes_checked_front : (list : List ℕ) (m : ℕ) (text : List ℕ) → bytes_checked (take 16385 text) list m ≡ bytes_checked text list m
bytes_checked_front list m text = rw (read_front text) refl

ending_checked_front : (list : List ℕ) (m : ℕ) (text : List ℕ) → ending_checked (take 16385 text) list m ≡ ending_checked text list m
unfolding ending_checked
ending_checked_front list m text = rw (read_front text) refl

-- what is the same of the first bytes and of all of them
module _ (bytes : List ℕ → List ℕ) (ending : List ℕ → Result Ending Refusal) (same-bytes : (text : List ℕ) → bytes (take 16385 text) ≡ bytes text) (same-ending : (text : List ℕ) → ending (take 16385 text) ≡ ending text) where
  all_of_it : (front whole : List ℕ) (a b : Option (List ℕ)) (answered : Answered) → front ≡ take 16385 whole → WritesAnswer (bytes front) (ending front) a b answered
      → WritesAnswer (bytes whole) (ending whole) a b answered
  all_of_it front whole a b answered e d = record {
    written = subst (λ bs. Writes bs a b answered.written) (ap bytes e ∙ same-bytes whole) d.written;
    ending-is = d.ending-is ∙ ap ending e ∙ same-ending whole;
  }

pub answers_whole : (question : Question) (text bytes : List ℕ) (a b : Option (List ℕ)) (answered : Answered) → text ≡ take 16385 bytes → AnswersTo question text a b answered
    → AnswersTo question bytes a b answered
answers_whole question text bytes a b answered front d =
    all_of_it (bytes_for question) (ending_for question) (bytes_front question) (ending_front question) text bytes a b answered front d

pub checks_whole : (text list bytes : List ℕ) (m : ℕ) (a b : Option (List ℕ)) (answered : Answered) → text ≡ take 16385 bytes → ChecksTo text list m a b answered
    → ChecksTo bytes list m a b answered
checks_whole text list bytes m a b answered front d =
    all_of_it (λ t. bytes_checked t list m) (λ t. ending_checked t list m) (bytes_checked_front list m) (ending_checked_front list m) text bytes a b answered front d
