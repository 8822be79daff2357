-- The words are written, and it ends as the answer does; what is meant is printable, written or not.
use Rattle.std.proofs.Common.{ℕ, List, subst, ap, Ok, ◌∙◌}
use Rattle.endings.specs.Answered.{Writes}
use Rattle.endings.specs.Endings.{ending_of}
use Rattle.endings.proofs.Written.{wrote}
use Rattle.search.specs.Least.{has_response}
use Rattle.table.specs.Reading.{then_read}
use Rattle.sentences.proofs.PrintableWords.{words_pass}
use Rattle.sentences.proofs.explain.Goals as goal

pub returns-clause-answers : goal.returns-clause-answers
returns-clause-answers g c = record {
  written =
      subst (λ (bytes : List ℕ). Writes bytes (g.W.Write.contents c.args.writer.now) (g.W.Write.contents c.write_output.new.output) c.write_output.result)
      (c.as_slice.ensures.value ∙ c.in_ok-words.ensures)
      (wrote c.as_slice.result.now _ _ c.write_output.result c.write_output.ensures.whole c.write_output.ensures.part);
  ending-is = c.of_answer-ending.ensures ∙ ap (λ answer. then_read answer (λ response. Ok (ending_of (has_response response)))) c.answer.ensures.value;
}

pub returns-clause-printable : goal.returns-clause-printable
returns-clause-printable g c = words_pass c.args.text.now c.args.method c.args.position

pub returns-in_err-words-clause-printable : goal.returns-in_err-words-clause-printable
returns-in_err-words-clause-printable g c = words_pass c.args.text.now c.args.method c.args.position
