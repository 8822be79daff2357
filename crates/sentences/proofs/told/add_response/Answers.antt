-- One write after the other.
use Rattle.std.proofs.Common.{◌++◌, codes, append_assoc, append-nil}
use Rattle.sentences.specs.Sentences.{response_sentence}
use Rattle.sentences.proofs.Chains.{last-write}
use Rattle.sentences.proofs.told.add_response.Goals as goal

pub returns : goal.returns
unfolding response_sentence
returns c =
    last-write c.add-7.result c.add-7.new.out.items c.args.out.now.items (response_sentence c.args.method c.args.name.now c.args.time.0 c.args.limit.0) {so_far = c.add_ticks-2.new.out.items ++ codes ".\n"} c.add-7.ensures
    (rw (c.in_ok-add_ticks-2.ensures, c.in_ok-add-6.ensures, c.in_ok-add_ticks.ensures, c.in_ok-add-5.ensures, c.in_ok-add-4.ensures, c.in_ok-add-3.ensures, c.in_ok-add-2.ensures, c.method_name.ensures, c.in_ok-add.ensures)
    (simp (append_assoc, append-nil)))
