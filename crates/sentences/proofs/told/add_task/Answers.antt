-- One write after the other.
use Rattle.std.proofs.Common.{◌++◌, codes, append_assoc, append-nil}
use Rattle.sentences.specs.Sentences.{task_sentence}
use Rattle.sentences.proofs.Chains.{last-write}
use Rattle.sentences.proofs.told.add_task.Goals as goal

pub returns : goal.returns
unfolding task_sentence
returns c =
    last-write c.add-4.result c.add-4.new.out.items c.args.out.now.items (task_sentence c.args.pending.table.now c.args.r c.args.j c.args.charge) {so_far = c.add_reloads.new.out.items ++ codes ".\n"} c.add-4.ensures
    (rw (c.in_ok-add_reloads.ensures, c.in_ok-add_ticks.ensures, c.in_ok-add_times.ensures, c.activations.ensures, c.in_ok-add-3.ensures, c.in_ok-add-2.ensures, c.text.ensures, c.in_ok-add.ensures, c.task-task.ensures)
    (simp (append_assoc, append-nil)))
