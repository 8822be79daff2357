-- The tally of the ticks so far, and the lines so far, with those that follow.
use Rattle.std.proofs.Common.{◌≡◌, ◌-◌, ◌++◌, take, length}
use Rattle.replay.specs.Tally.{tally}
use Rattle.replay.specs.TickLines.{tick_lines, page_of}
use Rattle.replay.proofs.ticks.write.Given as goal

abbrev pub invariant-loop-t : goal.invariant-loop-t
invariant-loop-t l = take (length l.tasks) l.works ≡ tally l.tasks l.t

abbrev pub invariant-loop-t-2 : goal.invariant-loop-t-2
invariant-loop-t-2 l =
    (take (length l.tasks) l.works ≡ tally l.tasks l.t) × (l.draft ++ tick_lines l.table l.t (l.end - l.t) ≡ page_of l.table l.fn.from)
