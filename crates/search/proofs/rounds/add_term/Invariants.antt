-- `rounds::add_term` meets its contract: it is added at the ticks before x, and the others stand.
use Rattle.std.proofs.Common.{◌+◌}
use Rattle.search.specs.Rounds.{Near}
use Rattle.search.proofs.RoundLaws.{Adding}
use Rattle.search.proofs.rounds.add_term.Given as goal

abbrev pub invariant-loop-x : goal.invariant-loop-x
invariant-loop-x l = record {
  near : Near l.period (l.x + l.jitter) l.release;
  adding : Adding l.period l.jitter l.share l.x l.initial.lacks l.lacks;
}
