-- `rounds::make` meets its contract: each turn makes the windows of a round, and those of the earlier ones stand.
use Rattle.std.proofs.Common.{◌≡◌, ℕ, ◌≤◌, ◌<◌, ◌*◌, get_or, length}
use Rattle.search.specs.Terms.{term_in}
use Rattle.search.specs.Classes.{before_class, AskMore}
use Rattle.search.specs.Rounds.{Windowed}
use Rattle.search.proofs.rounds.make.Given as goal

abbrev pub invariant-loop-v : goal.invariant-loop-v
invariant-loop-v l = record {
  long : length l.entries ≡ 16384;
  low : l.low ≤ l.v * 18014398509481984;
  asked : (s : ℕ) → AskMore (before_class l.classes l.v) (term_in l.terms) (length l.terms) l.low s;
  windowed : (w : ℕ) → w < l.v → Windowed (term_in l.terms) (length l.terms) l.classes w (get_or l.ticks w 0) l.entries;
}
