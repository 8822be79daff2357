-- The first places hold what their numbers say.
use Rattle.std.proofs.Common.{◌≡◌, ℕ, ◌+◌, ◌*◌, List, map, length, take, drop}
use Rattle.search.specs.Positions.{between}
use Rattle.table.specs.declared.tasks.Task.{Task}
use Rattle.table.specs.declared.accesses.Access.{Access}
use Rattle.test_values.specs.Values.{task_from, access_from}
use Rattle.test_values.proofs.table_from.Given as goal

abbrev pub place_from : List ℕ → ℕ → Task
place_from ns k = task_from (drop (4 + 52 * k) ns)

abbrev pub access_place_from : List ℕ → ℕ → Access
access_place_from ns n = access_from (drop (1669 + 35 * n) ns)

abbrev pub invariant-loop-k : goal.invariant-loop-k
invariant-loop-k l = (take l.k l.tasks ≡ map (place_from l.numbers) (between 0 l.k)) × (length l.tasks ≡ 32)

abbrev pub invariant-loop-n : goal.invariant-loop-n
invariant-loop-n l = (take l.n l.accesses ≡ map (access_place_from l.numbers) (between 0 l.n)) × (length l.accesses ≡ 32)
