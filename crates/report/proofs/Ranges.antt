-- The need that an explanation is made from is in range, and it makes up the explanation.
use Rattle.std.proofs.Common.{ℕ, ◌<◌, arith, ◌≡◌, refl, ap₂, ◌++◌, true, length-take-le}
use Rattle.search.proofs.LeastLaws.{least-in-range}
use Rattle.table.specs.declared.tasks.Task.{Task}
use Rattle.table.specs.declared.Table.{Table}
use Rattle.table.specs.Tables.{at, accesses_of, access_at}
use Rattle.table.specs.Accepted.{AcceptedTable}
use Rattle.table.specs.Accesses.{empty_access, blank_access, may_block, blocking}
use Rattle.table.proofs.BlockingLaws.{Every, every-as, every_of, every-blocking, every-or}
use Rattle.analysis.specs.Analysis.{blockers_of, least_under}
use Rattle.analysis.proofs.BlockerLaws.{plain-blocks, access-blocks}
use Rattle.analysis.specs.declared.costs.Single.{Single}
use Rattle.analysis.specs.declared.Method.{Method}
use Rattle.analysis.specs.declared.need.Need.{Need}
use Rattle.analysis.specs.Needs.{need_with, needed_of, need_of}
use Rattle.analysis.proofs.NeedLaws.{need-by, largest-by, blockers-some}
use Rattle.report.specs.Explanation.{need_line, reason_lines, explanation_of}
use Rattle.report.specs.Explained.{NeedInRange, IsBlocker}

-- what is needed under a method while an access blocks: in range, and of such an access
pub record Needed (table : Table) (i : ℕ) (need : Need) : Type 0 where
  pub ranged : NeedInRange need
  pub blocker : IsBlocker table i need.blocker
  pub time-is : need.time ≡ least_under table need.blocker need.method i 250000000

module _ (table : Table) (accepted : AcceptedTable table) (i : ℕ) (held : i < table.count) where
  every : Every (IsBlocker table i) (blockers_of table i)
  unfolding access_at
  every =
      every-or (IsBlocker table i) empty_access (blocking i (accesses_of table))
      (record { blocks = plain-blocks i; task = accepted.some })
      (every-blocking (IsBlocker table i) i (accesses_of table)
      (every_of (λ a. may_block i a ≡ true → IsBlocker table i a) (accesses_of table) blank_access
      (λ n h e.
      let l : n < table.access_count = omega (arith, length-take-le table.access_count table.accesses accepted.listed) in
      record { blocks = access-blocks table i accepted n (h, e); task = (accepted.accesses n l).task })))

  under-needed : (m : Single) → Needed table i (needed_of table m i)
  unfolding needed_of
  under-needed m =
      largest-by (Needed table i) _ (blockers_of table i) (blockers-some table i)
      (every-as (IsBlocker table i) (λ a. Needed table i (need_with (λ b. least_under table b m i 250000000) m a)) (blockers_of table i)
      (λ a p. record { ranged = record { time = least-in-range _ 250000000 (omega arith); lasts = p.blocks.lasts }; blocker = p; time-is = refl })
      every)

  pub needed : (m : Method) → Needed table i (need_of table m i)
  needed m = need-by (Needed table i) table i m under-needed

  pub explanation-is : (m : Method) (task : Task) (need : Need) → task ≡ at table i → need ≡ need_of table m i
      → need_line task need ++ reason_lines table need.blocker need.method i need.time ≡ explanation_of table m i
  unfolding explanation_of
  explanation-is m task need t n = ap₂ (λ (u : Task) (v : Need). need_line u v ++ reason_lines table v.blocker v.method i v.time) t n
