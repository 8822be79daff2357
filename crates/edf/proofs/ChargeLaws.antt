-- Facts about charges.
use Rattle.std.proofs.Common.{ℕ, ◌+◌, ◌-◌, ◌*◌, ◌≤◌, ◌<◌, arith, ◌≡◌, sym, ◌∙◌, ap, List, length, get_or, take}
use Rattle.std.proofs.lemmas.Bool.{lt-ltb, le-ltb}
use Rattle.std.proofs.Math.Seq.{take-append_seam}
use Rattle.std.proofs.lemmas.List.{length-map, length-take}
use Rattle.std.proofs.lemmas.List.Sums.{sum_by_more}
use Rattle.std.specs.List.{All, sum_by}
use Rattle.cache.specs.Counts.{◌on◌, total}
use Rattle.cache.specs.Levels.{counts}
use Rattle.cache.specs.Words.{members}
use Rattle.search.specs.Positions.{hp, front}
use Rattle.search.specs.Demand.{ceil}
use Rattle.search.proofs.PositionLaws.{map_at, run_long}
use Rattle.table.specs.declared.tasks.Task.{Task}
use Rattle.table.specs.declared.Table.{Table}
use Rattle.table.specs.Tasks.{blank}
use Rattle.table.specs.Tables.{ways_in, tasks_of, at}
use Rattle.table.specs.Accepted.{AcceptedTask, AcceptedTable}
use Rattle.edf.specs.Charges.{edf_charge, charged_at, charged_tasks, no_charged_task}
use Rattle.edf.specs.Bound.{Timed}

module _ (table : Table) (t t' : Task) where
  pub charge-none : t.deadline.0 ≤ t'.deadline.0 → 0 ≡ edf_charge table t t'
  unfolding edf_charge
  charge-none h = rw (le-ltb t'.deadline.0 t.deadline.0 h, edf_charge)

  pub charge-some : t'.deadline.0 < t.deadline.0
      → table.brt.0 * total (counts (ways_in table) t.ucb on members t'.ecb) * ceil (t.deadline.0 - t'.deadline.0) t'.period.0 ≡ edf_charge table t t'
  unfolding edf_charge
  charge-some h = rw (lt-ltb t'.deadline.0 t.deadline.0 h, edf_charge)

-- of the tasks that are lent by an accepted table
module _ (table : Table) (items : List Task) (k : ℕ) (p : AcceptedTable table) (e : items ≡ tasks_of table) (h : k < length items) where
  lent : k < table.count
  lent = omega (arith, ap length e, h, length-take table.count table.tasks)

  pub lent-few : k < 32
  lent-few = omega (arith, lent, p.few)

  pub lent-accepted : AcceptedTask table.sets (get_or items k blank)
  unfolding at
  lent-accepted = rw e (p.tasks k lent)

  pub charges-more : (t : Task) → sum_by (edf_charge table t) (take (k + 1) (tasks_of table)) ≡ sum_by (edf_charge table t) (take k (tasks_of table)) + edf_charge table t (get_or items k blank)
  charges-more t = rw e (sum_by_more (edf_charge table t) (tasks_of table) k blank (omega (arith, ap length e, h)))

-- the tasks of an accepted table are in range
pub charged-timed : (table : Table) → AcceptedTable table → All Timed (charged_tasks table)
charged-timed table p k d h =
    let l : k < table.count = omega (arith, h, length-map (hp table.count) (charged_at table), run_long 0 (table.count - 0)) in
    let t = p.tasks k l in
    rw (map_at (charged_at table) table.count k d l) (record { deadline = t.deadline.0; order = t.deadline.1; period-most = t.period.1 })

-- they stand at the front
pub front-charged : (table : Table) → take table.count (front no_charged_task (charged_at table) table.count) ≡ charged_tasks table
unfolding front
front-charged table =
    let long : length (charged_tasks table) ≡ table.count = length-map (hp table.count) (charged_at table) ∙ run_long 0 (table.count - 0) ∙ omega arith in
    ap (λ (n : ℕ). take n (front no_charged_task (charged_at table) table.count)) (sym long) ∙ take-append_seam (charged_tasks table) _
