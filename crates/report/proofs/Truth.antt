-- What an explanation says is true of the equation: its lines add up to the need, and the victim has the reloads that are charged. What a need says of
-- the response stands in `need`.
use Rattle.std.proofs.Common.{ℕ, ◌+◌, ◌≤◌, ◌<◌, arith, ◌≡◌, sym, subst, ◌∙◌}
use Rattle.cache.specs.declared.units.Ticks.{Ticks}
use Rattle.cache.specs.Counts.{Counts, ◌on◌, total}
use Rattle.search.specs.declared.demand.Response.TheVariants.{Within}
use Rattle.search.specs.Positions.{hp}
use Rattle.search.specs.Demand.{demand_of}
use Rattle.search.proofs.LeastLaws.{answer-reached}
use Rattle.table.specs.declared.accesses.Access.{Access}
use Rattle.table.specs.Accesses.{added_by}
use Rattle.table.specs.declared.Table.{Table}
use Rattle.table.specs.Tables.{ways_in}
use Rattle.table.specs.Accepted.{AcceptedTable}
use Rattle.analysis.specs.declared.costs.Hit.{Hit}
use Rattle.analysis.specs.declared.costs.Single.{Single}
use Rattle.analysis.specs.declared.costs.Single.TheVariants.{None, EcbOnly, UcbOnly, UcbUnion, EcbUnion}
use Rattle.analysis.specs.declared.Method.{Method}
use Rattle.analysis.specs.declared.costs.Charge.TheVariants.{Victim}
use Rattle.analysis.specs.Gather.{aff, union_of, hit, larger_of, largest_at, FirstLargest}
use Rattle.analysis.specs.Costs.{reloads_with, ucb_of, ecb_of, charge_under}
use Rattle.analysis.proofs.HitLaws.{larger-by, first-largest}
use Rattle.analysis.specs.Needs.{need_of}
use Rattle.report.proofs.Ranges.{needed}
use Rattle.analysis.proofs.NeedLaws.{response-needed}
use Rattle.report.specs.Explained.{sum_of, AddsUp}

-- ---- own time, blocking and the products

-- C, how long the task is blocked, and what the line of each task above adds, are what is needed, whichever of the six methods is explained
pub explanation-adds-up : (table : Table) → AcceptedTable table → (i : ℕ) → i < table.count → (m : Method) → (R : Ticks) → (need_of table m i).time ≡ Within R
    → sum_of table (need_of table m i) i R.0 ≡ R.0
unfolding demand_of reloads_with
explanation-adds-up table accepted i held m R e =
    sym (answer-reached _ 250000000 R (sym e ∙ (needed table accepted i held m).time-is)).2

-- and that is the response, where there is one
pub adds-up : (table : Table) → AcceptedTable table → (i : ℕ) → i < table.count → (m : Method) → AddsUp table m i
adds-up table accepted i held m = record {
  sum = explanation-adds-up table accepted i held m;
  response = λ R e. (response-needed table accepted i held m R e).0;
}

-- ---- the victim

-- how many of these useful blocks have to be reloaded after an activation of j: under UCB-Only all of them, under ECB-Union what of them is evicted by j or above
abbrev pub lost_of : Table → Single → ℕ → Counts → ℕ
lost_of table None j useful = 0
lost_of table EcbOnly j useful = 0
lost_of table UcbOnly j useful = total useful
lost_of table UcbUnion j useful = 0
lost_of table EcbUnion j useful = total (useful on union_of (ecb_of table) (hp (j + 1)))

-- who is hit while an access blocks: the task of aff(i, j) that has most to reload, and the first of them; or the access's task, where the access has
-- more to reload than each of them
pub data Hits (table : Table) (a : Access) (m : Single) (i j : ℕ) : Hit → Type 0 where
  of-task : {h : Hit} → FirstLargest (λ k. lost_of table m j (ucb_of table k)) (j + 1) (i + 1) h → lost_of table m j (added_by (ways_in table) a j) ≤ h.reloads.0 → Hits table a m i j h
  of-access : ((k : ℕ) → j < k → k ≤ i → lost_of table m j (ucb_of table k) < lost_of table m j (added_by (ways_in table) a j)) → Hits table a m i j (hit (lost_of table m j (added_by (ways_in table) a j)) a.task)

module _ (table : Table) (a : Access) (i j : ℕ) (above : j < i) where
  larger-hits : (m : Single) → Hits table a m i j (larger_of (largest_at (λ k. lost_of table m j (ucb_of table k)) (aff i j)) (hit (lost_of table m j (added_by (ways_in table) a j)) a.task))
  larger-hits m =
      let first = first-largest (λ k. lost_of table m j (ucb_of table k)) (j + 1) (i + 1) (omega arith) in
      larger-by (Hits table a m i j) _ _ (λ less. of-access (λ k l b. omega (arith, first.most k (omega arith) (omega arith)))) (λ least. of-task first least)

  -- a victim that is told is hit so
  pub victim-has : (m : Single) (h : Hit) → charge_under table a m i j ≡ Victim h → Hits table a m i j h
  victim-has None h e = cc
  victim-has EcbOnly h e = cc
  victim-has UcbOnly h e = subst (Hits table a UcbOnly i j) (cc) (larger-hits UcbOnly)
  victim-has UcbUnion h e = cc
  victim-has EcbUnion h e = subst (Hits table a EcbUnion i j) (cc) (larger-hits EcbUnion)
