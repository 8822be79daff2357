-- Tables that are no harder, and positions in any order.
use Rattle.std.proofs.Common.{ℕ, zero, suc, ◌+◌, ◌≤◌, ◌<◌, List, [], ◌∷◌, ◌++◌, length, take, get_or, ◌≡◌, refl, ap, ◌∙◌, arith, eq-eqb}
use Rattle.std.proofs.lemmas.List.{take_more}
use Rattle.std.proofs.Math.Decide.{dec_lt}
use Rattle.search.specs.declared.demand.Response.{Response}
use Rattle.search.specs.declared.demand.Response.TheVariants.{Within, Unschedulable}
use Rattle.search.specs.declared.demand.Term.{Term}
use Rattle.search.specs.Positions.{fold_by}
use Rattle.search.specs.Demand.{work_of}
use Rattle.search.specs.Least.{NoLater}
use Rattle.table.specs.declared.Table.{Table}
use Rattle.table.specs.Accepted.{AcceptedTable}
use Rattle.analysis.specs.declared.Method.{Method}
use Rattle.analysis.specs.Analysis.{response_of}
use Rattle.analysis.proofs.SameLaws.{response-same}
use Rattle.analysis.proofs.Orders.{response-place, harder-no-sooner}
use Rattle.laws.proofs.AddedTables.{added-no-sooner, added-same}
use Rattle.laws.specs.Permutations.{times_in, EachOnce}
use Rattle.laws.specs.Equation.{demand_over}
use Rattle.laws.specs.declared.orders.TwoResponses.{TwoResponses}
use Rattle.laws.specs.Orders.{RespondsBy, EasierRespondsFirst}

-- ---- a table that is no harder

responds-by : (a b : Response) → NoLater a b → RespondsBy a b
unfolding NoLater
responds-by (Within r) (Within R) h S e = let same : R ≡ S = cc in (r, refl, rw same at h)
responds-by Unschedulable (Within R) h S e = absurd h
responds-by a Unschedulable h S e = cc

pub easier-first : (first second : Table) (i k : ℕ) (m : Method) (r : TwoResponses) → AcceptedTable first → AcceptedTable second → i < first.count
    → r.first ≡ response_of first m i → r.second ≡ response_of second m k → EasierRespondsFirst first i second k m r
easier-first first second i k m r p q held f s = record {
  first_is = f;
  second_is = s;
  same = λ h e. rw (f, s, ← e) (response-same i first second h m);
  harder = λ h e. responds-by r.first r.second (rw (f, s, ← e) (harder-no-sooner first second h p q m i held));
  harder_by = λ place h e. responds-by r.first r.second (rw (f, s, ← e) (response-place place first second i h p q held m));
  added = λ n t h e. rw (f, s, ← e) (added-no-sooner n t first second h p q i held m);
  above = λ n t h l e. rw (f, s, ← e) (response-same i first second (added-same n t first second h p q i l).same m);
}

-- ---- positions in any order

times-at : (ks : List ℕ) (i d : ℕ) → i < length ks → 1 ≤ times_in (get_or ks i d) ks
unfolding times_in
times-at [] i d h = absurd (omega arith)
times-at (k ∷ ks) zero d h = rw (eq-eqb k k refl) (omega arith)
times-at (k ∷ ks) (suc i) d h = omega (arith, times-at ks i d (omega arith))

fold-last : (z : ℕ) (F : ℕ → ℕ) (ks : List ℕ) (k : ℕ) → fold_by ◌+◌ z F (ks ++ k ∷ []) ≡ fold_by ◌+◌ z F ks + F k
unfolding fold_by
fold-last z F [] k = refl
fold-last z F (l ∷ ks) k = fold-last (z + F l) F ks k

module _ {n : ℕ} {ks : List ℕ} (once : EachOnce 0 n ks) where
  -- each is below n
  pub once-below : (k : ℕ) → k < length ks → get_or ks k 0 < n
  once-below k h = elim (dec_lt (get_or ks k 0) n) [
    | yes l ↦ l
    | no l ↦ absurd (omega (arith, times-at ks k 0 h, once.no_other (get_or ks k 0) (λ a b. l b)))
  ]

-- one term more
pub demand-over-next : (own : ℕ) (terms : ℕ → Term) (ks : List ℕ) (r k : ℕ) → k < length ks
    → demand_over own terms (take (k + 1) ks) r ≡ demand_over own terms (take k ks) r + work_of r (terms (get_or ks k 0))
demand-over-next own terms ks r k h =
    ap (fold_by ◌+◌ own (λ j. work_of r (terms j))) (take_more ks k 0 h) ∙ fold-last own (λ j. work_of r (terms j)) (take k ks) (get_or ks k 0)

-- a sum of the first is no more than that of all
sum-from : (z : ℕ) (F : ℕ → ℕ) (ks : List ℕ) → z ≤ fold_by ◌+◌ z F ks
unfolding fold_by
sum-from z F [] = omega arith
sum-from z F (k ∷ ks) = omega (arith, sum-from (z + F k) F ks)

pub sum-front : (z : ℕ) (F : ℕ → ℕ) (ks : List ℕ) (n : ℕ) → fold_by ◌+◌ z F (take n ks) ≤ fold_by ◌+◌ z F ks
unfolding fold_by
sum-front z F ks zero = sum-from z F ks
sum-front z F [] (suc n) = omega arith
sum-front z F (k ∷ ks) (suc n) = sum-front (z + F k) F ks n
