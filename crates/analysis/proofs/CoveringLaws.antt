-- Whether a time covers the demand of a task, for what may block it in any order; and what that says of the response.
use Rattle.std.proofs.Common.{ℕ, ◌≤◌, ◌<◌, arith, ◌≡◌, refl, ap, sym, subst, ◌∙◌, Bool, true, false, ◌&&◌, List, [], ◌∷◌, ◌++◌, map, length, get_or, leb-true, le-leb}
use Rattle.std.specs.List.{list_all}
use Rattle.std.proofs.lemmas.List.{get_or-map, length-map}
use Rattle.std.proofs.lemmas.List.Sums.{AllPass-from_list_all}
use Rattle.cache.specs.declared.units.Ticks.{Ticks}
use Rattle.search.specs.declared.demand.Response.{Response}
use Rattle.search.specs.declared.demand.Response.TheVariants.{Within, Unschedulable}
use Rattle.search.specs.Least.{LeastWithin, latest_of}
use Rattle.search.proofs.LeastLaws.{Monotone, answer-under}
use Rattle.search.proofs.LaterLaws.{latest-one}
use Rattle.search.proofs.DemandLaws.{demand-mono}
use Rattle.table.specs.Tasks.{limit_of}
use Rattle.table.specs.declared.accesses.Access.{Access}
use Rattle.table.specs.Accesses.{blocking, or_else, empty_access, blank_access}
use Rattle.table.specs.declared.Table.{Table}
use Rattle.table.specs.Tables.{at, accesses_of}
use Rattle.table.specs.Accepted.{AcceptedTable}
use Rattle.analysis.specs.declared.costs.Single.{Single}
use Rattle.analysis.specs.Analysis.{OneInFront, blockers_of, least_under, counted_response}
use Rattle.analysis.specs.Responses.{demand_while}
use Rattle.analysis.specs.Covering.{covers, is_covered}
use Rattle.analysis.proofs.OrderLaws.{term-ranged}
use Rattle.analysis.proofs.AnswerLaws.{answer-means, least-means}

-- ---- in any order

all-parts : (p : Access → Bool) (xs ys : List Access) → list_all p (xs ++ ys) ≡ (list_all p xs && list_all p ys)
all-parts p [] ys = refl
all-parts p (x ∷ xs) ys = go (p x) (all-parts p xs ys)
  where
    go : (t : Bool) → list_all p (xs ++ ys) ≡ (list_all p xs && list_all p ys) → (t && list_all p (xs ++ ys)) ≡ ((t && list_all p xs) && list_all p ys)
    go true e = e
    go false e = refl

-- what is tested of each may be tested of one of them first
pub all-in-front : (p : Access → Bool) {all list : List Access} → OneInFront all list → list_all p list ≡ list_all p all
all-in-front p q =
    ap (list_all p) q.list-is
    ∙ ap (λ (b : Bool). p q.one && b) (all-parts p q.before q.behind)
    ∙ swap (p q.one) (list_all p q.before) (list_all p q.behind)
    ∙ sym (all-parts p q.before (q.one ∷ q.behind))
    ∙ sym (ap (list_all p) q.all-is)
  where
    swap : (x y z : Bool) → (x && (y && z)) ≡ (y && (x && z))
    swap true y z = refl
    swap false true z = refl
    swap false false z = refl

-- ---- the response

module _ (table : Table) (m : Single) (i : ℕ) where
  abbrev answers : Access → Response
  answers a = least_under table a m i (limit_of (at table i))

  -- it is the answer while one of them blocks
  one-answers : (n : ℕ) × (n < length (blockers_of table i)) × (answers (get_or (blockers_of table i) n blank_access) ≡ counted_response table m i)
  one-answers =
      let w = (answer-means table m i).one in
      let h : w.0 < length (blockers_of table i) = rw (← length-map (blockers_of table i) answers) w.1 in
      (w.0, h, sym (get_or-map answers (blockers_of table i) w.0 blank_access Unschedulable h) ∙ w.2)

  -- our own response is within D - J
  pub response-in-limit : (R : Ticks) → counted_response table m i ≡ Within R → R.0 ≤ limit_of (at table i)
  unfolding LeastWithin
  response-in-limit R e =
      let w = one-answers in
      let a = get_or (blockers_of table i) w.0 blank_access in
      (subst (LeastWithin (demand_while table m i a) (limit_of (at table i))) (w.2 ∙ e) (least-means table a m i (limit_of (at table i)))).0

  -- and where one access alone may block the task, or none, it covers its demand
  pub response-covered : length (blocking i (accesses_of table)) ≤ 1 → (R : Ticks) → counted_response table m i ≡ Within R → is_covered table m i R.0 ≡ true
  unfolding is_covered counted_response LeastWithin
  response-covered few R e = go (blocking i (accesses_of table)) few e
    where
      alone : (a : Access) → latest_of (answers a ∷ []) ≡ Within R → (covers table m i R.0 a && true) ≡ true
      alone a e =
          let p = subst (LeastWithin (demand_while table m i a) (limit_of (at table i))) (sym (latest-one (answers a)) ∙ e) (least-means table a m i (limit_of (at table i))) in
          ap (λ (b : Bool). b && true) (le-leb (demand_while table m i a R.0) R.0 (omega (arith, p.1)))

      go : (l : List Access) → length l ≤ 1 → latest_of (map answers (or_else empty_access l)) ≡ Within R → list_all (covers table m i R.0) (or_else empty_access l) ≡ true
      go [] h e = alone empty_access e
      go (a ∷ []) h e = alone a e
      go (a ∷ b ∷ l) h e = absurd (omega arith)

  -- a number within D - J that covers its demand is never below it
  module _ (accepted : AcceptedTable table) (here : i < table.count) where
    rises : (a : Access) → Monotone (demand_while table m i a)
    rises a = demand-mono _ i _ (λ j l. term-ranged table a m i j accepted (omega arith))

    pub covered-safe : (R : Ticks) → R.0 ≤ limit_of (at table i) → is_covered table m i R.0 ≡ true → (S : Ticks) × (counted_response table m i ≡ Within S) × (S.0 ≤ R.0)
    unfolding is_covered
    covered-safe R h e =
        let w = one-answers in
        let a = get_or (blockers_of table i) w.0 blank_access in
        let less = leb-true (demand_while table m i a R.0) R.0 (AllPass-from_list_all (covers table m i R.0) (blockers_of table i) e w.0 blank_access w.1) in
        let under = answer-under (demand_while table m i a) (rises a) (limit_of (at table i)) R.0 h less in
        (under.0, sym w.2 ∙ under.1, under.2)
