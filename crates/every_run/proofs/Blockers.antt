-- What an answer says of each access that may block the task.
use Rattle.std.proofs.Common.{ℕ, zero, suc, ◌+◌, ◌≤◌, ◌<◌, arith, ◌≡◌, refl, sym, ap, subst, ◌∙◌, Bool, true, false, cond, List, [], ◌∷◌, map, length, get_or, length-take-le}
use Rattle.std.proofs.lemmas.List.{get_or-map, length-map}
use Rattle.cache.specs.declared.units.Ticks.{Ticks}
use Rattle.search.specs.declared.demand.Response.{Response}
use Rattle.search.specs.declared.demand.Response.TheVariants.{Within, Unschedulable}
use Rattle.search.specs.Demand.{demand_of}
use Rattle.search.specs.Least.{LeastWithin, NoLater, latest_of}
use Rattle.search.proofs.LeastLaws.{answer-reached}
use Rattle.search.proofs.LaterLaws.{latest-one}
use Rattle.table.specs.Tasks.{limit_of}
use Rattle.table.specs.declared.accesses.Access.{Access}
use Rattle.table.specs.Accesses.{may_block, blocking, or_else, empty_access, blank_access}
use Rattle.table.proofs.BlockingLaws.{Every, every_of}
use Rattle.table.specs.declared.Table.{Table}
use Rattle.table.specs.Tables.{at, accesses_of, access_at}
use Rattle.table.specs.Accepted.{AcceptedTable}
use Rattle.analysis.specs.declared.costs.Single.{Single}
use Rattle.analysis.specs.Costs.{term_under}
use Rattle.analysis.specs.Analysis.{blockers_of, least_under, counted_response}
use Rattle.analysis.proofs.AnswerLaws.{answer-means, least-means}

-- what holds of each of some accesses that may block holds of one of them
blocking-has : (Q : Access → Type 0) (i : ℕ) (l : List Access) (d : Access) → Every Q (blocking i l)
    → (n : ℕ) → n < length l → may_block i (get_or l n d) ≡ true → Q (get_or l n d)
blocking-has Q i [] d p n h e = absurd (omega arith)
blocking-has Q i (a ∷ l) d p zero h e = (rw e at p).0
blocking-has Q i (a ∷ l) d p (suc n) h e = blocking-has Q i l d (rest (may_block i a) p) n (omega arith) e
  where
    rest : (t : Bool) → Every Q (cond t (a ∷ blocking i l) (blocking i l)) → Every Q (blocking i l)
    rest true p = p.1
    rest false p = p

-- and where none may there is none
blocking-none : (i : ℕ) (l : List Access) (d : Access) → ((n : ℕ) → n < length l → may_block i (get_or l n d) ≡ true → ⊥) → blocking i l ≡ []
blocking-none i [] d p = refl
blocking-none i (a ∷ l) d p = go (may_block i a) refl (blocking-none i l d (λ n h. p (suc n) (omega arith)))
  where
    go : (t : Bool) → may_block i a ≡ t → blocking i l ≡ [] → cond t (a ∷ blocking i l) (blocking i l) ≡ []
    go true e q = absurd (p 0 (omega arith) e)
    go false e q = q

module _ (table : Table) (m : Single) (i : ℕ) (R : Ticks) (answer : Within R ≡ counted_response table m i) where
  abbrev answer_while : Access → Response
  answer_while a = least_under table a m i (limit_of (at table i))

  abbrev demand_while : Access → ℕ → ℕ
  demand_while a = demand_of ((at table i).work.0 + a.lasts.0) (term_under table a m i) i

  -- a time that is no later solves the equation while the access blocks
  abbrev pub Solved : Access → Type 0
  Solved a = (r : ℕ) × (r ≤ R.0) × (r ≡ demand_while a r)

  solved-by : (a : Access) (x : Response) → LeastWithin (demand_while a) (limit_of (at table i)) x → NoLater x (Within R) → Solved a
  unfolding LeastWithin NoLater
  solved-by a (Within r) p q = (r.0, q, p.1)
  solved-by a Unschedulable p q = absurd q

  at-place : (n : ℕ) → n < length (blockers_of table i) → get_or (map answer_while (blockers_of table i)) n Unschedulable ≡ answer_while (get_or (blockers_of table i) n blank_access)
  at-place n h = get_or-map answer_while (blockers_of table i) n blank_access Unschedulable h

  pub each-solved : Every Solved (blockers_of table i)
  each-solved =
      every_of Solved (blockers_of table i) blank_access
      (λ n h. let a = get_or (blockers_of table i) n blank_access in
      solved-by a (answer_while a) (least-means table a m i (limit_of (at table i)))
      (subst (λ (x : Response). NoLater x (Within R)) (at-place n h)
      (subst (λ (x : Response). NoLater (get_or (map answer_while (blockers_of table i)) n Unschedulable) x) (sym answer)
      ((answer-means table m i).each n (rw length-map h)))))

  -- the answer is within the limit
  pub in-limit : R.0 ≤ limit_of (at table i)
  unfolding LeastWithin
  in-limit =
      let w = (answer-means table m i).one in
      let h : w.0 < length (blockers_of table i) = omega (arith, length-map (blockers_of table i) answer_while, w.1) in
      let a = get_or (blockers_of table i) w.0 blank_access in
      (subst (LeastWithin (demand_while a) (limit_of (at table i)))
      (sym (at-place w.0 h) ∙ w.2 ∙ sym answer)
      (least-means table a m i (limit_of (at table i)))).0

  module _ (accepted : AcceptedTable table) where
    long : (q : ℕ) → q < table.access_count → q < length (accesses_of table)
    long q h = omega (arith, length-take-le table.access_count table.accesses accepted.listed)

    -- so while the access of a line blocks that may
    pub access-solved : (q : ℕ) → q < table.access_count → may_block i (access_at table q) ≡ true → Solved (access_at table q)
    unfolding access_at
    access-solved q h e = blocking-has Solved i (accesses_of table) blank_access (chosen (blocking i (accesses_of table)) each-solved) q (long q h) e
      where
        chosen : (l : List Access) → Every Solved (or_else empty_access l) → Every Solved l
        chosen [] p = tt
        chosen (a ∷ l) p = p

    -- and where none may, the answer solves the plain one
    pub plain-solved : ((q : ℕ) → q < table.access_count → may_block i (access_at table q) ≡ true → ⊥) → R.0 ≡ demand_while empty_access R.0
    unfolding access_at counted_response
    plain-solved none =
        let e = blocking-none i (accesses_of table) blank_access (λ n h. none n (omega (arith, length-take-le table.access_count table.accesses accepted.listed))) in
        (answer-reached (demand_while empty_access) (limit_of (at table i)) R
        (answer
        ∙ ap (λ (l : List Access). latest_of (map answer_while (or_else empty_access l))) e
        ∙ latest-one (answer_while empty_access))).2
