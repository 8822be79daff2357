-- Every answer for an accepted table bounds every job of every run of it.
use Rattle.std.proofs.Common.{ℕ, ◌+◌, ◌*◌, min, ◌≤◌, ◌<◌, mul-le-mul_left, arith, ◌≡◌, ap, true, ◌⊎◌, ⊎_elim, inl, inr, ltb, leb, lt-ltb, le-leb, ltb-true, leb-true}
use Rattle.std.proofs.Math.Decide.{dec_le}
use Rattle.std.proofs.lemmas.Bool.{and_from}
use Rattle.cache.specs.declared.units.Ticks.{Ticks}
use Rattle.cache.proofs.SetLaws.{and_left, and_right}
use Rattle.search.specs.Demand.{NoMore}
use Rattle.search.specs.declared.demand.Response.{Response}
use Rattle.search.specs.declared.demand.Response.TheVariants.{Within, Unschedulable}
use Rattle.search.specs.Least.{sooner}
use Rattle.search.proofs.DemandLaws.{demand-more}
use Rattle.table.specs.Accesses.{may_block, added_by, empty_access}
use Rattle.table.specs.declared.accesses.Access.{Access}
use Rattle.table.specs.declared.Table.{Table}
use Rattle.table.specs.Tables.{ways_in, at, access_at}
use Rattle.table.specs.Accepted.{AcceptedTable}
use Rattle.analysis.specs.declared.costs.Single.{Single}
use Rattle.analysis.specs.declared.costs.Single.TheVariants.{None as NoReloads, EcbOnly, UcbOnly, UcbUnion, EcbUnion}
use Rattle.analysis.specs.Costs.{ucb_of, ecb_of, reloads_with, term_under}
use Rattle.analysis.specs.declared.Method.{Method}
use Rattle.analysis.specs.declared.Method.TheVariants.{Of, Combined}
use Rattle.analysis.specs.Analysis.{counted_response, response_of}
use Rattle.runs.specs.model.Jobs.{Constrained}
use Rattle.runs.specs.Equation.{added, Count, by_ecb, by_ucb, by_ucb_union, by_ecb_union, charge, term_charged, CanBlock, Answers}
use Rattle.runs.specs.Theorem.{AnswersInTime}
use Rattle.runs.proofs.Theorem.{answers-bound}
use Rattle.every_run.specs.TableRuns.{promised_task, promised_access, system_of}
use Rattle.every_run.specs.Bounds.{BoundsRuns}
use Rattle.every_run.proofs.Counts.{ecb-only, ucb-only, ucb-union, ecb-union, adds, adds-none}
use Rattle.every_run.proofs.Blockers.{in-limit, access-solved, plain-solved}

-- ---- what a table says in the words of the model

pub constrained : (table : Table) → AcceptedTable table → (j : ℕ) → j < table.count → Constrained (promised_task table j)
constrained table accepted j l = let p = accepted.tasks j l in record { live = p.period.0; jitter = p.jitter; deadline = p.deadline.1 }

may : (i : ℕ) (table : Table) (q : ℕ) → CanBlock (promised_access table q) i → may_block i (access_at table q) ≡ true
may i table q p = and_from _ _ (lt-ltb i (access_at table q).task p.0) (le-leb (access_at table q).ceiling i p.1)

may-is : (i : ℕ) (table : Table) (q : ℕ) → may_block i (access_at table q) ≡ true → CanBlock (promised_access table q) i
may-is i table q e =
    let a = access_at table q in
    (ltb-true i a.task (and_left (ltb i a.task) (leb a.ceiling i) e), leb-true a.ceiling i (and_right (ltb i a.task) (leb a.ceiling i) e))

-- what a method charges while an access blocks
abbrev charged : Table → Access → Single → ℕ → ℕ → ℕ
charged table a m i j = reloads_with (ways_in table) (ucb_of table) (ecb_of table) (added_by (ways_in table) a j) a.task m i j

module _ (table : Table) (accepted : AcceptedTable table) (i : ℕ) (there : i < table.count) where
  no-more : (brt : ℕ) (g h : ℕ → ℕ) → ((j : ℕ) → j < i → brt * g j ≤ table.brt.0 * h j) → (j : ℕ) → j < i
      → NoMore (term_charged (system_of table brt) g j) (term_charged (system_of table table.brt.0) h j)
  no-more brt g h less j l = record {
    live = (accepted.tasks j (omega arith)).period.0;
    period = omega arith;
    jitter = omega arith;
    weight = omega (arith, less j l);
  }

  -- an answer is one of the model's, where that charges no more
  answers : (m : Single) (c : Count) (brt : ℕ)
      → ((j : ℕ) → j < i → brt * charge (system_of table brt) (λ s. 0) c i j ≤ table.brt.0 * charged table empty_access m i j)
      → ((q j : ℕ) → j < i → brt * charge (system_of table brt) (added (promised_access table q) j) c i j ≤ table.brt.0 * charged table (access_at table q) m i j)
      → (R : Ticks) → Within R ≡ counted_response table m i → Answers (system_of table brt) c i R.0
  answers m c brt none each R e = record {
    each = λ q l b.
        (let a = access_at table q in let own = (at table i).work.0 + a.lasts.0 in let w = access-solved table m i R e accepted q l (may i table q b) in
        let g : ℕ → ℕ = λ j. charge (system_of table brt) (added (promised_access table q) j) c i j in (
          w.0,
          w.1,
          omega (
            arith,
            w.2,
            demand-more (term_charged (system_of table brt) g) (term_under table a m i) i own own (omega arith) (no-more brt g (charged table a m i) (each q)) w.0,
          ),
        ));
    none = λ free.
        (let own = (at table i).work.0 in
        let g : ℕ → ℕ = λ j. charge (system_of table brt) (λ s. 0) c i j in
        omega (
          arith,
          plain-solved table m i R e accepted (λ q l f. free q l (may-is i table q f)),
          demand-more (term_charged (system_of table brt) g) (term_under table empty_access m i) i own (own + 0) (omega arith)
              (no-more brt g (charged table empty_access m i) none) R.0,
        ));
  }

  in-time : (m : Single) (c : Count) (brt : ℕ)
      → ((j : ℕ) → j < i → brt * charge (system_of table brt) (λ s. 0) c i j ≤ table.brt.0 * charged table empty_access m i j)
      → ((q j : ℕ) → j < i → brt * charge (system_of table brt) (added (promised_access table q) j) c i j ≤ table.brt.0 * charged table (access_at table q) m i j)
      → (R : Ticks) → Within R ≡ counted_response table m i → AnswersInTime (system_of table brt) i R.0
  in-time m c brt none each R e = record {
    sane = constrained table accepted;
    there = there;
    count = c;
    answers = answers m c brt none each R e;
    in_time = omega (arith, in-limit table m i R e, (accepted.tasks i there).jitter);
  }

  -- method 0, where a reload takes no time
  without-cache : (R : Ticks) → Within R ≡ counted_response table NoReloads i → AnswersInTime (system_of table 0) i R.0
  without-cache = in-time NoReloads by_ecb 0 (λ j l. omega arith) (λ q j l. omega arith)

  -- the others
  abbrev few : table.sets ≤ 256
  few = accepted.sets.1

  abbrev brt : ℕ
  brt = table.brt.0

  by-ecb-only : (R : Ticks) → Within R ≡ counted_response table EcbOnly i → AnswersInTime (system_of table brt) i R.0
  by-ecb-only =
      in-time EcbOnly by_ecb brt (λ j l. mul-le-mul_left brt (ecb-only table few brt _ _ (adds-none table j) _ i j l))
      (λ q j l. mul-le-mul_left brt (ecb-only table few brt _ _ (adds table q j) _ i j l))

  by-ucb-only : (R : Ticks) → Within R ≡ counted_response table UcbOnly i → AnswersInTime (system_of table brt) i R.0
  by-ucb-only =
      in-time UcbOnly by_ucb brt (λ j l. mul-le-mul_left brt (ucb-only table few brt _ _ (adds-none table j) _ i j l))
      (λ q j l. mul-le-mul_left brt (ucb-only table few brt _ _ (adds table q j) _ i j l))

  by-ucb-union : (R : Ticks) → Within R ≡ counted_response table UcbUnion i → AnswersInTime (system_of table brt) i R.0
  by-ucb-union =
      in-time UcbUnion by_ucb_union brt (λ j l. mul-le-mul_left brt (ucb-union table few brt _ _ (adds-none table j) _ i j l))
      (λ q j l. mul-le-mul_left brt (ucb-union table few brt _ _ (adds table q j) _ i j l))

  by-ecb-union : (R : Ticks) → Within R ≡ counted_response table EcbUnion i → AnswersInTime (system_of table brt) i R.0
  by-ecb-union =
      in-time EcbUnion by_ecb_union brt (λ j l. mul-le-mul_left brt (ecb-union table few brt _ _ (adds-none table j) _ i j l))
      (λ q j l. mul-le-mul_left brt (ecb-union table few brt _ _ (adds table q j) _ i j l))

-- the sooner of two answers is one of them
one-of : (a b : Response) (R : Ticks) → Within R ≡ sooner a b → (Within R ≡ a) ⊎ (Within R ≡ b)
one-of (Within x) (Within y) R e = go (dec_le x.0 y.0)
  where
    v : R.0 ≡ min x.0 y.0
    v = let same : R ≡ record { 0 = min x.0 y.0 } = cc in ap (λ (t : Ticks). t.0) same

    within : (m n : ℕ) → m ≡ n → ◌≡◌ {A = Response} (Within (record { 0 = m })) (Within (record { 0 = n }))
    within m n e = ap (λ (n : ℕ). Within (record { 0 = n })) e

    go : Dec (x.0 ≤ y.0) → (Within R ≡ Within x) ⊎ (Within R ≡ Within y)
    go (yes l) = inl (within R.0 x.0 (omega (arith, v)))
    go (no l) = inr (within R.0 y.0 (omega (arith, v)))
one-of (Within x) Unschedulable R e = inl e
one-of Unschedulable b R e = inr e

-- THE THEOREM, over tables
pub bounded : (table : Table) → AcceptedTable table → (m : Method) (i : ℕ) → i < table.count → (R : Ticks) → Within R ≡ response_of table m i → BoundsRuns table m i R.0
unfolding response_of
bounded table accepted (Of NoReloads) i there R e = answers-bound (system_of table 0) i R.0 (without-cache table accepted i there R e)
bounded table accepted (Of EcbOnly) i there R e = answers-bound (system_of table table.brt.0) i R.0 (by-ecb-only table accepted i there R e)
bounded table accepted (Of UcbOnly) i there R e = answers-bound (system_of table table.brt.0) i R.0 (by-ucb-only table accepted i there R e)
bounded table accepted (Of UcbUnion) i there R e = answers-bound (system_of table table.brt.0) i R.0 (by-ucb-union table accepted i there R e)
bounded table accepted (Of EcbUnion) i there R e = answers-bound (system_of table table.brt.0) i R.0 (by-ecb-union table accepted i there R e)
bounded table accepted Combined i there R e =
    answers-bound (system_of table table.brt.0) i R.0
    (⊎_elim (by-ucb-union table accepted i there R) (by-ecb-union table accepted i there R)
    (one-of (counted_response table UcbUnion i) (counted_response table EcbUnion i) R e))
