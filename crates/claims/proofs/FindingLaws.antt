-- What a finding means beside our own response.
use Rattle.std.proofs.Common.{ℕ, ◌≤◌, ◌<◌, min, arith, ◌≡◌, refl, sym, ◌∙◌, Bool, true, false, ◌&&◌, cond, ◌⊎◌, inl, inr, leb-true, leb-false, le-leb, length}
use Rattle.cache.specs.declared.units.Ticks.{Ticks}
use Rattle.search.specs.declared.demand.Response.{Response}
use Rattle.search.specs.declared.demand.Response.TheVariants.{Within, Unschedulable}
use Rattle.search.specs.Least.{sooner}
use Rattle.table.specs.Tasks.{limit_of}
use Rattle.table.specs.Accesses.{blocking}
use Rattle.table.specs.declared.Table.{Table}
use Rattle.table.specs.Tables.{at, accesses_of}
use Rattle.table.specs.Accepted.{AcceptedTable}
use Rattle.analysis.specs.declared.costs.Single.{Single}
use Rattle.analysis.specs.declared.costs.Single.TheVariants.{UcbUnion, EcbUnion}
use Rattle.analysis.specs.declared.Method.{Method}
use Rattle.analysis.specs.declared.Method.TheVariants.{Of, Combined}
use Rattle.analysis.specs.Analysis.{counted_response, response_of}
use Rattle.analysis.specs.Covering.{is_covered}
use Rattle.analysis.proofs.CoveringLaws.{response-in-limit, response-covered, covered-safe}
use Rattle.analysis.proofs.ResponseLaws.{is-sooner}
use Rattle.claims.specs.declared.finding.Finding.{Finding}
use Rattle.claims.specs.declared.finding.Finding.TheVariants.{Bad, Open, Fine}
use Rattle.claims.specs.Findings.{is_within_limit, has_several_blockers, finding_under, by_either, finding_of, FindingMeans}

-- ---- by the tests

-- the finding of a number that is within the limit or not, covers its demand or not, where several accesses may block the task or not
abbrev by_tests : Bool → Bool → Bool → Finding
by_tests w c s = cond (w && c) Fine (cond (w && s) Open Bad)

fine-tests : (w c s : Bool) → by_tests w c s ≡ Fine → (w ≡ true) × (c ≡ true)
fine-tests true true s e = (refl, refl)
fine-tests true false true e = let z : ◌≡◌ {A = ℕ} 0 1 = cc in absurd (omega arith)
fine-tests true false false e = let z : ◌≡◌ {A = ℕ} 0 1 = cc in absurd (omega arith)
fine-tests false c s e = let z : ◌≡◌ {A = ℕ} 0 1 = cc in absurd (omega arith)

bad-tests : (c s : Bool) → by_tests true c s ≡ Bad → (c ≡ false) × (s ≡ false)
bad-tests true s e = let z : ◌≡◌ {A = ℕ} 0 1 = cc in absurd (omega arith)
bad-tests false true e = let z : ◌≡◌ {A = ℕ} 0 1 = cc in absurd (omega arith)
bad-tests false false e = (refl, refl)

-- ---- under a method that counts

module _ (table : Table) (m : Single) (i : ℕ) where
  -- a number that is fine is never below our response
  counted-safe : AcceptedTable table → i < table.count → (R : Ticks) → finding_under table m i (Within R) ≡ Fine → (S : Ticks) × (counted_response table m i ≡ Within S) × (S.0 ≤ R.0)
  unfolding finding_under
  counted-safe accepted here R e =
      let t = fine-tests (is_within_limit table i R.0) (is_covered table m i R.0) (has_several_blockers table i) e in
      covered-safe table m i accepted here R (leb-true R.0 (limit_of (at table i)) t.0) t.1

  module _ (R : Ticks) (own : counted_response table m i ≡ Within R) where
    within : is_within_limit table i R.0 ≡ true
    within = le-leb R.0 (limit_of (at table i)) (response-in-limit table m i R own)

    -- our own number is fine where at most one access may block the task, and never bad
    counted-fine : length (blocking i (accesses_of table)) ≤ 1 → finding_under table m i (Within R) ≡ Fine
    unfolding finding_under
    counted-fine few = rw (within, response-covered table m i few R own) refl

    counted-not-bad : finding_under table m i (Within R) ≡ Bad → ⊥
    unfolding finding_under
    counted-not-bad e =
        let t = bad-tests (is_covered table m i R.0) (has_several_blockers table i) (rw within at e) in
        let few = leb-false 2 (length (blocking i (accesses_of table))) t.1 in
        let covered = response-covered table m i (omega arith) R own in
        let z : ◌≡◌ {A = Bool} true false = sym covered ∙ t.0 in
        differ z
      where
        differ : ◌≡◌ {A = Bool} true false → ⊥
        differ e = let z : ◌≡◌ {A = ℕ} 0 1 = cc in absurd (omega arith)

-- ---- of two methods

either-fine : (f g : Finding) → by_either f g ≡ Fine → (f ≡ Fine) ⊎ (g ≡ Fine)
either-fine Fine g e = inl refl
either-fine Open Fine e = inr refl
either-fine Open Open e = let z : ◌≡◌ {A = ℕ} 0 1 = cc in absurd (omega arith)
either-fine Open Bad e = let z : ◌≡◌ {A = ℕ} 0 1 = cc in absurd (omega arith)
either-fine Bad Fine e = inr refl
either-fine Bad Open e = let z : ◌≡◌ {A = ℕ} 0 1 = cc in absurd (omega arith)
either-fine Bad Bad e = let z : ◌≡◌ {A = ℕ} 0 1 = cc in absurd (omega arith)

both-bad : (f g : Finding) → by_either f g ≡ Bad → (f ≡ Bad) × (g ≡ Bad)
both-bad Fine g e = let z : ◌≡◌ {A = ℕ} 0 1 = cc in absurd (omega arith)
both-bad Open Fine e = let z : ◌≡◌ {A = ℕ} 0 1 = cc in absurd (omega arith)
both-bad Open Open e = let z : ◌≡◌ {A = ℕ} 0 1 = cc in absurd (omega arith)
both-bad Open Bad e = let z : ◌≡◌ {A = ℕ} 0 1 = cc in absurd (omega arith)
both-bad Bad Fine e = let z : ◌≡◌ {A = ℕ} 0 1 = cc in absurd (omega arith)
both-bad Bad Open e = let z : ◌≡◌ {A = ℕ} 0 1 = cc in absurd (omega arith)
both-bad Bad Bad e = (refl, refl)

second-fine : (f : Finding) → by_either f Fine ≡ Fine
second-fine Fine = refl
second-fine Open = refl
second-fine Bad = refl

-- the sooner of two answers of which one is a number is a number that is no larger
sooner-than-first : (S : Ticks) (b : Response) → (Q : Ticks) × (sooner (Within S) b ≡ Within Q) × (Q.0 ≤ S.0)
sooner-than-first S (Within y) = (record { 0 = min S.0 y.0 }, refl, omega arith)
sooner-than-first S Unschedulable = (S, refl, omega arith)

sooner-than-second : (a : Response) (S : Ticks) → (Q : Ticks) × (sooner a (Within S) ≡ Within Q) × (Q.0 ≤ S.0)
sooner-than-second (Within x) S = (record { 0 = min x.0 S.0 }, refl, omega arith)
sooner-than-second Unschedulable S = (S, refl, omega arith)

-- ---- what a finding means

module _ (table : Table) (accepted : AcceptedTable table) (i : ℕ) (here : i < table.count) where
  safe : (m : Method) (R : Ticks) → finding_of table m i (Within R) ≡ Fine → (S : Ticks) × (response_of table m i ≡ Within S) × (S.0 ≤ R.0)
  unfolding finding_of response_of
  safe (Of m) R e = counted-safe table m i accepted here R e
  safe Combined R e = elim (either-fine (finding_under table UcbUnion i (Within R)) (finding_under table EcbUnion i (Within R)) e) [ inl f ↦ first f | inr f ↦ second f ]
    where
      first : finding_under table UcbUnion i (Within R) ≡ Fine → (S : Ticks) × (sooner (counted_response table UcbUnion i) (counted_response table EcbUnion i) ≡ Within S) × (S.0 ≤ R.0)
      first f =
          let w = counted-safe table UcbUnion i accepted here R f in
          let q = sooner-than-first w.0 (counted_response table EcbUnion i) in
          (q.0, rw w.1 q.1, omega (arith, w.2, q.2))

      second : finding_under table EcbUnion i (Within R) ≡ Fine → (S : Ticks) × (sooner (counted_response table UcbUnion i) (counted_response table EcbUnion i) ≡ Within S) × (S.0 ≤ R.0)
      second f =
          let w = counted-safe table EcbUnion i accepted here R f in
          let q = sooner-than-second (counted_response table UcbUnion i) w.0 in
          (q.0, rw w.1 q.1, omega (arith, w.2, q.2))

-- our own response under combined is that of one of the unions
module _ (table : Table) (i : ℕ) where
  of-a-union : (R : Ticks) → sooner (counted_response table UcbUnion i) (counted_response table EcbUnion i) ≡ Within R
      → (counted_response table UcbUnion i ≡ Within R) ⊎ (counted_response table EcbUnion i ≡ Within R)
  of-a-union R e = elim (is-sooner (counted_response table UcbUnion i) (counted_response table EcbUnion i)).one [ inl q ↦ inl (sym q ∙ e) | inr q ↦ inr (sym q ∙ e) ]

  own-fine : (m : Method) (R : Ticks) → response_of table m i ≡ Within R → length (blocking i (accesses_of table)) ≤ 1 → finding_of table m i (Within R) ≡ Fine
  unfolding finding_of response_of
  own-fine (Of m) R e few = counted-fine table m i R e few
  own-fine Combined R e few = elim (of-a-union R e) [
    | inl q ↦ rw (counted-fine table UcbUnion i R q few) refl
    | inr q ↦ rw (counted-fine table EcbUnion i R q few) (second-fine (finding_under table UcbUnion i (Within R)))
  ]

  own-not-bad : (m : Method) (R : Ticks) → response_of table m i ≡ Within R → finding_of table m i (Within R) ≡ Bad → ⊥
  unfolding finding_of response_of
  own-not-bad (Of m) R e f = counted-not-bad table m i R e f
  own-not-bad Combined R e f =
      let both = both-bad (finding_under table UcbUnion i (Within R)) (finding_under table EcbUnion i (Within R)) f in
      elim (of-a-union R e) [ inl q ↦ counted-not-bad table UcbUnion i R q both.0 | inr q ↦ counted-not-bad table EcbUnion i R q both.1 ]

-- that there is no response is open, and so not bad
pub none-open : (table : Table) (m : Method) (i : ℕ) → finding_of table m i Unschedulable ≡ Bad → ⊥
unfolding finding_of finding_under
none-open table (Of m) i e = let z : ◌≡◌ {A = ℕ} 0 1 = cc in absurd (omega arith)
none-open table Combined i e = let z : ◌≡◌ {A = ℕ} 0 1 = cc in absurd (omega arith)

pub finding-means : (table : Table) → AcceptedTable table → (m : Method) (i : ℕ) → i < table.count → (claim : Response) (f : Finding) → f ≡ finding_of table m i claim
    → record { value : f ≡ finding_of table m i claim; means : FindingMeans table m i claim f }
finding-means table accepted m i here (Within Q) f e = record {
  value = e;
  means = record {
    fine-is-safe = λ R is g. let same : Q ≡ R = cc in rw (← same) (safe table accepted i here m Q (sym e ∙ g));
    own-not-bad = λ R is own g. own-not-bad table i m Q own (sym e ∙ g);
    own-fine = λ R is own few. e ∙ own-fine table i m Q own few;
  };
}
finding-means table accepted m i here Unschedulable f e = record {
  value = e;
  means = record {
    fine-is-safe = λ R is g. let z : ◌≡◌ {A = ℕ} 0 1 = cc in absurd (omega arith);
    own-not-bad = λ R is own g. let z : ◌≡◌ {A = ℕ} 0 1 = cc in absurd (omega arith);
    own-fine = λ R is own few. let z : ◌≡◌ {A = ℕ} 0 1 = cc in absurd (omega arith);
  };
}
