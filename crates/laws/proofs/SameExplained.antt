-- Of tables that are the same as far as a task its explanation is the same, byte for byte: it names tasks that are the same, and the task of the access that blocks it.
use Rattle.std.proofs.Common.{ℕ, zero, suc, ◌+◌, ◌-◌, ◌≤◌, ◌<◌, zero-le, arith, ◌≡◌, refl, sym, ap, ap₂, ◌∙◌, List, [], ◌∷◌, ◌++◌, flat_map}
use Rattle.std.proofs.lemmas.Grind.{flat_map-append}
use Rattle.search.specs.declared.demand.Response.{Response}
use Rattle.search.specs.declared.demand.Response.TheVariants.{Within, Unschedulable}
use Rattle.search.specs.Positions.{run, hp}
use Rattle.table.specs.declared.tasks.Task.{Task}
use Rattle.table.specs.Tasks.{name_text, name_in}
use Rattle.table.specs.declared.accesses.Access.{Access}
use Rattle.table.specs.Accesses.{blocking, empty_access, blank_access}
use Rattle.table.proofs.BlockingLaws.{Pairwise, pairwise-or}
use Rattle.table.specs.declared.Table.{Table}
use Rattle.table.specs.Tables.{at, accesses_of}
use Rattle.analysis.specs.declared.costs.Single.{Single}
use Rattle.analysis.specs.declared.costs.Charge.{Charge}
use Rattle.analysis.specs.declared.costs.Charge.TheVariants.{Victim, NoVictim}
use Rattle.analysis.specs.Costs.{charge_under}
use Rattle.analysis.specs.declared.Method.{Method}
use Rattle.analysis.specs.Analysis.{blockers_of}
use Rattle.analysis.specs.declared.need.Need.{Need}
use Rattle.analysis.specs.Needs.{need_of}
use Rattle.analysis.specs.Same.{unowned, unowned_need, SameDownTo, SameNamesDownTo}
use Rattle.analysis.proofs.SameLaws.{Alike, AlikeNeeds, victim_told, pairwise-maps, pairwise-and, blockers-alike, reloads-same, victim-same, need-same}
use Rattle.writing.specs.Text.{spelled, line_of}
use Rattle.report.specs.Explanation.{need_line, activations_in, name_at, victim_text, reason_line, reason_lines, explanation_by, explanation_of}

-- lines one after the other, each the same
lines-same : (F G : ℕ → List ℕ) (n : ℕ) → ((j : ℕ) → j < n → F j ≡ G j) → flat_map F (run 0 n) ≡ flat_map G (run 0 n)
unfolding run
lines-same F G zero same = refl
lines-same F G (suc n) same =
    flat_map-append F (run 0 n) ((0 + n) ∷ []) ∙ ap₂ (λ (xs ys : List ℕ). xs ++ (ys ++ [])) (lines-same F G n (λ j h. same j (omega arith))) (same (0 + n) (omega arith))
    ∙ sym (flat_map-append G (run 0 n) ((0 + n) ∷ []))

victim-word : (table : Table) (g : Charge) → victim_text table g ≡ victim_told (45 ∷ []) (name_at table) g
victim-word table (Victim h) = refl
victim-word table (NoVictim n) = refl

-- what the line of a task says, by its activations, its reloads and the name of the victim
abbrev line_by : ℕ → Task → ℕ → List ℕ → List ℕ
line_by R t n victim = line_of (73 ∷ []) (name_text t.name ∷ spelled (activations_in R t) ∷ spelled n ∷ victim ∷ [])

-- the need, whosever the access is that blocks
alike-needs : (R : Access → Access → Type 0) → ((a b : Access) → R a b → Alike a b) → (x y : Need) → AlikeNeeds R x y → unowned_need x ≡ unowned_need y
alike-needs R alike x y p = λ k. record { method = p.method k; time = p.time k; blocker = alike x.blocker y.blocker p.blocker k }

pub unowned-needs : (i : ℕ) (first second : Table) → SameDownTo i first second → (m : Method) → unowned_need (need_of first m i) ≡ unowned_need (need_of second m i)
unowned-needs i first second same m =
    alike-needs Alike (λ a b e. e) (need_of first m i) (need_of second m i)
    (need-same i first second same Alike refl (λ a b e. e) (blockers-alike i first second same) m)

module _ (i : ℕ) (first second : Table) (p : SameNamesDownTo i first second) where
  abbrev Named : Access → Access → Type 0
  Named a b = name_in (at first a.task) ≡ name_in (at second b.task)

  abbrev Owned : Access → Access → Type 0
  Owned a b = Alike a b × Named a b

  names-above : (k : ℕ) → k ≤ i → name_in (at first k) ≡ name_in (at second k)
  names-above k h = ap name_in (p.same.tasks k h)

  blank-owned : Owned blank_access blank_access
  blank-owned = (refl, names-above 0 zero-le)

  blockers-owned : Pairwise Owned (blockers_of first i) (blockers_of second i)
  blockers-owned =
      let l = blocking i (accesses_of first) in
      let r = blocking i (accesses_of second) in
      pairwise-or Owned empty_access empty_access l r (refl, names-above 0 zero-le)
      (pairwise-and Alike Named l r (pairwise-maps unowned unowned l r p.same.accesses)
      (pairwise-maps (λ a. name_in (at first a.task)) (λ a. name_in (at second a.task)) l r p.owners))

  needs : (m : Method) → AlikeNeeds Owned (need_of first m i) (need_of second m i)
  needs m = need-same i first second p.same Owned blank-owned (λ a b o. o.0) blockers-owned m

  -- the first line
  first-line : (x y : Need) → AlikeNeeds Owned x y → need_line (at first i) x ≡ need_line (at second i) y
  unfolding need_line
  first-line x y q = ap₂ need_line (p.same.tasks i (omega arith)) (alike-needs Owned (λ a b o. o.0) x y q)

  -- the line of a task above
  module _ (a b : Access) (owned : Owned a b) (m : Single) (R : ℕ) where
    one-line : (j : ℕ) → j < i
        → reason_line first R j (charge_under first a m i j) ≡ reason_line second R j (charge_under second b m i j)
    unfolding reason_line
    one-line j above =
        let count = reloads-same i first second p.same a b owned.0 m j above in
        let victim : victim_text first (charge_under first a m i j) ≡ victim_text second (charge_under second b m i j) =
        victim-word first (charge_under first a m i j)
        ∙ victim-same i first second p.same a b owned.0 m j above (45 ∷ []) (name_at first) (name_at second) (λ k h. ap name_text (names-above k h)) (ap name_text owned.1)
        ∙ sym (victim-word second (charge_under second b m i j)) in
        λ k. line_by R (p.same.tasks j (omega arith) k) (count k) (victim k)

    all-lines : flat_map (λ j. reason_line first R j (charge_under first a m i j)) (hp i)
        ≡ flat_map (λ j. reason_line second R j (charge_under second b m i j)) (hp i)
    all-lines = lines-same _ _ (i - 0) (λ j h. one-line j (omega arith))

  other-lines : (a b : Access) → Owned a b → (m : Single) (r : Response) → reason_lines first a m i r ≡ reason_lines second b m i r
  other-lines a b owned m (Within R) = all-lines a b owned m R.0
  other-lines a b owned m Unschedulable = refl

  explained-alike : (x y : Need) → AlikeNeeds Owned x y → explanation_by first i x ≡ explanation_by second i y
  explained-alike x y q =
      ap₂ ◌++◌ (first-line x y q)
      (other-lines x.blocker y.blocker q.blocker x.method x.time ∙ ap₂ (λ (m : Single) (r : Response). reason_lines second y.blocker m i r) q.method q.time)

  pub explanation-same : (m : Method) → explanation_of first m i ≡ explanation_of second m i
  unfolding explanation_of
  explanation-same m = explained-alike (need_of first m i) (need_of second m i) (needs m)
