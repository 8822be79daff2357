-- A table with a task put in is harder, each task at its place; and for the tasks above that one it is the same.
use Rattle.std.proofs.Common.{ℕ, suc, ◌+◌, ◌≤◌, ◌<◌, le_refl, arith, ◌≡◌, refl, sym, ap, ap₂, subst, ◌∙◌, Bool, true, false, cond, ◌&&◌, List, [], ◌∷◌, map, length, get_or, ltb, leb, lt-ltb, le-ltb, leb-true, length-take-le}
use Rattle.std.proofs.Math.Bool.{and-eq-true_iff}
use Rattle.std.proofs.Math.Decide.{dec_lt}
use Rattle.std.specs.List.{insert}
use Rattle.std.proofs.lemmas.Bool.{lt-leb}
use Rattle.std.proofs.lemmas.List.{length-map, get_or-map}
use Rattle.std.proofs.lemmas.List.Edits.{length-insert, get_or-insert_below, get_or-insert_above}
use Rattle.cache.specs.declared.units.Ticks.{Ticks}
use Rattle.cache.specs.UsefulField.{ways_of}
use Rattle.search.specs.Least.{NoLater}
use Rattle.table.specs.declared.tasks.Task.{Task}
use Rattle.table.specs.Tasks.{name_in, blank}
use Rattle.table.specs.declared.accesses.Access.{Access}
use Rattle.table.specs.Accesses.{may_block, blocking, blank_access}
use Rattle.table.specs.declared.Table.{Table}
use Rattle.table.specs.Tables.{ways_in, tasks_of, at, accesses_of, access_at}
use Rattle.table.specs.Accepted.{AcceptedTable}
use Rattle.analysis.specs.declared.Method.{Method}
use Rattle.analysis.specs.Harder.{HarderTask, HarderAccess, HarderBy}
use Rattle.analysis.specs.Same.{unowned, SameNamesDownTo}
use Rattle.analysis.specs.Analysis.{response_of}
use Rattle.analysis.proofs.TableLaws.{tasks-counted}
use Rattle.analysis.proofs.Orders.{response-place}
use Rattle.laws.specs.Added.{place_after, moved_by, TaskAdded}

-- ---- places

module _ (p : ℕ) where
  pub place-below : (k : ℕ) → k < p → place_after p k ≡ k
  place-below k h = rw (lt-ltb k p h) refl

  pub place-from : (k : ℕ) → p ≤ k → place_after p k ≡ k + 1
  place-from k h = rw (le-ltb k p h) refl

  place-rises : (k : ℕ) → place_after p k < place_after p (suc k)
  place-rises k = elim (dec_lt k p) [
    | yes l ↦ elim (dec_lt (suc k) p) [
      | yes m ↦ omega (arith, place-below k l, place-below (suc k) m)
      | no m ↦ omega (arith, place-below k l, place-from (suc k) (omega arith))
    ]
    | no l ↦ omega (arith, place-from k (omega arith), place-from (suc k) (omega arith))
  ]

  pub place-most : (k : ℕ) → place_after p k ≤ k + 1
  place-most k = elim (dec_lt k p) [ yes l ↦ omega (arith, place-below k l) | no l ↦ omega (arith, place-from k (omega arith)) ]

  -- for a task above, the same accesses may block it
  module _ (i : ℕ) (above : i < p) where
    below-same : (k : ℕ) → ltb i (place_after p k) ≡ ltb i k
    below-same k = elim (dec_lt k p) [
      | yes l ↦ ap (ltb i) (place-below k l)
      | no l ↦ ap (ltb i) (place-from k (omega arith)) ∙ lt-ltb i (k + 1) (omega arith) ∙ sym (lt-ltb i k (omega arith))
    ]

    above-same : (k : ℕ) → leb (place_after p k) i ≡ leb k i
    above-same k = elim (dec_lt k p) [
      | yes l ↦ ap (λ (n : ℕ). leb n i) (place-below k l)
      | no l ↦ ap (λ (n : ℕ). leb n i) (place-from k (omega arith)) ∙ lt-leb (k + 1) i (omega arith) ∙ sym (lt-leb k i (omega arith))
    ]

    blocks-same : (a : Access) → may_block i (moved_by p a) ≡ may_block i a
    blocks-same a = ap₂ ◌&&◌ (below-same a.task) (above-same a.ceiling)

    -- a fact of each that may
    blocking-maps : {X : Type 0} (f g : Access → X) (l : List Access) → ((a : Access) → a.ceiling ≤ i → f a ≡ g (moved_by p a))
        → map f (blocking i l) ≡ map g (blocking i (map (moved_by p) l))
    blocking-maps f g [] each = refl
    blocking-maps {X} f g (a ∷ l) each = rw (blocks-same a) (go (may_block i a) refl (blocking i l) (blocking i (map (moved_by p) l)) (blocking-maps f g l each))
      where
        go : (t : Bool) → may_block i a ≡ t → (r s : List Access) → map f r ≡ map g s → map f (cond t (a ∷ r) r) ≡ map g (cond t (moved_by p a ∷ s) s)
        go true e r s q = ap₂ (λ (x : X) (xs : List X). x ∷ xs) (each a (leb-true _ _ ((and-eq-true_iff (ltb i a.task) (leb a.ceiling i)).0 e).1)) q
        go false e r s q = q

-- ---- tables

module _ (p : ℕ) (t : Task) (first second : Table) (added : TaskAdded p t first second) (accepted : AcceptedTable first) (accepted' : AcceptedTable second) where
  within : p ≤ length (tasks_of first)
  within = omega (arith, tasks-counted first accepted, added.held)

  pub one-more : second.count ≡ first.count + 1
  one-more =
      sym (tasks-counted second accepted') ∙ ap length added.tasks ∙ length-insert (tasks_of first) p t within
      ∙ ap (λ (n : ℕ). n + 1) (tasks-counted first accepted)

  -- each task stands at its place
  pub task-place : (k : ℕ) → at second (place_after p k) ≡ at first k
  unfolding at
  task-place k =
      ap (λ (ts : List Task). get_or ts (place_after p k) blank) added.tasks
      ∙ elim (dec_lt k p) [
        | yes l ↦
            ap (λ (n : ℕ). get_or (insert (tasks_of first) p t) n blank) (place-below p k l)
            ∙ get_or-insert_below (tasks_of first) p t blank k l within
        | no l ↦
            ap (λ (n : ℕ). get_or (insert (tasks_of first) p t) n blank) (place-from p k (omega arith))
            ∙ get_or-insert_above (tasks_of first) p t blank k (omega arith) within
      ]

  ways-same : ways_in first ≡ ways_in second
  ways-same = ap ways_of added.form

  harder-same : (k : ℕ) → HarderTask (ways_in first) (at first k) (at second (place_after p k))
  harder-same k =
      subst (λ (t : Task). HarderTask (ways_in first) (at first k) t) (sym (task-place k))
      (record { work = le_refl _; period = le_refl _; deadline = le_refl _; jitter = le_refl _; ucb = λ s. le_refl _; ecb = λ s h. h })

  counted : (table : Table) → AcceptedTable table → length (accesses_of table) ≡ table.access_count
  counted table h = length-take-le table.access_count table.accesses h.listed

  same-count : first.access_count ≡ second.access_count
  same-count =
      sym (counted first accepted) ∙ sym (length-map (accesses_of first) (moved_by p)) ∙ sym (ap length added.accesses) ∙ counted second accepted'

  access-place : (n : ℕ) → n < first.access_count → access_at second n ≡ moved_by p (access_at first n)
  unfolding access_at
  access-place n h =
      ap (λ (l : List Access). get_or l n blank_access) added.accesses
      ∙ get_or-map (moved_by p) (accesses_of first) n blank_access blank_access (omega (arith, counted first accepted))

  harder-access : (n : ℕ) → n < first.access_count → HarderAccess (ways_in first) (place_after p) (access_at first n) (access_at second n)
  harder-access n h =
      subst (λ (a : Access). HarderAccess (ways_in first) (place_after p) (access_at first n) a) (sym (access-place n h))
      (record { task = refl; ceiling = refl; lasts = le_refl _; ucb = λ s. le_refl _ })

  pub added-harder : (i : ℕ) → i < first.count → HarderBy (place_after p) i first second
  added-harder i held = record {
    rises = place-rises p;
    ways = ways-same;
    brt = omega (arith, ap (λ (t : Ticks). t.0) added.brt);
    held = λ k h. omega (arith, place-most p k, one-more);
    tasks = λ k h. harder-same k;
    access-count = same-count;
    accesses = harder-access;
  }

  -- no task is answered sooner
  pub added-no-sooner : (i : ℕ) → i < first.count → (m : Method) → NoLater (response_of first m i) (response_of second m (place_after p i))
  added-no-sooner i held m = response-place (place_after p) first second i (added-harder i held) accepted accepted' held m

  -- above the task that is new, all is the same
  pub added-same : (i : ℕ) → i < p → SameNamesDownTo i first second
  added-same i above = record {
    same = record {
      ways = ways-same;
      brt = added.brt;
      tasks = λ k h. sym (task-place k) ∙ ap (at second) (place-below p k (omega arith));
      accesses =
          blocking-maps p i above unowned unowned (accesses_of first) (λ a h. ap (λ (n : ℕ). record (unowned a) { ceiling = n }) (sym (place-below p a.ceiling (omega arith))))
          ∙ ap (λ (l : List Access). map unowned (blocking i l)) (sym added.accesses);
    };
    owners =
        blocking-maps p i above (λ a. name_in (at first a.task)) (λ a. name_in (at second a.task)) (accesses_of first) (λ a h. ap name_in (sym (task-place a.task)))
        ∙ ap (λ (l : List Access). map (λ a. name_in (at second a.task)) (blocking i l)) (sym added.accesses);
  }
