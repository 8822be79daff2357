-- A harder table has no smaller costs.
use Rattle.std.proofs.Common.{ℕ, ◌+◌, ◌≤◌, ◌<◌, max, zero-le, le_refl, le_trans, mul-le-mul, mul-le-mul_right, arith, ◌≡◌, sym, subst, ◌∙◌, Bool, true, false, cond, ltb, leb, le-leb, lt-ltb, le-ltb}
use Rattle.std.proofs.Math.Decide.{dec_lt}
use Rattle.std.proofs.lemmas.Bool.{lt-leb}
use Rattle.cache.specs.Sets.{Set, ∅, ◌∪◌, ◌⊆◌}
use Rattle.cache.proofs.SetLaws.{union_left, union_right, union-least, size_mono}
use Rattle.cache.specs.Counts.{Counts, nothing, ◌⊕◌, ◌on◌, ◌≼◌, total}
use Rattle.cache.specs.Levels.{counts}
use Rattle.cache.proofs.CountLaws.{total_mono, total-on-le, total-bounded, on-mono, capped_le, capped-mono, add-mono}
use Rattle.search.specs.Positions.{hp}
use Rattle.search.specs.Demand.{NoMore}
use Rattle.search.specs.Terms.{InRange}
use Rattle.search.proofs.PositionLaws.{Rising, place-lt, place-le, Grows, gathered}
use Rattle.table.specs.declared.accesses.Access.{Access}
use Rattle.table.specs.Accesses.{may_block, added_by}
use Rattle.table.specs.declared.Table.{Table}
use Rattle.table.specs.Tables.{ways_in, at}
use Rattle.table.specs.Accepted.{AcceptedTable}
use Rattle.analysis.specs.declared.costs.Single.{Single}
use Rattle.analysis.specs.declared.costs.Single.TheVariants.{None, EcbOnly, UcbOnly, UcbUnion, EcbUnion}
use Rattle.analysis.specs.Gather.{aff, union_of, counts_over, largest_at}
use Rattle.analysis.specs.Costs.{ucb_of, ecb_of, reloads_with, term_under}
use Rattle.analysis.specs.Harder.{Harder, HarderAccess, HarderBy}
use Rattle.analysis.proofs.HitLaws.{hit-grows, larger-grows}
use Rattle.analysis.proofs.CostLaws.{under-most}

max-grows : Grows max ◌≤◌
max-grows = record { same = λ x. omega arith; trans = λ x y w p q. omega arith; more = λ x y. omega arith; both = λ x y v w p q. omega arith }

union-grows : Grows ◌∪◌ ◌⊆◌
union-grows = record {
  same = λ A s h. h;
  trans = λ A B C p q s h. q s (p s h);
  more = union_left;
  both = λ A B C D p q. union-least A B (C ∪ D) (λ s h. union_left C D s (p s h)) (λ s h. union_right C D s (q s h));
}

-- a sum is no least upper bound of what is added, so nothing here rests on that
sum-grows : Grows ◌⊕◌ ◌≼◌
unfolding ◌⊕◌
sum-grows = record {
  same = λ U s. le_refl (U s);
  trans = λ U W X p q s. le_trans (p s) (q s);
  more = λ U W s. omega arith;
  both = λ U W U' W' p q. add-mono U U' W W' p q;
}

-- ---- more useful blocks and evicting sets, more reloads: what stands at k in the one stands at place k in the other

module _ (place : ℕ → ℕ) (rises : Rising place) (i j : ℕ) where
  next_place : place j + 1 ≤ place (j + 1)
  next_place = omega (arith, place-lt place rises j (j + 1) (omega arith))

  in-aff : (k : ℕ) → k < i + 1 → place k < place i + 1
  in-aff k l = omega (arith, place-le place rises k i (omega arith))

  largest-by : (F G : ℕ → ℕ) → ((k : ℕ) → k ≤ i → F k ≤ G (place k))
      → (largest_at F (aff i j)).reloads.0 ≤ (largest_at G (aff (place i) (place j))).reloads.0
  largest-by F G f =
      hit-grows _ _ F G _ _
      (gathered max-grows place rises 0 0 (omega arith) F G (j + 1) (place j + 1) next_place (i + 1) (place i + 1)
      (λ k h l. (in-aff k l, f k (omega arith))))

module _ (place : ℕ → ℕ) (rises : Rising place) (ways : ℕ) (U U' : ℕ → Counts) (E E' : ℕ → Set) (i j : ℕ) (above : j < i)
    (u : (k : ℕ) → k ≤ i → U k ≼ U' (place k)) (e : (k : ℕ) → k ≤ i → E k ⊆ E' (place k)) (X X' : Counts) (x : X ≼ X') (n n' : ℕ) where
  evicted : union_of E (hp (j + 1)) ⊆ union_of E' (hp (place j + 1))
  evicted =
      gathered union-grows place rises ∅ ∅ (λ s h. h) E E' 0 0 zero-le (j + 1) (place j + 1)
      (λ k h l. (omega (arith, place-le place rises k j (omega arith)), e k (omega arith)))

  summed : counts_over U (aff i j) ≼ counts_over U' (aff (place i) (place j))
  summed =
      gathered sum-grows place rises nothing nothing (λ s. le_refl (nothing s)) U U' (j + 1) (place j + 1) (next_place place rises i j) (i + 1) (place i + 1)
      (λ k h l. (in-aff place rises i j k l, u k (omega arith)))

  pub with-by : (m : Single) → reloads_with ways U E X n m i j ≤ reloads_with ways U' E' X' n' m (place i) (place j)
  unfolding reloads_with
  with-by None = omega arith
  with-by EcbOnly = mul-le-mul_right ways (size_mono _ _ (e j (omega arith)))
  with-by UcbOnly =
      larger-grows _ _ _ _ (largest-by place rises i j (λ k. total (U k)) (λ k. total (U' k)) (λ k l. total_mono _ _ (u k l))) (total_mono _ _ x)
  with-by UcbUnion = total_mono _ _ (on-mono _ _ _ _ (capped-mono ways _ _ (add-mono _ _ _ _ summed x)) (e j (omega arith)))
  with-by EcbUnion =
      larger-grows _ _ _ _
      (largest-by place rises i j (λ k. total (U k on union_of E (hp (j + 1)))) (λ k. total (U' k on union_of E' (hp (place j + 1))))
      (λ k l. total_mono _ _ (on-mono _ _ _ _ (u k l) evicted)))
      (total_mono _ _ (on-mono _ _ _ _ x evicted))

-- ---- the two unions never count more than what they are unions for

module _ (ways : ℕ) (U : ℕ → Counts) (E : ℕ → Set) (X : Counts) (n i j : ℕ) where
  pub ucb-union-with : reloads_with ways U E X n UcbUnion i j ≤ reloads_with ways U E X n EcbOnly i j
  unfolding reloads_with
  ucb-union-with = total-bounded ways _ (E j) (capped_le ways _)

  pub ecb-union-with : reloads_with ways U E X n EcbUnion i j ≤ reloads_with ways U E X n UcbOnly i j
  unfolding reloads_with
  ecb-union-with =
      larger-grows _ _ _ _
      (largest-by (λ k. k) (λ k. omega arith) i j (λ k. total (U k on union_of E (hp (j + 1)))) (λ k. total (U k)) (λ k l. total-on-le _ _))
      (total-on-le _ _)

pub nothing-least : (X : Counts) → nothing ≼ X
unfolding nothing
nothing-least X s = zero-le

-- ---- the terms of accepted tables, while an access blocks

pub term-ranged : (table : Table) (a : Access) (m : Single) (i j : ℕ) → AcceptedTable table → j < table.count → InRange (term_under table a m i j)
term-ranged table a m i j p h =
    let q = p.tasks j h in
    record {
      period = q.period.0;
      period-most = q.period.1;
      jitter = omega (arith, q.jitter, q.deadline, q.period);
      weight =
          omega (arith, q.work, mul-le-mul {n₂ = 100000} {m₂ = 2048} p.brt (under-most table a m i j p));
    }

-- where what the second access adds for the place of j is no less than what the first adds for j
pub term-harder : (place : ℕ → ℕ) (first second : Table) (a b : Access) (i j : ℕ) → HarderBy place i first second → AcceptedTable second → j < i
    → added_by (ways_in first) a j ≼ added_by (ways_in first) b (place j) → (m : Single)
    → NoMore (term_under first a m i j) (term_under second b m (place i) (place j))
term-harder place first second a b i j harder p above added m =
    let t = harder.tasks j (omega arith) in
    let g : reloads_with (ways_in first) (ucb_of first) (ecb_of first) (added_by (ways_in first) a j) a.task m i j
    ≤ reloads_with (ways_in second) (ucb_of second) (ecb_of second) (added_by (ways_in second) b (place j)) b.task m (place i) (place j) =
    subst
    (λ (w : ℕ). reloads_with (ways_in first) (ucb_of first) (ecb_of first) (added_by (ways_in first) a j) a.task m i j
    ≤ reloads_with w (λ k. counts w (at second k).ucb) (ecb_of second) (added_by w b (place j)) b.task m (place i) (place j))
    harder.ways
    (with-by place harder.rises (ways_in first) (ucb_of first) (λ k. counts (ways_in first) (at second k).ucb) (ecb_of first) (ecb_of second) i j above
    (λ k l. (harder.tasks k l).ucb) (λ k l. (harder.tasks k l).ecb) (added_by (ways_in first) a j) (added_by (ways_in first) b (place j)) added a.task b.task m)
    in
    record {
      live = (p.tasks (place j) (harder.held j (omega arith))).period.0;
      period = t.period;
      jitter = t.jitter;
      weight = omega (arith, t.work, mul-le-mul harder.brt g);
    }

-- position by position
pub harder-by : (first second : Table) (i : ℕ) → Harder first second → i < first.count → HarderBy (λ k. k) i first second
harder-by first second i h l =
    record {
      rises = λ k. omega arith;
      ways = h.ways;
      brt = h.brt;
      held = λ k n. omega (arith, h.count);
      tasks = λ k n. h.tasks k (omega arith);
      access-count = h.access-count;
      accesses = h.accesses;
    }

-- ---- harder accesses

-- places keep the order of positions, both ways
module _ (place : ℕ → ℕ) (rises : Rising place) (j k : ℕ) where
  place-ltb : ltb j k ≡ ltb (place j) (place k)
  place-ltb = elim (dec_lt j k) [
    | yes l ↦ lt-ltb j k l ∙ sym (lt-ltb (place j) (place k) (place-lt place rises j k l))
    | no n ↦ le-ltb j k (omega arith) ∙ sym (le-ltb (place j) (place k) (place-le place rises k j (omega arith)))
  ]

  place-leb : leb j k ≡ leb (place j) (place k)
  place-leb = elim (dec_lt k j) [
    | yes l ↦ lt-leb j k l ∙ sym (lt-leb (place j) (place k) (place-lt place rises k j l))
    | no n ↦ le-leb j k (omega arith) ∙ sym (le-leb (place j) (place k) (place-le place rises j k (omega arith)))
  ]

module _ (ways : ℕ) (place : ℕ → ℕ) (rises : Rising place) (a b : Access) (harder : HarderAccess ways place a b) where
  -- it may block at the place of i where the other may block i
  pub blocks-place : (i : ℕ) → may_block i a ≡ may_block (place i) b
  blocks-place i = rw (harder.task, harder.ceiling, place-ltb place rises i a.task, place-leb place rises a.ceiling i)

  -- and adds no less
  pub adds-place : (j : ℕ) → added_by ways a j ≼ added_by ways b (place j)
  adds-place j = rw (harder.ceiling, ← place-ltb place rises j a.ceiling) (go (ltb j a.ceiling))
    where
      go : (t : Bool) → cond t (counts ways a.ucb) nothing ≼ cond t (counts ways b.ucb) nothing
      go true = harder.ucb
      go false = nothing-least nothing
