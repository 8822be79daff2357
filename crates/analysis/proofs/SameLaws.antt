-- A charge at i depends on the sets of the tasks down to i alone, and on the access, whosever it is; so what stands below a task changes no answer for it, and
-- nothing that is told of the answer.
use Rattle.std.proofs.Common.{ℕ, ◌+◌, ◌-◌, ◌*◌, ◌≤◌, ◌<◌, arith, ◌≡◌, refl, sym, ap, ap₂, ◌∙◌, Bool, true, false, cond, ltb, List, [], ◌∷◌, map, length, fold}
use Rattle.std.proofs.lemmas.Bool.{false≢true}
use Rattle.cache.specs.declared.units.Ticks.{Ticks}
use Rattle.cache.specs.Sets.{Set, ∅, ◌∪◌, size}
use Rattle.cache.specs.Words.{members}
use Rattle.cache.specs.Counts.{Counts, nothing, ◌⊕◌, capped, ◌on◌, total}
use Rattle.cache.specs.Levels.{counts}
use Rattle.search.specs.declared.demand.Response.{Response}
use Rattle.search.specs.declared.demand.Term.{Term}
use Rattle.search.specs.Positions.{hp, fold_by}
use Rattle.search.specs.Demand.{demand_of, term_of}
use Rattle.search.specs.Least.{least_of, sooner, latest_of}
use Rattle.search.proofs.PositionLaws.{fold_same}
use Rattle.search.proofs.DemandLaws.{demand-same}
use Rattle.table.specs.declared.accesses.Access.{Access}
use Rattle.table.specs.Accesses.{added_by, blocking, empty_access, blank_access}
use Rattle.table.proofs.BlockingLaws.{Pairwise, pairwise-as, pairwise-or}
use Rattle.table.specs.declared.tasks.Task.{Task}
use Rattle.table.specs.Tasks.{limit_of}
use Rattle.table.specs.declared.Table.{Table}
use Rattle.table.specs.Tables.{ways_in, at, accesses_of}
use Rattle.analysis.specs.declared.costs.Hit.{Hit}
use Rattle.analysis.specs.declared.costs.Single.{Single}
use Rattle.analysis.specs.declared.costs.Single.TheVariants.{None, EcbOnly, UcbOnly, UcbUnion, EcbUnion}
use Rattle.analysis.specs.declared.costs.Charge.{Charge}
use Rattle.analysis.specs.declared.costs.Charge.TheVariants.{Victim, NoVictim}
use Rattle.analysis.specs.Gather.{aff, union_of, hit, larger_of, largest_at}
use Rattle.analysis.specs.Costs.{no_victim, charge_with, reloads_in, reloads_with, charge_under, term_with, term_under, ucb_of, ecb_of}
use Rattle.analysis.specs.Same.{unowned, SameDownTo}
use Rattle.analysis.specs.declared.need.Need.{Need}
use Rattle.analysis.specs.Needs.{is_sooner, need_with, larger_need, largest_need, needed_of, need_of}
use Rattle.analysis.specs.declared.Method.{Method}
use Rattle.analysis.specs.declared.Method.TheVariants.{Of, Combined}
use Rattle.analysis.specs.Analysis.{blockers_of, least_under, counted_response, response_of}
use Rattle.analysis.proofs.HitLaws.{larger-count, first-largest}

-- ---- a charge, under every method that counts

module _ (ways : ℕ) (U U' : ℕ → Counts) (E E' : ℕ → Set) (i : ℕ) (useful : (k : ℕ) → k ≤ i → U k ≡ U' k) (evicting : (k : ℕ) → k ≤ i → E k ≡ E' k) (j : ℕ) (above : j < i) where
  affected : {B : Type 0} (op : B → B → B) (z : B) (F G : ℕ → B) → ((k : ℕ) → k ≤ i → F k ≡ G k) → fold_by op z F (aff i j) ≡ fold_by op z G (aff i j)
  affected op z F G same = fold_same op z F G (j + 1) (i + 1 - (j + 1)) (λ k _ l. same k (omega (arith, above)))

  hits : (F G : ℕ → ℕ) → ((k : ℕ) → k ≤ i → F k ≡ G k) → largest_at F (aff i j) ≡ largest_at G (aff i j)
  hits F G same = affected larger_of _ (λ k. hit (F k) k) (λ k. hit (G k) k) (λ k l. ap (λ (n : ℕ). hit n k) (same k l))

  evicted : union_of E (hp (j + 1)) ≡ union_of E' (hp (j + 1))
  evicted = fold_same ◌∪◌ ∅ E E' 0 (j + 1 - 0) (λ k _ l. evicting k (omega (arith, above)))

  pub charge-same : (X : Counts) (n : ℕ) (m : Single) → charge_with ways U E X n m i j ≡ charge_with ways U' E' X n m i j
  charge-same X n None = refl
  charge-same X n EcbOnly = ap (λ (A : Set). no_victim (size A * ways)) (evicting j (omega arith))
  charge-same X n UcbOnly =
      ap (λ (h : Hit). Victim (larger_of h (hit (total X) n))) (hits (λ k. total (U k)) (λ k. total (U' k)) (λ k l. ap total (useful k l)))
  charge-same X n UcbUnion =
      ap₂ (λ (S : Counts) (B : Set). no_victim (total (capped ways (S ⊕ X) on B))) (affected ◌⊕◌ nothing U U' useful) (evicting j (omega arith))
  charge-same X n EcbUnion =
      ap (λ (V : Set). Victim (larger_of (largest_at (λ k. total (U k on V)) (aff i j)) (hit (total (X on V)) n))) evicted
      ∙ (let V = union_of E' (hp (j + 1)) in
      ap (λ (h : Hit). Victim (larger_of h (hit (total (X on V)) n)))
      (hits (λ k. total (U k on V)) (λ k. total (U' k on V)) (λ k l. ap (λ (S : Counts). total (S on V)) (useful k l))))

-- ---- whosever the member more is

-- a charge's victim, told by a word for each position, or by another word where there is none
abbrev pub victim_told : {W : Type 0} → W → (ℕ → W) → Charge → W
victim_told none words (Victim h) = words h.victim
victim_told none words (NoVictim n) = none

module _ (ways : ℕ) (U : ℕ → Counts) (E : ℕ → Set) (X : Counts) (n n' i j : ℕ) (above : j < i) where
  -- the count is the same
  reloads-owner : (m : Single) → reloads_with ways U E X n m i j ≡ reloads_with ways U E X n' m i j
  unfolding reloads_with
  reloads-owner None = refl
  reloads-owner EcbOnly = refl
  reloads-owner UcbOnly = larger-count _ (hit (total X) n) ∙ sym (larger-count _ (hit (total X) n'))
  reloads-owner UcbUnion = refl
  reloads-owner EcbUnion = larger-count _ (hit (total (X on union_of E (hp (j + 1)))) n) ∙ sym (larger-count _ (hit (total (X on union_of E (hp (j + 1)))) n'))

  -- and the victim is told by the same word, where the words are the same down to i and for the two
  module _ {W : Type 0} (none : W) (f g : ℕ → W) (words : (k : ℕ) → k ≤ i → f k ≡ g k) (owners : f n ≡ g n') where
    either-hit : (F : ℕ → ℕ) (x : ℕ) → f (larger_of (largest_at F (aff i j)) (hit x n)).victim ≡ g (larger_of (largest_at F (aff i j)) (hit x n')).victim
    either-hit F x = go (ltb (largest_at F (aff i j)).reloads.0 x)
      where
        go : (t : Bool) → f (cond t (hit x n) (largest_at F (aff i j))).victim ≡ g (cond t (hit x n') (largest_at F (aff i j))).victim
        go true = owners
        go false = words _ (omega (arith, (first-largest F (j + 1) (i + 1) (omega arith)).below))

    victim-owner : (m : Single) → victim_told none f (charge_with ways U E X n m i j) ≡ victim_told none g (charge_with ways U E X n' m i j)
    victim-owner None = refl
    victim-owner EcbOnly = refl
    victim-owner UcbOnly = either-hit (λ k. total (U k)) (total X)
    victim-owner UcbUnion = refl
    victim-owner EcbUnion = either-hit (λ k. total (U k on union_of E (hp (j + 1)))) (total (X on union_of E (hp (j + 1))))

-- ---- lists of accesses that are alike, pair by pair

pub pairwise-maps : {X : Type 0} (f g : Access → X) (l r : List Access) → map f l ≡ map g r → Pairwise (λ a b. f a ≡ g b) l r
pairwise-maps f g [] [] e = tt
pairwise-maps f g [] (b ∷ r) e = absurd (omega (arith, ap length e))
pairwise-maps f g (a ∷ l) [] e = absurd (omega (arith, ap length e))
pairwise-maps f g (a ∷ l) (b ∷ r) e =
    let here : f a ≡ g b = cc in
    let rest : map f l ≡ map g r = cc in
    (here, pairwise-maps f g l r rest)

pub pairwise-and : (R S : Access → Access → Type 0) (l r : List Access) → Pairwise R l r → Pairwise S l r → Pairwise (λ a b. R a b × S a b) l r
pairwise-and R S [] [] p q = tt
pairwise-and R S [] (b ∷ r) p q = absurd p
pairwise-and R S (a ∷ l) [] p q = absurd p
pairwise-and R S (a ∷ l) (b ∷ r) p q = ((p.0, q.0), pairwise-and R S l r p.1 q.1)

maps-pairwise : {X : Type 0} (f g : Access → X) (l r : List Access) → Pairwise (λ a b. f a ≡ g b) l r → map f l ≡ map g r
maps-pairwise f g [] [] p = refl
maps-pairwise f g [] (b ∷ r) p = absurd p
maps-pairwise f g (a ∷ l) [] p = absurd p
maps-pairwise {X} f g (a ∷ l) (b ∷ r) p = ap₂ (λ (x : X) (xs : List X). x ∷ xs) p.0 (maps-pairwise f g l r p.1)

-- the same access, whosever it is
abbrev pub Alike : Access → Access → Type 0
Alike a b = unowned a ≡ unowned b

-- ---- the largest need over such lists

pub record AlikeNeeds (R : Access → Access → Type 0) (x y : Need) : Type 0 where
  pub method : x.method ≡ y.method
  pub time : x.time ≡ y.time
  pub blocker : R x.blocker y.blocker

module _ (R : Access → Access → Type 0) (blank : R blank_access blank_access) where
  either-need : (x y z w : Need) → AlikeNeeds R x y → AlikeNeeds R z w → (t u : Bool) → t ≡ u → AlikeNeeds R (cond t z x) (cond u w y)
  either-need x y z w p q true true e = q
  either-need x y z w p q false false e = p
  either-need x y z w p q true false e = absurd (false≢true (sym e))
  either-need x y z w p q false true e = absurd (false≢true e)

  module _ (N N' : Access → Response) (m : Single) (times : (a b : Access) → R a b → N a ≡ N' b) where
    with-alike : (a b : Access) → R a b → AlikeNeeds R (need_with N m a) (need_with N' m b)
    with-alike a b r = record { method = refl; time = times a b r; blocker = r }

    fold-alike : (x y : Need) (l r : List Access) → AlikeNeeds R x y → Pairwise R l r
        → AlikeNeeds R (fold larger_need x (map (need_with N m) l)) (fold larger_need y (map (need_with N' m) r))
    fold-alike x y [] [] p q = p
    fold-alike x y [] (b ∷ r) p q = absurd q
    fold-alike x y (a ∷ l) [] p q = absurd q
    fold-alike x y (a ∷ l) (b ∷ r) p q =
        fold-alike (larger_need x (need_with N m a)) (larger_need y (need_with N' m b)) l r
        (either-need x y (need_with N m a) (need_with N' m b) p (with-alike a b q.0) _ _ (ap₂ is_sooner p.time (times a b q.0))) q.1

    largest-alike : (l r : List Access) → Pairwise R l r → AlikeNeeds R (largest_need (need_with N m) l) (largest_need (need_with N' m) r)
    largest-alike [] [] p = with-alike blank_access blank_access blank
    largest-alike [] (b ∷ r) p = absurd p
    largest-alike (a ∷ l) [] p = absurd p
    largest-alike (a ∷ l) (b ∷ r) p = fold-alike _ _ (a ∷ l) (b ∷ r) (with-alike a b p.0) p

-- ---- an answer

abbrev term_told : Ticks → Task → ℕ → Term
term_told brt t n = term_of t.period.0 t.jitter.0 (t.work.0 + brt.0 * n)

module _ (i : ℕ) (first second : Table) (same : SameDownTo i first second) where
  module _ (a b : Access) (alike : Alike a b) where
    ceilings : a.ceiling ≡ b.ceiling
    ceilings = ap (λ (c : Access). c.ceiling) alike

    lengths : a.lasts ≡ b.lasts
    lengths = ap (λ (c : Access). c.lasts) alike

    adds-same : (ways j : ℕ) → added_by ways a j ≡ added_by ways b j
    adds-same ways j = ap (λ (c : Access). added_by ways c j) alike

    module _ (m : Single) (j : ℕ) (above : j < i) where
      -- the charge by the second table's sets
      charge-there : charge_under first a m i j ≡ charge_with (ways_in second) (ucb_of second) (ecb_of second) (added_by (ways_in second) b j) a.task m i j
      charge-there =
          let W = ways_in second in
          ap (λ (w : ℕ). charge_with w (λ k. counts w (at first k).ucb) (ecb_of first) (added_by w a j) a.task m i j) same.ways
          ∙ charge-same W (λ k. counts W (at first k).ucb) (ucb_of second) (ecb_of first) (ecb_of second) i
          (λ k l. ap (λ (t : Task). counts W t.ucb) (same.tasks k l)) (λ k l. ap (λ (t : Task). members t.ecb) (same.tasks k l)) j above (added_by W a j) a.task m
          ∙ ap (λ (X : Counts). charge_with W (ucb_of second) (ecb_of second) X a.task m i j) (adds-same W j)

      pub reloads-same : reloads_in (charge_under first a m i j) ≡ reloads_in (charge_under second b m i j)
      unfolding reloads_with
      reloads-same =
          ap reloads_in charge-there ∙ reloads-owner (ways_in second) (ucb_of second) (ecb_of second) (added_by (ways_in second) b j) a.task b.task i j above m

      pub victim-same : {W : Type 0} (none : W) (f g : ℕ → W) → ((k : ℕ) → k ≤ i → f k ≡ g k) → f a.task ≡ g b.task
          → victim_told none f (charge_under first a m i j) ≡ victim_told none g (charge_under second b m i j)
      victim-same none f g words owners =
          ap (victim_told none f) charge-there
          ∙ victim-owner (ways_in second) (ucb_of second) (ecb_of second) (added_by (ways_in second) b j) a.task b.task i j above none f g words owners m

      term-same : term_under first a m i j ≡ term_under second b m i j
      unfolding reloads_with
      term-same =
          ap (term_with first j) reloads-same
          ∙ (let n = reloads_in (charge_under second b m i j) in
          ap₂ (λ (brt : Ticks) (t : Task). term_told brt t n) same.brt (same.tasks j (omega arith)))

    pub least-same : (m : Single) (limit : ℕ) → least_under first a m i limit ≡ least_under second b m i limit
    least-same m limit =
        ap (λ (f : ℕ → ℕ). least_of f limit)
        (demand-same ((at first i).work.0 + a.lasts.0) (term_under first a m i) (term_under second b m i) i (term-same m))
        ∙ ap₂ (λ (t : Task) (lasts : Ticks). least_of (demand_of (t.work.0 + lasts.0) (term_under second b m i) i) limit) (same.tasks i (omega arith)) lengths

  pub blockers-alike : Pairwise Alike (blockers_of first i) (blockers_of second i)
  blockers-alike =
      pairwise-or Alike empty_access empty_access (blocking i (accesses_of first)) (blocking i (accesses_of second)) refl
      (pairwise-maps unowned unowned (blocking i (accesses_of first)) (blocking i (accesses_of second)) same.accesses)

  answer-same : (m : Single) → counted_response first m i ≡ counted_response second m i
  unfolding counted_response
  answer-same m =
      let A : Access → Response = λ a. least_under first a m i (limit_of (at first i)) in
      let B : Access → Response = λ b. least_under second b m i (limit_of (at second i)) in
      let limits : limit_of (at first i) ≡ limit_of (at second i) = ap limit_of (same.tasks i (omega arith)) in
      ap latest_of
      (maps-pairwise A B (blockers_of first i) (blockers_of second i)
      (pairwise-as Alike (λ a b. A a ≡ B b) (λ a b alike. least-same a b alike m (limit_of (at first i)) ∙ ap (least_under second b m i) limits)
      (blockers_of first i) (blockers_of second i) blockers-alike))

  pub response-same : (m : Method) → response_of first m i ≡ response_of second m i
  unfolding response_of
  response-same (Of m) = answer-same m
  response-same Combined = ap₂ sooner (answer-same UcbUnion) (answer-same EcbUnion)

  -- ---- and a need, by which the accesses are paired in whatever way, as long as those of a pair are alike

  module _ (R : Access → Access → Type 0) (blank : R blank_access blank_access) (alike : (a b : Access) → R a b → Alike a b)
      (all : Pairwise R (blockers_of first i) (blockers_of second i)) where
    needed-same : (m : Single) → AlikeNeeds R (needed_of first m i) (needed_of second m i)
    unfolding needed_of
    needed-same m =
        largest-alike R blank (λ a. least_under first a m i 250000000) (λ b. least_under second b m i 250000000) m
        (λ a b r. least-same a b (alike a b r) m 250000000) (blockers_of first i) (blockers_of second i) all

    pub need-same : (m : Method) → AlikeNeeds R (need_of first m i) (need_of second m i)
    unfolding need_of
    need-same (Of m) = needed-same m
    need-same Combined =
        let p = needed-same UcbUnion in
        let q = needed-same EcbUnion in
        either-need R blank _ _ _ _ q p _ _ (ap₂ is_sooner p.time q.time)
