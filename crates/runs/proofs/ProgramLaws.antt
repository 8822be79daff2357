-- The model is not empty: whatever the jobs are, whatever they use and wherever they take accesses, the machine makes a legal run of them, if each
-- program by itself keeps what is promised of its task and its accesses.
use Prim.Native.Nat.{ℕ, zero, suc, ◌+◌, ◌-◌, ◌*◌, ◌≤◌, ◌<◌}
use native.Mathlib.Nat.{lt_of_not-le, le_trans, le_of_eq, mul-add, mul-le-mul_left}
use native.Mathlib.Decide.{dec_le}
use native.Mathlib.Omega.{arith}
use mathlib.Core.Path.{◌≡◌, refl, ap, ap₂, sym, subst, ◌∙◌}
use mathlib.Core.Bool.{Bool, true, false, ◌&&◌, ◌||◌, not}
use mathlib.Core.Logic.{◌⊎◌, inl, inr}
use mathlib.Core.List.{List}
use lib.Dec.{eqb, leb, ltb}
use borrow.Author.Tests.{leb-true, le-leb, lt-leb, lt-ltb, le-ltb}
use Rattle.std.proofs.lemmas.Bool.{and_from, and_parts, both_ways}
use Rattle.runs.specs.Sums.{sum, one, count_from}
use Rattle.runs.specs.model.Jobs.{Slot, idle, job, Run, given, served, works, Constrained}
use Rattle.runs.specs.model.Accesses.{Access}
use Rattle.runs.specs.model.Cache.{is_in, loaded, content_at, present, used_since, own, own_since, reloads, finds_first, reloads_of, waits_of}
use Rattle.runs.specs.model.Legal.{System, Legal}
use Rattle.runs.specs.machine.Programs.{Programs, uses_from, finds_in_program, AccessFair, ProgramsKept}
use Rattle.runs.specs.machine.Turns.{State, waits_now, uses_now, reloads_now, state_at}
use Rattle.runs.proofs.SumLaws.{sum-le, sum-add, sum_same, sum-swap, sum-split, sum-empty}
use Rattle.runs.proofs.JobLaws.{served-mono}
use Rattle.runs.proofs.LostLaws.{unused-since}
use Rattle.runs.proofs.MachineLaws.{z, done, done-is, took-says, on-limit, jobs-kept, accesses-kept, scheduled}
use Rattle.std.proofs.lemmas.Grind.{common_steps}

-- a sum up to m of what is under n is no more than the sum up to n
sum-under-limit : (f : ℕ → Bool) (n m : ℕ) → sum (λ q. one (ltb q n && f q)) m ≤ sum (λ q. one (f q)) n
sum-under-limit f n m = go (dec_le m n)
  where
    drop : (b d : Bool) → one (b && d) ≤ one d
    drop true d = omega arith
    drop false d = omega arith

    go : Dec (m ≤ n) → sum (λ q. one (ltb q n && f q)) m ≤ sum (λ q. one (f q)) n
    go (yes l) =
        let e : m + (n - m) ≡ n = omega arith in
        let g = subst (λ (y : ℕ). sum (λ q. one (f q)) y ≡ sum (λ q. one (f q)) m + sum (λ q. one (f (m + q))) (n - m)) e (sum-split (λ q. one (f q)) m (n - m)) in
        omega (arith, sum-le (λ q. one (ltb q n && f q)) (λ q. one (f q)) m (λ q b. drop (ltb q n) (f q)))
    go (no l) =
        let e : n + (m - n) ≡ m = omega (arith, lt_of_not-le l) in
        let g = subst (λ (y : ℕ). sum (λ q. one (ltb q n && f q)) y ≡ sum (λ q. one (ltb q n && f q)) n + sum (λ q. one (ltb (n + q) n && f (n + q))) (m - n)) e
        (sum-split (λ q. one (ltb q n && f q)) n (m - n)) in
        omega (
          arith,
          sum-le (λ q. one (ltb q n && f q)) (λ q. one (f q)) n (λ q b. drop (ltb q n) (f q)),
          sum-empty (λ q. one (ltb (n + q) n && f (n + q))) (m - n) (λ q b. let y = le-ltb (n + q) n (omega arith) in rw y refl),
        )

module _ (sys : System) (w : Programs) (sane : (j : ℕ) → j < sys.size → Constrained (sys.tasks j)) (kept : ProgramsKept sys w) where
  abbrev W : ℕ
  W = sys.ways

  abbrev y : Run
  y = z sys w sane kept

  abbrev block : ℕ → ℕ → ℕ
  block t c = y.block t c

  abbrev at_tick : ℕ → State
  at_tick t = state_at sys w t

  held-is : (t c : ℕ) → content_at W (λ s. y.uses s c) (λ s. block s c) t ≡ (at_tick t).held c
  unfolding content_at state_at
  held-is zero c = refl
  held-is (suc t) c = ap {B = List ℕ} (λ (l : List ℕ). elim (y.uses t c) [ true ↦ loaded W (block t c) l | false ↦ l ]) (held-is t c)

  alone-is : (t j n c : ℕ) → content_at W (own y j n c) (λ s. block s c) t ≡ (at_tick t).alone j n c
  unfolding content_at state_at
  alone-is zero j n c = refl
  alone-is (suc t) j n c =
      ap {B = List ℕ} (λ (l : List ℕ). elim (y.uses t c && given j n (y.has t)) [ true ↦ loaded W (block t c) l | false ↦ l ]) (alone-is t j n c)

  reload-is : (t j n c : ℕ) → reloads W y (own y j n c) j n c t ≡ reloads_now w (at_tick t) (y.has t) j n c
  reload-is t j n c =
      ap₂ (λ (a h : List ℕ). given j n (y.has t) && ((y.uses t c && is_in (block t c) a) && not (is_in (block t c) h))) (alone-is t j n c) (held-is t c)

  -- who waits has to
  owes : (s : State) (y : Slot) (j n : ℕ) → one (waits_now s y && given j n y) ≤ s.debt j n
  owes s y j n = grind (arith, common_steps)

  -- what a job has waited and has to wait is `brt` ticks for each reload
  debt-is : (t j n : ℕ) → waits_of y j n t + (at_tick t).debt j n ≡ sys.brt * reloads_of W y sys.sets j n t
  unfolding sum state_at
  debt-is zero j n = omega arith
  debt-is (suc t) j n =
      let e : sum (λ c. one (reloads W y (own y j n c) j n c t)) sys.sets ≡ sum (λ c. one (reloads_now w (at_tick t) (y.has t) j n c)) sys.sets =
      sum_same _ _ sys.sets (λ c l. ap one (reload-is t j n c)) in
      let f = mul-add sys.brt (reloads_of W y sys.sets j n t) (sum (λ c. one (reloads W y (own y j n c) j n c t)) sys.sets) in
      let g = ap (λ (x : ℕ). sys.brt * x) e in
      omega (arith, debt-is t j n, owes (at_tick t) (y.has t) j n)

  -- ---- a job on the machine, and its program by itself

  module _ (j n c : ℕ) where
    abbrev on : ℕ → Bool
    on p = w.program j n p c

    abbrev it : ℕ → ℕ
    it p = w.blocks j n p c

    abbrev D : ℕ → ℕ
    D t = (at_tick t).done j n

    -- the job stands still, or makes the next step of its program
    abbrev Moves : ℕ → Type 0
    Moves t = ((own y j n c t ≡ false) × (D (suc t) ≡ D t)) ⊎ ((own y j n c t ≡ on (D t)) × (block t c ≡ it (D t)) × (D (suc t) ≡ suc (D t)))

    moves : (t : ℕ) → Moves t
    unfolding state_at
    moves t = grind (arith, common_steps)

    D-zero : D 0 ≡ 0
    unfolding state_at
    D-zero = refl

    D-mono : (a b : ℕ) → a ≤ b → D a ≤ D b
    D-mono a b l = omega (arith, served-mono y j n a b l, done-is sys w sane kept a j n, done-is sys w sane kept b j n)

    -- the ticks in which the job uses the set, of some that matter, and the same of its program
    module _ (onM onP : ℕ → Bool)
        (steps : (t : ℕ) → ((onM t ≡ false) × (D (suc t) ≡ D t)) ⊎ ((onM t ≡ onP (D t)) × (block t c ≡ it (D t)) × (D (suc t) ≡ suc (D t)))) where
      abbrev Steps : ℕ → Type 0
      Steps t = ((onM t ≡ false) × (D (suc t) ≡ D t)) ⊎ ((onM t ≡ onP (D t)) × (block t c ≡ it (D t)) × (D (suc t) ≡ suc (D t)))

      -- alone on the machine is as in the program
      alone-program : (t : ℕ) → content_at W onM (λ s. block s c) t ≡ content_at W onP it (D t)
      unfolding content_at
      alone-program zero = ap (content_at W onP it) (sym D-zero)
      alone-program (suc t) = go (steps t) (alone-program t)
        where
          next : (a b : Bool) → a ≡ b → (x y : ℕ) → x ≡ y → (l m : List ℕ) → l ≡ m
              → ◌≡◌ {A = List ℕ} (elim a [ true ↦ loaded W x l | false ↦ l ]) (elim b [ true ↦ loaded W y m | false ↦ m ])
          next a b e x y f l m g = grind (arith, common_steps)

          go : Steps t → content_at W onM (λ s. block s c) t ≡ content_at W onP it (D t)
              → ◌≡◌ {A = List ℕ} (elim (onM t) [ true ↦ loaded W (block t c) (content_at W onM (λ s. block s c) t) | false ↦ content_at W onM (λ s. block s c) t ])
              (content_at W onP it (D (suc t)))
          go p rest = grind (arith, common_steps)

      since-program : (T t x : ℕ) → used_since onM (λ s. block s c) T t x ≡ used_since onP it (D T) (D t) x
      unfolding used_since
      since-program T zero x = ap (λ (y : ℕ). used_since onP it (D T) y x) (sym D-zero)
      since-program T (suc t) x = go (steps t) (since-program T t x)
        where
          skip : (a b d u : Bool) → b ≡ false → ((a && b && d) || u) ≡ u
          skip true b d u e = ap (λ (b : Bool). (b && d) || u) e
          skip false b d u e = refl

          before : (b : Bool) → leb T t ≡ b → D (suc t) ≡ suc (D t) → leb T t ≡ leb (D T) (D t)
          before true e f = e ∙ sym (le-leb (D T) (D t) (D-mono T t (leb-true T t e)))
          before false e f = e ∙ sym (lt-leb (D T) (D t) (omega (arith, D-mono (suc t) T (lt_of_not-le (λ q. both_ways (leb T t) e (le-leb T t q))))))

          next : (a b : Bool) → a ≡ b → (d e : Bool) → d ≡ e → (x y : Bool) → x ≡ y → (u v : Bool) → u ≡ v → ((a && d && x) || u) ≡ ((b && e && y) || v)
          next a b p d e q x y r u v s =
              ap₂ (λ (a d : Bool). (a && d && x) || u) p q ∙ ap₂ (λ (x u : Bool). (b && e && x) || u) r s

          go : Steps t → used_since onM (λ s. block s c) T t x ≡ used_since onP it (D T) (D t) x
              → ((leb T t && onM t && eqb x (block t c)) || used_since onM (λ s. block s c) T t x) ≡ used_since onP it (D T) (D (suc t)) x
          go (inl p) rest =
              skip (leb T t) (onM t) (eqb x (block t c)) (used_since onM (λ s. block s c) T t x) p.0
              ∙ rest ∙ ap (λ (y : ℕ). used_since onP it (D T) y x) (sym p.1)
          go (inr p) rest =
              next (leb T t) (leb (D T) (D t)) (before (leb T t) refl p.2) (onM t) (onP (D t)) p.0
              (eqb x (block t c)) (eqb x (it (D t))) (ap (eqb x) p.1) _ _ rest
              ∙ ap (λ (y : ℕ). used_since onP it (D T) y x) (sym p.2)

      -- so what the job finds on the machine alone, first since T, its program finds; `okM` and `okP` say which ticks count
      finds-most : (okM okP : ℕ → Bool) → ((t : ℕ) → okM t ≡ true → okP (D t) ≡ true) → (T t : ℕ)
          → sum (λ v. one (okM v && finds_first W y onM j n T c v)) t ≤ sum (λ q. one (okP q && finds_in_program W w onP j n (D T) c q)) (D t)
      unfolding sum
      finds-most okM okP ok T zero = omega arith
      finds-most okM okP ok T (suc t) = go (moves t) (finds-most okM okP ok T t) (okM t && finds_first W y onM j n T c t) refl
        where
          parts : (okM t && finds_first W y onM j n T c t) ≡ true
              → (okM t ≡ true) × (own y j n c t ≡ true) × (is_in (block t c) (content_at W onM (λ s. block s c) t) ≡ true) × (T ≤ t)
              × (not (used_since onM (λ s. block s c) T t (block t c)) ≡ true)
          parts e = grind (arith, common_steps)

          found : (okM t && finds_first W y onM j n T c t) ≡ true → own y j n c t ≡ on (D t) → block t c ≡ it (D t)
              → (okP (D t) && finds_in_program W w onP j n (D T) c (D t)) ≡ true
          found e p q =
              let f = parts e in
              and_from _ _ (ok t f.0)
              (and_from _ _ (sym p ∙ f.1)
              (and_from _ _ (sym (ap₂ is_in q (alone-program t)) ∙ f.2)
              (and_from _ _ (le-leb (D T) (D t) (D-mono T t f.3))
              (ap not (sym (ap (used_since onM (λ s. block s c) T t) q ∙ since-program T t (it (D t)))) ∙ f.4))))

          go : Moves t → sum (λ v. one (okM v && finds_first W y onM j n T c v)) t ≤ sum (λ q. one (okP q && finds_in_program W w onP j n (D T) c q)) (D t)
              → (b : Bool) → (okM t && finds_first W y onM j n T c t) ≡ b
              → sum (λ v. one (okM v && finds_first W y onM j n T c v)) t + one (okM t && finds_first W y onM j n T c t)
              ≤ sum (λ q. one (okP q && finds_in_program W w onP j n (D T) c q)) (D (suc t))
          go (inl p) rest true e = absurd (both_ways (own y j n c t) p.0 (parts e).1)
          go (inl p) rest false e = rw (e, p.1) (omega arith)
          go (inr p) rest true e = let f = found e p.0 p.1 in rw (e, p.2, f) (omega arith)
          go (inr p) rest false e = rw (e, p.2) (omega arith)

    -- the job as a whole
    pub finds-job : (T t : ℕ) → sum (λ v. one (finds_first W y (own y j n c) j n T c v)) t ≤ sum (λ q. one (finds_in_program W w on j n (D T) c q)) (D t)
    finds-job T t = finds-most (own y j n c) on moves (λ v. true) (λ q. true) (λ v e. refl) T t

    -- from tick u on
    steps-since : (u t : ℕ) → ((own_since y u j n c t ≡ false) × (D (suc t) ≡ D t))
        ⊎ ((own_since y u j n c t ≡ uses_from w j n (D u) c (D t)) × (block t c ≡ it (D t)) × (D (suc t) ≡ suc (D t)))
    steps-since u t = go (moves t) (dec_le u t)
      where
        go : Moves t → Dec (u ≤ t) → ((own_since y u j n c t ≡ false) × (D (suc t) ≡ D t))
            ⊎ ((own_since y u j n c t ≡ uses_from w j n (D u) c (D t)) × (block t c ≡ it (D t)) × (D (suc t) ≡ suc (D t)))
        go (inl p) (yes l) = inl (let q = le-leb u t l in rw q p.0, p.1)
        go (inl p) (no l) = inl (let q = lt-leb u t (lt_of_not-le l) in rw q refl, p.1)
        go (inr p) (yes l) = inr (let q = le-leb u t l in let r = le-leb (D u) (D t) (D-mono u t l) in rw (q, r) p.0, p.1, p.2)
        go (inr p) (no l) =
            inr (let q = lt-leb u t (lt_of_not-le l) in let r = lt-leb (D u) (D t) (omega (arith, p.2, D-mono (suc t) u (lt_of_not-le l))) in rw (q, r) refl, p.1, p.2)

  -- ---- an access

  module _ (u k m : ℕ) (e : y.takes u ≡ true) (f : y.has u ≡ job k m) where
    abbrev x₀ : Access
    x₀ = sys.accesses (y.which u)

    abbrev done_in : ℕ → ℕ
    done_in t = done sys w sane kept t k m

    abbrev leaves : ℕ
    leaves = w.leaves k m (done_in u)

    limit : (t : ℕ) → y.on u t ≡ true → done_in t < leaves
    limit t o = on-limit sys w sane kept u k m e f t o

    fair : AccessFair sys w k m (done_in u)
    fair = (took-says sys w sane kept u k m e f).2

    called : y.which u ≡ w.calls k m (done_in u)
    called = (took-says sys w sane kept u k m e f).3

    useful-in : (c T d : ℕ) → c < sys.sets → sum (λ v. one (y.on u (u + v) && finds_first W y (own_since y u k m c) k m T c (u + v))) d ≤ x₀.useful c
    useful-in c T d b =
        omega (
          arith,
          sum-split (λ t. one (y.on u t && finds_first W y (own_since y u k m c) k m T c t)) u d,
          finds-most k m c (own_since y u k m c) (uses_from w k m (done_in u) c) (steps-since k m c u) (y.on u) (λ q. ltb q leaves)
              (λ t o. lt-ltb (done_in t) leaves (limit t o)) T (u + d),
          sum-under-limit (finds_in_program W w (uses_from w k m (done_in u) c) k m (done_in T) c) leaves (done_in (u + d)),
          subst (λ (q : ℕ). sum (λ q. one (finds_in_program W w (uses_from w k m (done_in u) c) k m (done_in T) c q)) leaves ≤ (sys.accesses q).useful c) (sym called)
              (fair.useful (done_in T) c b),
        )

    -- a reload of the job is one of the access, or of a block that was useful to the job when it took the access
    reload-split : (s c : ℕ) → one (reloads W y (own y k m c) k m c (u + s))
        ≤ one (reloads W y (own_since y u k m c) k m c (u + s)) + one (finds_first W y (own y k m c) k m u c (u + s))
    reload-split s c =
        go (given k m (y.has (u + s))) (y.uses (u + s) c) (present W (own y k m c) (λ s. y.block s c) (u + s) (y.block (u + s) c))
        (present W (own_since y u k m c) (λ s. y.block s c) (u + s) (y.block (u + s) c)) (present W (λ s. y.uses s c) (λ s. y.block s c) (u + s) (y.block (u + s) c))
        (leb u (u + s)) (used_since (own y k m c) (λ s. y.block s c) u (u + s) (y.block (u + s) c)) (le-leb u (u + s) (omega arith))
        (unused-since W y u k m (u + s) c)
      where
        go : (a b p q r l x : Bool) → l ≡ true → (p ≡ true → q ≡ false → x ≡ false)
            → one (a && ((b && p) && not r)) ≤ one (a && ((b && q) && not r)) + one (a && ((b && p) && (l && not x)))
        go a b p q r l x i j = grind (arith, common_steps)

    useful-then : ℕ
    useful-then = sum (λ c. sum (λ q. one (finds_in_program W w (λ v. w.program k m v c) k m (done_in u) c q)) leaves) sys.sets

    first-most : (d c : ℕ) → done_in (u + d) ≤ leaves
        → sum (λ v. one (finds_first W y (own y k m c) k m u c (u + v))) d ≤ sum (λ q. one (finds_in_program W w (λ v. w.program k m v c) k m (done_in u) c q)) leaves
    first-most d c l =
        let g : done_in (u + d) + (leaves - done_in (u + d)) ≡ leaves = omega arith in
        let p = subst (λ (v : ℕ). sum (λ q. one (finds_in_program W w (λ v. w.program k m v c) k m (done_in u) c q)) v
        ≡ sum (λ q. one (finds_in_program W w (λ v. w.program k m v c) k m (done_in u) c q)) (done_in (u + d))
        + sum (λ q. one (finds_in_program W w (λ v. w.program k m v c) k m (done_in u) c (done_in (u + d) + q))) (leaves - done_in (u + d))) g
        (sum-split (λ q. one (finds_in_program W w (λ v. w.program k m v c) k m (done_in u) c q)) (done_in (u + d)) (leaves - done_in (u + d))) in
        omega (
          arith,
          sum-split (λ v. one (finds_first W y (own y k m c) k m u c v)) u d,
          finds-job k m c u (u + d),
        )

    reloads-most : (d : ℕ) → done_in (u + d) ≤ leaves → sum (λ s. sum (λ c. one (reloads W y (own y k m c) k m c (u + s))) sys.sets) d
        ≤ sum (λ s. sum (λ c. one (reloads W y (own_since y u k m c) k m c (u + s))) sys.sets) d + useful-then
    unfolding useful-then
    reloads-most d l =
        le_trans (sum-le _ _ d (λ s b. le_trans (sum-le _ _ sys.sets (λ c b. reload-split s c)) (le_of_eq (sum-add _ _ sys.sets))))
        (le_trans (le_of_eq (sum-add _ _ d))
        (let v = sum-swap (λ c s. one (finds_first W y (own y k m c) k m u c (u + s))) d sys.sets in
        let x = sum-le (λ c. sum (λ s. one (finds_first W y (own y k m c) k m u c (u + s))) d)
        (λ c. sum (λ q. one (finds_in_program W w (λ v. w.program k m v c) k m (done_in u) c q)) leaves) sys.sets (λ c b. first-most d c l) in
        omega arith))

    -- ticks of the job: it works or waits
    had : (d : ℕ) → count_from (λ t. given k m (y.has t)) u d + (served y k m u + waits_of y k m u) ≡ served y k m (u + d) + waits_of y k m (u + d)
    had d =
        let a = sum-split (λ s. one (given k m (works y s))) u d in
        let b = sum-split (λ s. one (y.waits s && given k m (y.has s))) u d in
        let c = sum-add (λ s. one (given k m (works y (u + s)))) (λ s. one (y.waits (u + s) && given k m (y.has (u + s)))) d in
        let g : count_from (λ t. given k m (y.has t)) u d ≡ sum (λ s. one (given k m (works y (u + s))) + one (y.waits (u + s) && given k m (y.has (u + s)))) d =
        sum_same _ _ d (λ s l. split (y.waits (u + s)) (y.has (u + s))) in
        omega arith
      where
        split : (b : Bool) (x : Slot) → one (given k m x) ≡ one (given k m (elim b [ true ↦ idle | false ↦ x ])) + one (b && given k m x)
        split true x = omega arith
        split false x = omega arith

    lasts : (d : ℕ) → y.on u (u + d) ≡ true → count_from (λ t. given k m (y.has t)) u d
        < x₀.length + sys.brt * sum (λ s. sum (λ c. one (reloads W y (own_since y u k m c) k m c (u + s))) sys.sets) d
    unfolding useful-then
    lasts d o =
        omega (
          arith,
          had d,
          done-is sys w sane kept u k m,
          done-is sys w sane kept (u + d) k m,
          debt-is u k m,
          debt-is (u + d) k m,
          (took-says sys w sane kept u k m e f).1,
          limit (u + d) o,
          long,
          ap (λ (v : ℕ). sys.brt * v) (sum-split (λ s. sum (λ c. one (reloads W y (own y k m c) k m c s)) sys.sets) u d),
          mul-add sys.brt (reloads_of W y sys.sets k m u) (sum (λ s. sum (λ c. one (reloads W y (own y k m c) k m c (u + s))) sys.sets) d),
          mul-le-mul_left sys.brt (reloads-most d (omega (arith, limit (u + d) o))),
          mul-add sys.brt (sum (λ s. sum (λ c. one (reloads W y (own_since y u k m c) k m c (u + s))) sys.sets) d) useful-then,
        )
      where
        long : leaves + sys.brt * useful-then ≤ x₀.length + done_in u
        long = subst (λ (q : ℕ). leaves + sys.brt * useful-then ≤ (sys.accesses q).length + done_in u) (sym called) fair.length

  -- ---- THE MACHINE'S RUNS ARE LEGAL

  pub machine-legal : Legal sys y
  machine-legal = record {
    jobs = jobs-kept sys w sane kept;
    held = accesses-kept sys w sane kept;
    scheduled = scheduled sys w sane kept;
    evicts = λ t j n c e f. kept.evicts j n (done sys w sane kept t j n) c
        (and_parts (not (ltb 0 ((at_tick t).debt j n))) (w.program j n (done sys w sane kept t j n) c) (subst (λ (x : Slot). uses_now w (at_tick t) x c ≡ true) e f)).1;
    waits_only = λ j n t l. omega (arith, debt-is t j n);
    useful = λ j n c T t l d. omega (arith, finds-job j n c T t, kept.useful j n (done sys w sane kept T j n) c (done sys w sane kept t j n) l d);
    lasts = λ u d k m e f. lasts u k m e f d;
    useful_in = λ u k m c T d e f b. useful-in u k m e f c T d b;
  }
