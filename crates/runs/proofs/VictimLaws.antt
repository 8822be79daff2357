-- Whose reloads are charged to whom, where an access of a task below may be among those that are pre-empted.
use Prim.Native.Nat.{ℕ, zero, suc, ◌+◌, ◌*◌, min, ◌≤◌, ◌<◌}
use native.Mathlib.Nat.{eq-or-lt_of_le, lt_of_not-le, le_trans}
use native.Mathlib.Decide.{dec_le}
use native.Mathlib.Omega.{arith}
use mathlib.Core.Path.{◌≡◌, refl, ap, sym, subst₂, ◌∙◌}
use mathlib.Core.Bool.{Bool, true, false}
use mathlib.Core.Logic.{◌⊎◌, inl, inr}
use Rattle.std.proofs.lemmas.Bool.{false≢true}
use Rattle.runs.specs.Sums.{sum, one}
use Rattle.runs.specs.model.Jobs.{Task, job, given, Constrained, Run}
use Rattle.runs.specs.Promises.{inside}
use Rattle.runs.proofs.SumLaws.{sum-le, sum-empty, find}
use Rattle.runs.proofs.JobLaws.{releases_of, given_is, given-self}
use Rattle.runs.proofs.QuietLaws.{Quiet}
use Rattle.runs.proofs.OvertakingLaws.{Unblocked, task_of, same-task, same_index, newer, between-other}
use Rattle.runs.proofs.SearchLaws.{last-before, largest-at}
use Rattle.runs.proofs.LostLaws.{Lost}
use Rattle.runs.proofs.ChargeLaws.{index_of, inside-by, bound_by, charges-most}

-- a count that is 0 where b does not hold
one-times : (b : Bool) (n m : ℕ) → (1 ≤ n → b ≡ true) → n ≤ m → n ≤ one b * m
one-times true n m p l = omega arith
one-times false zero m p l = omega arith
one-times false (suc n) m p l = absurd (false≢true (p (omega arith)))

test : (y : Bool) → (y ≡ false) ⊎ (y ≡ true)
test true = inr refl
test false = inl refl

-- of the first n, none has q, or one has
pub any_of : (q : ℕ → Bool) (n : ℕ) → ((k : ℕ) → k < n → q k ≡ false) ⊎ ((k : ℕ) × (k < n) × (q k ≡ true))
any_of q n = find (λ k. q k ≡ false) (λ k. q k ≡ true) (λ k. test (q k)) n

-- p may pre-empt k: it is above k, where k is not below i, and above the bar, where k is the blocker
abbrev pub Allowed : ℕ → ℕ → ℕ → ℕ → Type 0
Allowed i bar p k = (p < k) × ((k ≤ i) ⊎ (p < bar))

-- job m of k reloads, in tick a + s, a block of cache set c that was lost since a; `Of` says which blocks count: Of k m c from t, that the job
-- uses in tick t one that it used last at `from`
pub record Victim (z : Run) (Of : ℕ → ℕ → ℕ → ℕ → ℕ → Type 0) (i bar a k m s c : ℕ) : Type 0 where
  pub now : z.has (a + s) ≡ job k m
  pub took : Lost z c (a + s) k m
  pub found : Of k m c took.from (a + s)
  pub begun : a ≤ took.from
  pub others : (v p l : ℕ) → took.from < v → v < a + s → z.has v ≡ job p l → given k m (z.has v) ≡ false → Allowed i bar p k

-- of the blocks that a job of k has used before T, it uses at most W, and at most N k c, again
abbrev pub Few : Run → (ℕ → ℕ → ℕ → ℕ → ℕ → Type 0) → ℕ → ℕ → (ℕ → ℕ → ℕ) → ℕ → ℕ → Type 0
Few z Of sets W N a x = (k m c T : ℕ) → c < sets → (ch : ℕ → Bool)
    → ((s : ℕ) → s < x → ch s ≡ true → (T ≤ a + s) × (z.has (a + s) ≡ job k m) × ((from : ℕ) × (from < T) × Of k m c from (a + s)))
    → sum (λ s. one (ch s)) x ≤ min W (N k c)

module _ (tasks : ℕ → Task) (size sets W : ℕ) (E : ℕ → ℕ → Bool) (z : Run) (legal : Unblocked tasks size z)
    (evicts : (t j n c : ℕ) → z.has t ≡ job j n → z.uses t c ≡ true → E j c ≡ true)
    (sane : (j : ℕ) → j < size → Constrained (tasks j)) (i bar : ℕ) (N : ℕ → ℕ → ℕ) (high : bar ≤ i) where
  below-i : (p k : ℕ) → Allowed i bar p k → p < i
  below-i p k (d, inl y) = omega arith
  below-i p k (d, inr y) = omega arith

  -- each list of such reloads is paid for by the tasks above i, at g for each release
  abbrev pub Pays : (ℕ → ℕ) → Type 1
  Pays g = (a x : ℕ) → Quiet z i a → (Of : ℕ → ℕ → ℕ → ℕ → ℕ → Type 0) → Few z Of sets W N a x → (ev : ℕ → ℕ → Bool)
      → ((s c : ℕ) → s < x → ev s c ≡ true → (k : ℕ) × (m : ℕ) × Victim z Of i bar a k m s c)
      → sum (λ s. sum (λ c. one (ev s c)) sets) x ≤ sum (λ p. releases_of z p (a + x) a x * g p) i

  module _ (a x : ℕ) (quiet : Quiet z i a) (Of : ℕ → ℕ → ℕ → ℕ → ℕ → Type 0) (few : Few z Of sets W N a x) (ev : ℕ → ℕ → Bool)
      (events : (s c : ℕ) → s < x → ev s c ≡ true → (k : ℕ) × (m : ℕ) × Victim z Of i bar a k m s c) where
    -- ---- method 3: a reload is charged to the job that used the cache set first, after the last use of the block

    record Facts3 (p l s c : ℕ) : Type 0 where
      task : ℕ
      index : ℕ
      victim : Victim z Of i bar a task index s c
      by : z.has victim.took.by ≡ job p l
      allowed : Allowed i bar p task

    charged3 : (s c : ℕ) → s < x → ev s c ≡ true → (p : ℕ) × (l : ℕ) × (p < i) × (l < a + x) × Facts3 p l s c
    charged3 s c d e = at (events s c d e)
      where
        at : (k : ℕ) × (m : ℕ) × Victim z Of i bar a k m s c → (p : ℕ) × (l : ℕ) × (p < i) × (l < a + x) × Facts3 p l s c
        at (k, m, v) =
            let w = v.took in
            let o = between-other tasks size z legal sane w.from w.by (a + s) k m w.mine v.now (omega (arith, w.after)) (omega (arith, w.before)) w.by-other in
            let q = v.others w.by o.0 o.1 w.after w.before o.2 w.by-other in (
              o.0,
              o.1,
              below-i o.0 k q,
              omega (arith, index_of tasks size sets z legal sane w.by o.0 o.1 o.2, w.before),
              record { task = k; index = m; victim = v; by = o.2; allowed = q },
            )

    inside3 : (p l s c : ℕ) → s < x → Facts3 p l s c → inside a x (z.released p l) ≡ true
    inside3 p l s c d f =
        let w = f.victim.took in
        inside-by tasks size sets z legal sane i a x quiet p l w.by (below-i p f.task f.allowed) (omega (arith, f.victim.begun, w.after)) (omega (arith, w.before)) f.by

    -- it is charged at one moment only: when it uses the cache set first
    no-later3 : (p l c s t : ℕ) (f : Facts3 p l s c) (g : Facts3 p l t c) → f.victim.took.by < g.victim.took.by → ⊥
    no-later3 p l c s t f g b =
        let u = f.victim.took in
        let v = g.victim.took in
        let r = newer tasks size z legal sane v.from v.by u.by g.task g.index p l v.mine g.by v.after g.allowed.0 f.by in
        let w = given_is g.task g.index (z.has u.by) (v.first u.by r b u.by-uses) in
        omega (arith, same-task (sym f.by ∙ w), g.allowed.0)

    one-by : (p l c s t : ℕ) (f : Facts3 p l s c) (g : Facts3 p l t c) → f.victim.took.by ≡ g.victim.took.by
    one-by p l c s t f g = go (dec_le f.victim.took.by g.victim.took.by) (dec_le g.victim.took.by f.victim.took.by)
      where
        go : Dec (f.victim.took.by ≤ g.victim.took.by) → Dec (g.victim.took.by ≤ f.victim.took.by) → f.victim.took.by ≡ g.victim.took.by
        go (yes b) (yes e) = omega arith
        go (no b) e = absurd (no-later3 p l c t s g f (lt_of_not-le b))
        go (yes b) (no e) = absurd (no-later3 p l c s t f g (lt_of_not-le e))

    -- and with blocks of one job only: the last that used the cache set before
    one-job3 : (p l c s t : ℕ) (f : Facts3 p l s c) (g : Facts3 p l t c) → job f.task f.index ≡ job g.task g.index
    one-job3 p l c s t f g = go (dec_le u.from v.from) (dec_le v.from u.from)
      where
        u : Lost z c (a + s) f.task f.index
        u = f.victim.took

        v : Lost z c (a + t) g.task g.index
        v = g.victim.took

        same : u.by ≡ v.by
        same = one-by p l c s t f g

        go : Dec (u.from ≤ v.from) → Dec (v.from ≤ u.from) → job f.task f.index ≡ job g.task g.index
        go (no b) w =
            sym u.mine ∙ given_is g.task g.index (z.has u.from) (v.first u.from (lt_of_not-le b) (omega (arith, u.after, same)) u.from-uses)
        go (yes b) (no w) =
            sym (given_is f.task f.index (z.has v.from) (u.first v.from (lt_of_not-le w) (omega (arith, v.after, same)) v.from-uses)) ∙ v.mine
        go (yes b) (yes w) = let e : u.from ≡ v.from = omega arith in sym u.mine ∙ ap z.has e ∙ v.mine

    module _ (g : ℕ → ℕ) (M : ℕ → ℕ → ℕ) (covers : (p k c : ℕ) → Allowed i bar p k → min W (N k c) ≤ M p c)
        (most : (p : ℕ) → p < i → sum (λ c. one (E p c) * M p c) sets ≤ g p) where
      in-set3 : (p l c : ℕ) → c < sets → (ch : ℕ → Bool) → ((s : ℕ) → s < x → ch s ≡ true → Facts3 p l s c) → sum (λ s. one (ch s)) x ≤ one (E p c) * M p c
      in-set3 p l c d ch facts = go (any_of ch x)
        where
          go : ((s : ℕ) → s < x → ch s ≡ false) ⊎ ((s : ℕ) × (s < x) × (ch s ≡ true)) → sum (λ s. one (ch s)) x ≤ one (E p c) * M p c
          go (inl none) = let w : sum (λ s. one (ch s)) x ≡ 0 = sum-empty _ x (λ s b. ap one (none s b)) in omega arith
          go (inr (s₀, b₀, e₀)) =
              let f = facts s₀ b₀ e₀ in
              one-times (E p c) _ (M p c) (λ b. evicts f.victim.took.by p l c f.by f.victim.took.by-uses)
              (le_trans (few f.task f.index c f.victim.took.by d ch (λ s b e.
              let y = facts s b e in
              let q = one-by p l c s₀ s f y in
              let j = one-job3 p l c s s₀ y f in (
                omega (arith, y.victim.took.before),
                y.victim.now ∙ j,
                (
                  y.victim.took.from,
                  omega (arith, y.victim.took.after),
                  subst₂ (λ (k m : ℕ). Of k m c y.victim.took.from (a + s)) (same-task j) (same_index j) y.victim.found,
                ),
              ))) (covers p f.task c f.allowed))

      bound3 : (p l : ℕ) → p < i → (ch : ℕ → ℕ → Bool) → ((s c : ℕ) → s < x → ch s c ≡ true → Facts3 p l s c)
          → sum (λ c. sum (λ s. one (ch s c)) x) sets ≤ one (inside a x (z.released p l)) * g p
      bound3 p l b ch facts =
          bound_by tasks size sets z legal sane i a x quiet p l (g p) ch (λ s c d e. inside3 p l s c d (facts s c d e))
          (le_trans (sum-le _ (λ c. one (E p c) * M p c) sets (λ c d. in-set3 p l c d (λ s. ch s c) (λ s y e. facts s c y e))) (most p b))

      paid3 : sum (λ s. sum (λ c. one (ev s c)) sets) x ≤ sum (λ p. releases_of z p (a + x) a x * g p) i
      paid3 = charges-most tasks size sets z legal sane i a x quiet g Facts3 ev charged3 bound3

    -- ---- method 4: a reload is charged to the lowest job that had the processor since the victim had it last, up to the first use by another

    record Facts4 (X : ℕ → ℕ → Bool) (p l s c : ℕ) : Type 0 where
      task : ℕ
      index : ℕ
      victim : Victim z Of i bar a task index s c
      left : ℕ
      since : victim.took.from ≤ left
      mine : z.has left ≡ job task index
      at : ℕ
      after : left < at
      before : at ≤ victim.took.by
      has : z.has at ≡ job p l
      allowed : Allowed i bar p task
      low : (w : ℕ) → left < w → w ≤ victim.took.by → task_of (z.has w) ≤ p
      above : X p c ≡ true

    module _ (g : ℕ → ℕ) (X : ℕ → ℕ → Bool) (covers : (p k c : ℕ) → k ≤ p → E k c ≡ true → X p c ≡ true)
        (most : (p k : ℕ) → Allowed i bar p k → sum (λ c. one (X p c) * N k c) sets ≤ g p) where
      charged4 : (s c : ℕ) → s < x → ev s c ≡ true → (p : ℕ) × (l : ℕ) × (p < i) × (l < a + x) × Facts4 X p l s c
      charged4 s c d e = at (events s c d e)
        where
          build : (k m : ℕ) (y : Victim z Of i bar a k m s c)
              → (l : ℕ) × (y.took.from ≤ l) × (l < y.took.by) × (given k m (z.has l) ≡ true) × ((v : ℕ) → l < v → v < y.took.by → given k m (z.has v) ≡ false)
              → (p : ℕ) × (l : ℕ) × (p < i) × (l < a + x) × Facts4 X p l s c
          build k m y (left, since, short, hers, others) =
              pick (largest-at (λ v. task_of (z.has v)) left w.by short)
            where
              w : Lost z c (a + s) k m
              w = y.took

              mine : z.has left ≡ job k m
              mine = given_is k m (z.has left) hers

              foreign : (v : ℕ) → left < v → (v ≡ w.by) ⊎ (v < w.by) → given k m (z.has v) ≡ false
              foreign v c (inl q) = rw q w.by-other
              foreign v c (inr q) = others v c q

              who : (v : ℕ) → left < v → v ≤ w.by → (j : ℕ) × (l : ℕ) × (z.has v ≡ job j l) × (j < k)
              who v c q =
                  between-other tasks size z legal sane left v (a + s) k m mine y.now (omega arith) (omega (arith, w.before)) (foreign v c (eq-or-lt_of_le q))

              pick : (v : ℕ) × (left < v) × (v ≤ w.by) × ((y : ℕ) → left < y → y ≤ w.by → task_of (z.has y) ≤ task_of (z.has v))
                  → (p : ℕ) × (l : ℕ) × (p < i) × (l < a + x) × Facts4 X p l s c
              pick (v, c₁, c₂, low) =
                  let o = who v c₁ c₂ in
                  let t = who w.by short (omega arith) in
                  let q : task_of (z.has v) ≡ o.0 = ap task_of o.2 in
                  let q₂ : task_of (z.has w.by) ≡ t.0 = ap task_of t.2 in
                  let al = y.others v o.0 o.1 (omega arith) (omega (arith, w.before)) o.2 (foreign v c₁ (eq-or-lt_of_le c₂)) in (
                    o.0,
                    o.1,
                    below-i o.0 k al,
                    omega (arith, index_of tasks size sets z legal sane v o.0 o.1 o.2, w.before),
                    record {
                      task = k;
                      index = m;
                      victim = y;
                      left = left;
                      since = since;
                      mine = mine;
                      at = v;
                      after = c₁;
                      before = c₂;
                      has = o.2;
                      allowed = al;
                      low = λ y₁ b₁ b₂. omega (arith, low y₁ b₁ b₂);
                      above = covers o.0 t.0 c (omega (arith, low w.by short (omega arith))) (evicts w.by t.0 t.1 c t.2 w.by-uses);
                    },
                  )

          at : (k : ℕ) × (m : ℕ) × Victim z Of i bar a k m s c → (p : ℕ) × (l : ℕ) × (p < i) × (l < a + x) × Facts4 X p l s c
          at (k, m, y) =
              let w = y.took in
              build k m y (last-before (λ t. given k m (z.has t)) w.from w.by w.after (given-self k m (z.has w.from) w.mine))

      inside4 : (p l s c : ℕ) → s < x → Facts4 X p l s c → inside a x (z.released p l) ≡ true
      inside4 p l s c d f =
          inside-by tasks size sets z legal sane i a x quiet p l f.at (below-i p f.task f.allowed)
          (omega (arith, f.victim.begun, f.since, f.after)) (omega (arith, f.before, f.victim.took.before)) f.has

      -- all that a job is charged with comes from one pre-emption
      no-later : (p l s c t d : ℕ) (f : Facts4 X p l s c) (g : Facts4 X p l t d) → f.left < g.left → ⊥
      no-later p l s c t d f g b =
          let q : task_of (z.has g.left) ≡ g.task = ap task_of g.mine in
          let r = newer tasks size z legal sane g.left g.at f.at g.task g.index p l g.mine g.has g.after g.allowed.0 f.has in
          omega (arith, f.low g.left b (omega (arith, r, f.before)), g.allowed.0)

      one_left : (p l s c t d : ℕ) (f : Facts4 X p l s c) (g : Facts4 X p l t d) → f.left ≡ g.left
      one_left p l s c t d f g = go (dec_le f.left g.left) (dec_le g.left f.left)
        where
          go : Dec (f.left ≤ g.left) → Dec (g.left ≤ f.left) → f.left ≡ g.left
          go (yes b) (yes e) = omega arith
          go (no b) e = absurd (no-later p l t d s c g f (lt_of_not-le b))
          go (yes b) (no e) = absurd (no-later p l s c t d f g (lt_of_not-le e))

      one-job : (p l s c t d : ℕ) (f : Facts4 X p l s c) (g : Facts4 X p l t d) → job f.task f.index ≡ job g.task g.index
      one-job p l s c t d f g = sym f.mine ∙ ap z.has (one_left p l s c t d f g) ∙ g.mine

      in-set4 : (p l c s₀ c₀ : ℕ) → c < sets → (f : Facts4 X p l s₀ c₀) → (ch : ℕ → Bool) → ((s : ℕ) → s < x → ch s ≡ true → Facts4 X p l s c)
          → sum (λ s. one (ch s)) x ≤ one (X p c) * N f.task c
      in-set4 p l c s₀ c₀ d f ch facts = go (any_of ch x)
        where
          go : ((s : ℕ) → s < x → ch s ≡ false) ⊎ ((s : ℕ) × (s < x) × (ch s ≡ true)) → sum (λ s. one (ch s)) x ≤ one (X p c) * N f.task c
          go (inl none) = let w : sum (λ s. one (ch s)) x ≡ 0 = sum-empty _ x (λ s b. ap one (none s b)) in omega arith
          go (inr (s₁, b₁, e₁)) =
              one-times (X p c) _ (N f.task c) (λ b. (facts s₁ b₁ e₁).above)
              (le_trans (few f.task f.index c (suc f.left) d ch (λ s b e.
              let y = facts s b e in
              let q = one_left p l s₀ c₀ s c f y in
              let j = one-job p l s c s₀ c₀ y f in (
                omega (arith, y.after, y.before, y.victim.took.before),
                y.victim.now ∙ j,
                (
                  y.victim.took.from,
                  omega (arith, y.since),
                  subst₂ (λ (k m : ℕ). Of k m c y.victim.took.from (a + s)) (same-task j) (same_index j) y.victim.found,
                ),
              ))) (omega arith))

      bound4 : (p l : ℕ) → p < i → (ch : ℕ → ℕ → Bool) → ((s c : ℕ) → s < x → ch s c ≡ true → Facts4 X p l s c)
          → sum (λ c. sum (λ s. one (ch s c)) x) sets ≤ one (inside a x (z.released p l)) * g p
      bound4 p l b ch facts =
          bound_by tasks size sets z legal sane i a x quiet p l (g p) ch (λ s c d e. inside4 p l s c d (facts s c d e))
          (go (find (λ c. (s : ℕ) → s < x → ch s c ≡ false) (λ c. (s : ℕ) × (s < x) × (ch s c ≡ true)) (λ c. any_of (λ s. ch s c) x) sets))
        where
          go : ((c : ℕ) → c < sets → (s : ℕ) → s < x → ch s c ≡ false) ⊎ ((c : ℕ) × (c < sets) × ((s : ℕ) × (s < x) × (ch s c ≡ true)))
              → sum (λ c. sum (λ s. one (ch s c)) x) sets ≤ g p
          go (inl none) =
              let w : sum (λ c. sum (λ s. one (ch s c)) x) sets ≡ 0 = sum-empty _ sets (λ c k. sum-empty _ x (λ s d. ap one (none c k s d))) in
              omega arith
          go (inr w) =
              let f = facts w.2.0 w.0 w.2.1 w.2.2 in
              le_trans (sum-le _ (λ c. one (X p c) * N f.task c) sets
              (λ c d. in-set4 p l c w.2.0 w.0 d f (λ s. ch s c) (λ s y e. facts s c y e)))
              (most p f.task f.allowed)

      paid4 : sum (λ s. sum (λ c. one (ev s c)) sets) x ≤ sum (λ p. releases_of z p (a + x) a x * g p) i
      paid4 = charges-most tasks size sets z legal sane i a x quiet g (Facts4 X) ev charged4 bound4

  -- a count that is no less, in the cache sets that j uses, than what each that it may pre-empt finds_alone useful there
  pub pays3 : (g : ℕ → ℕ) (M : ℕ → ℕ → ℕ) → ((p k c : ℕ) → Allowed i bar p k → min W (N k c) ≤ M p c)
      → ((p : ℕ) → p < i → sum (λ c. one (E p c) * M p c) sets ≤ g p) → Pays g
  pays3 g M covers most a x quiet Of few ev events = paid3 a x quiet Of few ev events g M covers most

  -- a count that is no less than what each that j may pre-empt finds_alone useful where j or one above uses the cache set
  pub pays4 : (g : ℕ → ℕ) (X : ℕ → ℕ → Bool) → ((p k c : ℕ) → k ≤ p → E k c ≡ true → X p c ≡ true)
      → ((p k : ℕ) → Allowed i bar p k → sum (λ c. one (X p c) * N k c) sets ≤ g p) → Pays g
  pays4 g X covers most a x quiet Of few ev events = paid4 a x quiet Of few ev events g X covers most
