-- The machine goes by the rules of the model: who has the processor, and who holds which access.
use Prim.Native.Nat.{ℕ, zero, suc, ◌+◌, ◌-◌, ◌≤◌, ◌<◌}
use native.Mathlib.Nat.{eq-or-lt_of_le, lt_of_not-le}
use native.Mathlib.Decide.{dec_le}
use native.Mathlib.Omega.{arith}
use mathlib.Core.Path.{◌≡◌, refl, ap, ap₂, sym, subst, subst₂, ◌∙◌}
use mathlib.Core.Bool.{Bool, true, false, not}
use mathlib.Core.List.{List, [], ◌∷◌}
use mathlib.Core.Logic.{◌⊎◌, inl, inr}
use lib.Dec.{eqb, leb, ltb}
use borrow.Author.Tests.{eqb-true, ne_eqb, eq-eqb, leb-true, ltb-true, ltb-false, le-leb, lt-ltb, le-ltb}
use Rattle.std.proofs.lemmas.Bool.{and_parts, both_ways, false≢true, or_cases}
use Rattle.runs.specs.Sums.{sum, one}
use Rattle.runs.specs.model.Jobs.{Slot, idle, job, Run, given, served, Pending, Constrained, works, JobsKept}
use Rattle.runs.specs.model.Accesses.{Holding, AccessesKept}
use Rattle.runs.specs.model.Schedule.{Scheduled}
use Rattle.runs.specs.model.Legal.{System}
use Rattle.runs.specs.machine.Chooser.{ready_at}
use Rattle.runs.specs.machine.Programs.{Programs, ProgramsKept, AccessFair}
use Rattle.runs.specs.machine.Turns.{State, who, Entry, pick, choose, clear, holds, takes_now, calls_now, entry_of, pop_entry, push_entry, state_at, machine}
use Rattle.runs.proofs.JobLaws.{given_is}
use Rattle.runs.proofs.OvertakingLaws.{same-task, same_index}
use Rattle.runs.proofs.ChooserLaws.{TaskOk, task-ok}
use Rattle.std.proofs.lemmas.Grind.{common_steps}

-- ---- stacks

abbrev Above : ℕ → List Entry → Type 0
Above k [] = true ≡ true
Above k (e ∷ r) = (k < e.ceiling) × Above k r

abbrev Sorted : List Entry → Type 0
Sorted [] = true ≡ true
Sorted (e ∷ r) = Above e.task r × Sorted r

abbrev OnTop : ℕ → ℕ → List Entry → Type 0
OnTop k m [] = ⊥
OnTop k m (e ∷ r) = (e.task ≡ k) × (e.index ≡ m) × Above k r × (clear k (e ∷ r) ≡ false)

above_more : (j k : ℕ) (l : List Entry) → j ≤ k → Above k l → Above j l
above_more j k [] d p = refl
above_more j k (e ∷ r) d p = (omega (arith, p.0), above_more j k r d p.1)

module _ (sys : System) (w : Programs) (sane : (j : ℕ) → j < sys.size → Constrained (sys.tasks j)) (kept : ProgramsKept sys w) where
  abbrev pub z : Run
  z = machine sys w

  abbrev pub S : ℕ → State
  S t = state_at sys w t

  abbrev pub done : ℕ → ℕ → ℕ → ℕ
  done t = (S t).done

  abbrev pub has : ℕ → Slot
  has t = z.has t

  abbrev h : Run
  h = z

  abbrev pub ready : ℕ → ℕ → ℕ → Bool
  ready t = ready_at w.released w.needs t (done t)

  -- ---- the machine's state says what the model says

  pub done-is : (t j n : ℕ) → served h j n t ≡ done t j n
  unfolding sum state_at
  done-is zero j n = refl
  done-is (suc t) j n = ap (λ (x : ℕ). x + one (given j n (works h t))) (done-is t j n)

  pub done_next : (t j n : ℕ) → done (suc t) j n ≡ done t j n + one (given j n (works h t))
  unfolding state_at
  done_next t j n = refl

  done-same : (t j n : ℕ) → given j n (has t) ≡ false → done (suc t) j n ≡ done t j n
  done-same t j n e = done_next t j n ∙ at (z.waits t)
    where
      at : (b : Bool) → done t j n + one (given j n (elim b [ true ↦ idle | false ↦ has t ])) ≡ done t j n
      at true = omega arith
      at false = rw e (omega arith)

  index : (j n : ℕ) → j < sys.size → n ≤ w.released j n
  index j n l = omega (arith, go n, kept.not_before j n l)
    where
      go : (n : ℕ) → n ≤ w.arrives j n
      go zero = omega arith
      go (suc n) = omega (arith, go n, kept.apart j n l, (sane j l).live)

  -- jobs of a task are released in their order
  ordered : (j n m : ℕ) → j < sys.size → n < m → w.released j n ≤ w.released j m
  ordered j n m l d =
      let e : suc (n + (m - suc n)) ≡ m = omega arith in
      let v = subst (λ (y : ℕ). w.arrives j n + (sys.tasks j).period ≤ w.arrives j y) e (go (m - suc n)) in
      omega (arith, kept.not_before j m l, kept.not_after j n l, (sane j l).jitter, (sane j l).deadline)
    where
      go : (k : ℕ) → w.arrives j n + (sys.tasks j).period ≤ w.arrives j (suc (n + k))
      go zero = let e : n + 0 ≡ n = omega arith in rw e (kept.apart j n l)
      go (suc k) = let e : n + suc k ≡ suc (n + k) = omega arith in rw e (omega (arith, go k, kept.apart j (suc (n + k)) l))

  ready-pending : (t j n : ℕ) → ready t j n ≡ true → (w.released j n ≤ t) × (done t j n < w.needs j n)
  ready-pending t j n e =
      let p = and_parts (leb (w.released j n) t) (ltb (done t j n) (w.needs j n)) e in
      (leb-true (w.released j n) t p.0, ltb-true (done t j n) (w.needs j n) p.1)

  pending-ready : (t j n : ℕ) → Pending h j n t → ready t j n ≡ true
  pending-ready t j n p =
      rw (le-leb (w.released j n) t p.0, lt-ltb (done t j n) (w.needs j n) (omega (arith, p.1, done-is t j n))) refl

  not-ready : (t j n : ℕ) → w.released j n ≤ t → ready t j n ≡ false → w.needs j n ≤ done t j n
  not-ready t j n l e =
      let q = le-leb (w.released j n) t l in
      ltb-false (done t j n) (w.needs j n) (rw q at e)

  -- ---- what holds of each access that is on

  record Good (t : ℕ) (e : Entry) : Type 0 where
    before : e.tag < t
    took : z.takes e.tag ≡ true
    mine : has e.tag ≡ job e.task e.index
    roof : e.ceiling ≡ (sys.accesses (z.which e.tag)).ceiling
    high : e.ceiling ≤ e.task
    there : e.task < sys.size
    released : w.released e.task e.index ≤ e.tag
    ends : e.end ≤ w.needs e.task e.index
    limit : e.end ≡ w.leaves e.task e.index (done e.tag e.task e.index)
    firsts : (n : ℕ) → n < e.index → w.needs e.task n ≤ done t e.task n

  abbrev AllGood : ℕ → List Entry → Type 0
  AllGood t [] = true ≡ true
  AllGood t (e ∷ r) = Good t e × (done t e.task e.index < e.end) × AllGood t r

  abbrev Weak : ℕ → List Entry → Type 0
  Weak t [] = true ≡ true
  Weak t (e ∷ r) = Good t e × AllGood t r

  good-next : (t : ℕ) (e : Entry) → Good t e → Good (suc t) e
  good-next t e g = record {
    before = omega (arith, g.before);
    took = g.took;
    mine = g.mine;
    roof = g.roof;
    high = g.high;
    there = g.there;
    released = g.released;
    ends = g.ends;
    limit = g.limit;
    firsts = λ n l. omega (arith, g.firsts n l, done_next t e.task n);
  }

  -- who has the processor
  record Runs (t k m : ℕ) : Type 0 where
    there : k < sys.size
    released : w.released k m ≤ t
    short : done t k m < w.needs k m
    firsts : (n : ℕ) → n < m → w.needs k n ≤ done t k n

  from_first : (t k m : ℕ) → TaskOk (ready t) (suc t) sys.size (job k m) → Runs t k m
  from_first t k m v =
      let p = ready-pending t k m v.1 in
      record { there = v.0; released = p.0; short = p.1; firsts = λ n l. not-ready t k n (omega (arith, p.0, ordered k n m v.0 l)) (v.3 n l) }

  from-top : (t : ℕ) (e : Entry) (k m : ℕ) → Good t e → done t e.task e.index < e.end → job e.task e.index ≡ job k m → Runs t k m
  from-top t e k m g d q = grind (arith, common_steps)

  runner-of : (t : ℕ) (l : List Entry) (y : Slot) → TaskOk (ready t) (suc t) sys.size y → AllGood t l → (k m : ℕ) → choose y l ≡ job k m → Runs t k m
  runner-of t [] y v g k m e = from_first t k m (subst (TaskOk (ready t) (suc t) sys.size) e v)
  runner-of t (x ∷ r) idle v g k m e = from-top t x k m g.0 g.1 e
  runner-of t (x ∷ r) (job c n) v g k m e = at (ltb c x.ceiling) e
    where
      at : (b : Bool) → elim b [ true ↦ job c n | false ↦ job x.task x.index ] ≡ job k m → Runs t k m
      at true f = from_first t k m (subst (TaskOk (ready t) (suc t) sys.size) f v)
      at false f = from-top t x k m g.0 g.1 f

  -- it is above all that is on, or on top
  runner-where : (t : ℕ) (l : List Entry) (y : Slot) → AllGood t l → Sorted l → (k m : ℕ) → choose y l ≡ job k m → Above k l ⊎ OnTop k m l
  runner-where t [] y g o k m e = inl refl
  runner-where t (x ∷ r) y g o k m e = go y e
    where
      top : job x.task x.index ≡ job k m → Above k (x ∷ r) ⊎ OnTop k m (x ∷ r)
      top f =
          let q = same-task f in
          inr (q, same_index f, subst (λ (j : ℕ). Above j r) q o.0, le-ltb k x.ceiling (omega (arith, g.0.high)))

      go : (y : Slot) → pick y x ≡ job k m → Above k (x ∷ r) ⊎ OnTop k m (x ∷ r)
      go idle f = top f
      go (job c n) f = at (ltb c x.ceiling) refl f
        where
          at : (b : Bool) → ltb c x.ceiling ≡ b → elim b [ true ↦ job c n | false ↦ job x.task x.index ] ≡ job k m → Above k (x ∷ r) ⊎ OnTop k m (x ∷ r)
          at true q f =
              let d : k < x.ceiling = omega (arith, ltb-true c x.ceiling q, same-task f) in
              inl (d, above_more k x.task r (omega (arith, g.0.high)) o.0)
          at false q f = top f

  -- ---- one tick

  keep : (t k m : ℕ) → has t ≡ job k m → (l : List Entry) → Above k l → AllGood t l → AllGood (suc t) l
  keep t k m e [] a g = refl
  keep t k m e (x ∷ r) a g = (
    good-next t x g.0,
    omega (arith, g.1, done-same t x.task x.index (other (given x.task x.index (has t)) refl)),
    keep t k m e r a.1 g.2,
  )
    where
      other : (b : Bool) → given x.task x.index (has t) ≡ b → b ≡ false
      other true f = absurd (omega (arith, same-task (sym e ∙ given_is x.task x.index (has t) f), a.0, g.0.high))
      other false f = refl

  weak-next : (t k m : ℕ) → has t ≡ job k m → (l : List Entry) → AllGood t l → Above k l ⊎ OnTop k m l → Weak (suc t) l
  weak-next t k m e [] g p = refl
  weak-next t k m e (x ∷ r) g (inl a) = (good-next t x g.0, keep t k m e r a.1 g.2)
  weak-next t k m e (x ∷ r) g (inr a) = (good-next t x g.0, keep t k m e r a.2 g.2)

  abbrev Inv : ℕ → List Entry → Type 0
  Inv t l = AllGood t l × Sorted l

  pop-inv : (t : ℕ) (l : List Entry) → Weak t l → Sorted l → Inv t (pop_entry (done t) l)
  pop-inv t l g o = grind (arith, common_steps)

  above-clear : (k m : ℕ) (l : List Entry) → clear k l ≡ true → Above k l ⊎ OnTop k m l → Above k l
  above-clear k m l e (inl p) = p
  above-clear k m [] e (inr p) = absurd p
  above-clear k m (x ∷ r) e (inr p) = absurd (both_ways (clear k (x ∷ r)) p.3 e)

  idle-empty : (y : Slot) (l : List Entry) → choose y l ≡ idle → l ≡ []
  idle-empty y l e = grind (arith, common_steps)

  next-inv : (t : ℕ) → Inv t (S t).stack → (y : Slot) → has t ≡ y → Inv (suc t) (pop_entry (done (suc t)) (push_entry sys w t (S t) y))
  next-inv t v idle e =
      let q = idle-empty (who w sys.size t (S t)) (S t).stack e in
      subst (λ (l : List Entry). Inv (suc t) (pop_entry (done (suc t)) l)) (sym q) (refl, refl)
  next-inv t v (job k m) e = at (takes_now w (S t) (job k m)) refl
    where
      place : Above k (S t).stack ⊎ OnTop k m (S t).stack
      place = runner-where t (S t).stack (who w sys.size t (S t)) v.0 v.1 k m e

      run : Runs t k m
      run = runner-of t (S t).stack (who w sys.size t (S t)) (task-ok (ready t) (suc t) sys.size) v.0 k m e

      at : (b : Bool) → takes_now w (S t) (job k m) ≡ b
          → Inv (suc t) (pop_entry (done (suc t)) (elim b [ true ↦ entry_of sys w t (S t) (job k m) ∷ (S t).stack | false ↦ (S t).stack ]))
      at false f = pop-inv (suc t) (S t).stack (weak-next t k m e (S t).stack v.0 place) v.1
      at true f =
          let p = and_parts (clear k (S t).stack) _ f in
          let q = and_parts (not (ltb 0 ((S t).debt k m))) (w.enters k m (done t k m)) p.1 in
          let a = above-clear k m (S t).stack p.0 place in
          let i = kept.fair k m (done t k m) q.1 in
          pop-inv (suc t) (entry_of sys w t (S t) (job k m) ∷ (S t).stack) (
            record {
              before = omega arith;
              took = subst (λ (y : Slot). takes_now w (S t) y ≡ true) (sym e) f;
              mine = e;
              roof = ap (λ (y : Slot). (sys.accesses (calls_now w (S t) y)).ceiling) (sym e);
              high = i.ceiling;
              there = run.there;
              released = run.released;
              ends = i.ends;
              limit = refl;
              firsts = λ n l. omega (arith, run.firsts n l, done_next t k n);
            },
            keep t k m e (S t).stack a v.0,
          )
          (a, v.1)

  inv : (t : ℕ) → Inv t (S t).stack
  unfolding state_at
  inv zero = (refl, refl)
  inv (suc t) = next-inv t (inv t) (has t) refl

  run_at : (t k m : ℕ) → has t ≡ job k m → Runs t k m
  run_at t k m e = runner-of t (S t).stack (who w sys.size t (S t)) (task-ok (ready t) (suc t) sys.size) (inv t).0 k m e

  place_at : (t k m : ℕ) → has t ≡ job k m → Above k (S t).stack ⊎ OnTop k m (S t).stack
  place_at t k m e = runner-where t (S t).stack (who w sys.size t (S t)) (inv t).0 (inv t).1 k m e

  -- ---- what is on

  entry : (t u : ℕ) (l : List Entry) → holds u l ≡ true → AllGood t l → (e : Entry) × (e.tag ≡ u) × Good t e × (done t e.task e.index < e.end)
  entry t u [] f g = absurd (false≢true f)
  entry t u (x ∷ r) f g = at (or_cases (eqb x.tag u) (holds u r) f) (λ q. entry t u r q g.2)
    where
      at : (eqb x.tag u ≡ true) ⊎ (holds u r ≡ true)
          → (holds u r ≡ true → (e : Entry) × (e.tag ≡ u) × Good t e × (done t e.task e.index < e.end))
          → (e : Entry) × (e.tag ≡ u) × Good t e × (done t e.task e.index < e.end)
      at (inl q) rest = (x, eqb-true x.tag u q, g.0, g.1)
      at (inr q) rest = rest q

  entry-above : (t u k : ℕ) (l : List Entry) → holds u l ≡ true → Above k l → AllGood t l → (e : Entry) × (e.tag ≡ u) × Good t e × (k < e.ceiling)
  entry-above t u k [] f a g = absurd (false≢true f)
  entry-above t u k (x ∷ r) f a g = at (or_cases (eqb x.tag u) (holds u r) f) (λ q. entry-above t u k r q a.1 g.2)
    where
      at : (eqb x.tag u ≡ true) ⊎ (holds u r ≡ true) → (holds u r ≡ true → (e : Entry) × (e.tag ≡ u) × Good t e × (k < e.ceiling))
          → (e : Entry) × (e.tag ≡ u) × Good t e × (k < e.ceiling)
      at (inl q) rest = (x, eqb-true x.tag u q, g.0, a.0)
      at (inr q) rest = rest q

  held-holds : (u t : ℕ) → Holding z u t → holds u (S t).stack ≡ true
  held-holds u t d =
      let q = ne_eqb u t (λ e. omega (arith, d.since)) in
      rw q at d.still

  holds-pop : (u : ℕ) (f : ℕ → ℕ → ℕ) (l : List Entry) → holds u (pop_entry f l) ≡ true → holds u l ≡ true
  holds-pop u f l e = grind (arith, common_steps)

  holds-push : (u t : ℕ) → u < t → (y : Slot) → holds u (push_entry sys w t (S t) y) ≡ true → holds u (S t).stack ≡ true
  holds-push u t l y e = grind (arith, common_steps)

  holds-back : (u t : ℕ) → u < t → holds u (S (suc t)).stack ≡ true → holds u (S t).stack ≡ true
  unfolding state_at
  holds-back u t l e = holds-push u t l (has t) (holds-pop u (done (suc t)) (push_entry sys w t (S t) (has t)) e)

  holds-since : (u s d : ℕ) → u < s → holds u (S (s + d)).stack ≡ true → holds u (S s).stack ≡ true
  holds-since u s zero l e = let q : s + 0 ≡ s = omega arith in rw q at e
  holds-since u s (suc d) l e =
      let q : s + suc d ≡ suc (s + d) = omega arith in
      holds-since u s d l (holds-back u (s + d) (omega arith) (subst (λ (y : ℕ). holds u (S y).stack ≡ true) q e))

  pub took-says : (u k m : ℕ) → z.takes u ≡ true → has u ≡ job k m
      → (clear k (S u).stack ≡ true) × ((S u).debt k m ≡ 0) × AccessFair sys w k m (done u k m) × (z.which u ≡ w.calls k m (done u k m))
  took-says u k m e f = grind (arith, common_steps)

  -- ---- THE MACHINE'S RUNS ARE LEGAL

  only : (t j n : ℕ) → has t ≡ job j n → (j < sys.size) × Pending h j n t
  only t j n e = let r = run_at t j n e in (r.there, (r.released, omega (arith, r.short, done-is t j n)))

  order : (t j n m : ℕ) → has t ≡ job j m → Pending h j n t → m ≤ n
  order t j n m e p = go (dec_le m n)
    where
      go : Dec (m ≤ n) → m ≤ n
      go (yes q) = q
      go (no q) = absurd (omega (arith, (run_at t j m e).firsts n (lt_of_not-le q), p.1, done-is t j n))

  first-is : (t j n : ℕ) → j < sys.size → Pending h j n t → (y : Slot) → TaskOk (ready t) (suc t) sys.size y → (c : ℕ) × (q : ℕ) × (y ≡ job c q) × (c ≤ j)
  first-is t j n l p idle v =
      absurd (both_ways (ready t j n) (v j n l (omega (arith, p.0, index j n l))) (pending-ready t j n p))
  first-is t j n l p (job c q) v = (c, q, refl, go (dec_le c j))
    where
      go : Dec (c ≤ j) → c ≤ j
      go (yes d) = d
      go (no d) = absurd (both_ways (ready t j n) (v.2 j n (lt_of_not-le d) (omega (arith, p.0, index j n l))) (pending-ready t j n p))

  abbrev Rule : ℕ → ℕ → Slot → Type 0
  Rule t j y = (k : ℕ) × (m : ℕ) × (y ≡ job k m) × ((k ≤ j) ⊎ ((u : ℕ) × Holding z u t × (has u ≡ job k m) × ((sys.accesses (z.which u)).ceiling ≤ j)))

  rule : (t j : ℕ) (l : List Entry) → AllGood t l → ((u : ℕ) → holds u l ≡ true → z.on u t ≡ true) → (c q : ℕ) → c ≤ j → Rule t j (choose (job c q) l)
  rule t j [] g o c q d = (c, q, refl, inl d)
  rule t j (x ∷ r) g o c q d = at (ltb c x.ceiling) refl
    where
      at : (b : Bool) → ltb c x.ceiling ≡ b → Rule t j (elim b [ true ↦ job c q | false ↦ job x.task x.index ])
      at true e = (c, q, refl, inl d)
      at false e =
          let v = eq-eqb x.tag x.tag refl in (
            x.task,
            x.index,
            refl,
            inr (
              x.tag,
              record { taken = g.0.took; since = g.0.before; still = o x.tag (rw v refl) },
              g.0.mine,
              omega (arith, ltb-false c x.ceiling e, g.0.roof),
            ),
          )

  on-holds : (t u : ℕ) → holds u (S t).stack ≡ true → z.on u t ≡ true
  on-holds t u e = grind (arith, common_steps)

  highest : (t j n : ℕ) → j < sys.size → Pending h j n t → Rule t j (has t)
  highest t j n l p =
      let v = first-is t j n l p (who w sys.size t (S t)) (task-ok (ready t) (suc t) sys.size) in
      subst (λ (y : Slot). Rule t j (choose y (S t).stack)) (sym v.2) (rule t j (S t).stack (inv t).0 (on-holds t) v.0 v.1 v.3)

  -- whoever holds one while another runs
  over : (t u k m j l : ℕ) (s : List Entry) → AllGood t s → holds u s ≡ true → has u ≡ job k m → Above j s ⊎ OnTop j l s
      → (j < (sys.accesses (z.which u)).ceiling) ⊎ (job j l ≡ job k m)
  over t u k m j l s g e f (inl a) = at (entry-above t u j s e a g)
    where
      at : (x : Entry) × (x.tag ≡ u) × Good t x × (j < x.ceiling) → (j < (sys.accesses (z.which u)).ceiling) ⊎ (job j l ≡ job k m)
      at (x, q, d, b) =
          let v : (sys.accesses (z.which x.tag)).ceiling ≡ (sys.accesses (z.which u)).ceiling = ap (λ (y : ℕ). (sys.accesses (z.which y)).ceiling) q in
          inl (omega (arith, d.roof))
  over t u k m j l [] g e f (inr a) = absurd a
  over t u k m j l (x ∷ r) g e f (inr a) = at (or_cases (eqb x.tag u) (holds u r) e)
    where
      deep : (y : Entry) × (y.tag ≡ u) × Good t y × (j < y.ceiling) → (j < (sys.accesses (z.which u)).ceiling) ⊎ (job j l ≡ job k m)
      deep (y, q, d, b) =
          let v : (sys.accesses (z.which y.tag)).ceiling ≡ (sys.accesses (z.which u)).ceiling = ap (λ (y : ℕ). (sys.accesses (z.which y)).ceiling) q in
          inl (omega (arith, d.roof))

      at : (eqb x.tag u ≡ true) ⊎ (holds u r ≡ true) → (j < (sys.accesses (z.which u)).ceiling) ⊎ (job j l ≡ job k m)
      at (inl q) = inr (ap₂ job (sym a.0) (sym a.1) ∙ sym g.0.mine ∙ ap has (eqb-true x.tag u q) ∙ f)
      at (inr q) = deep (entry-above t u j r q a.2 g.2)

  pending-held : (u t k m : ℕ) → Holding z u t → has u ≡ job k m → Pending h k m t
  pending-held u t k m d f = at (entry t u (S t).stack (held-holds u t d) (inv t).0)
    where
      at : (x : Entry) × (x.tag ≡ u) × Good t x × (done t x.task x.index < x.end) → Pending h k m t
      at (x, q, g, b) =
          let same : job x.task x.index ≡ job k m = sym g.mine ∙ ap has q ∙ f in
          subst₂ (λ (j n : ℕ). Pending h j n t) (same-task same) (same_index same)
          (omega (arith, g.released, g.before), omega (arith, b, g.ends, done-is t x.task x.index))

  -- a job takes none while it holds one
  one_only : (u v t k m : ℕ) → Holding z u v → Holding z v t → has u ≡ job k m → has v ≡ job k m → ⊥
  one_only u v t k m d b f g = at (entry-above v u k (S v).stack (held-holds u v d) a (inv v).0)
    where
      a : Above k (S v).stack
      a = above-clear k m (S v).stack (took-says v k m b.taken g).0 (place_at v k m g)

      at : (x : Entry) × (x.tag ≡ u) × Good v x × (k < x.ceiling) → ⊥
      at (x, q, d, b) = omega (arith, d.high, same-task (sym d.mine ∙ ap has q ∙ f))

  unbroken : (u s t : ℕ) → u ≤ s → s ≤ t → z.on u t ≡ true → z.on u s ≡ true
  unbroken u s t l b e = at (eq-or-lt_of_le l)
    where
      at : (u ≡ s) ⊎ (u < s) → z.on u s ≡ true
      at (inl q) = let v = eq-eqb u s q in rw v refl
      at (inr q) =
          let v = ne_eqb u t (λ y. omega arith) in
          let y : s + (t - s) ≡ t = omega arith in
          on-holds s u (holds-since u s (t - s) q (subst (λ (x : ℕ). holds u (S x).stack ≡ true) (sym y) (rw v at e)))

  taker : (u : ℕ) → z.takes u ≡ true → (z.which u < sys.many) × (m : ℕ) × (has u ≡ job (sys.accesses (z.which u)).task m)
  taker u e = at (has u) refl
    where
      at : (y : Slot) → has u ≡ y → (z.which u < sys.many) × (m : ℕ) × (has u ≡ job (sys.accesses (z.which u)).task m)
      at idle f = absurd (false≢true (subst (λ (y : Slot). takes_now w (S u) y ≡ true) f e))
      at (job k m) f =
          let v = took-says u k m e f in
          let q : (sys.accesses (z.which u)).task ≡ k = ap (λ (x : ℕ). (sys.accesses x).task) v.3 ∙ v.2.task in
          (omega (arith, v.2.known, v.3), m, f ∙ ap (λ (x : ℕ). job x m) (sym q))

  pub jobs-kept : JobsKept sys.tasks sys.size z
  jobs-kept = record { apart = kept.apart; not_before = kept.not_before; not_after = kept.not_after; no_more = kept.no_more }

  pub accesses-kept : AccessesKept sys.accesses sys.many z
  accesses-kept = record {
    whose = taker;
    whole = λ u s t e. unbroken u s t;
    nested = λ u v t k m d b f g. absurd (one_only u v t k m d b f g);
    gives_back = pending-held;
  }

  pub scheduled : Scheduled sys.size sys.accesses z
  scheduled = record {
    only_pending = only;
    in_order = order;
    highest = highest;
    above_only = λ u t k m j l d f g. over t u k m j l (S t).stack (inv t).0 (held-holds u t d) f (place_at t j l g);
  }

  -- an access is on while its job has worked less than where it gives it back
  pub on-limit : (u k m : ℕ) → z.takes u ≡ true → has u ≡ job k m → (t : ℕ) → z.on u t ≡ true → done t k m < w.leaves k m (done u k m)
  on-limit u k m e f t o = at (or_cases (eqb u t) (holds u (S t).stack) o)
    where
      end_is : (x : Entry) × (x.tag ≡ u) × Good t x × (done t x.task x.index < x.end) → done t k m < w.leaves k m (done u k m)
      end_is p = grind (arith, common_steps)

      at : (eqb u t ≡ true) ⊎ (holds u (S t).stack ≡ true) → done t k m < w.leaves k m (done u k m)
      at (inl q) = subst (λ (y : ℕ). done y k m < w.leaves k m (done u k m)) (eqb-true u t q) (took-says u k m e f).2.some
      at (inr q) = end_is (entry t u (S t).stack q (inv t).0)
