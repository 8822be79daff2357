-- A block that a job would have found alone, and does not find, was lost to another: another job has used its cache set since.
use Prim.Native.Nat.{ℕ, zero, suc, ◌+◌, ◌-◌, min, ◌≤◌, ◌<◌}
use native.Mathlib.Nat.{eq-or-lt_of_le, lt_of_not-le}
use native.Mathlib.Decide.{dec_le}
use native.Mathlib.Omega.{arith}
use mathlib.Core.Path.{◌≡◌, refl, ap, sym, subst, ◌∙◌}
use mathlib.Core.Bool.{Bool, true, false, ◌&&◌, not}
use mathlib.Core.Logic.{◌⊎◌, inl, inr}
use lib.Dec.{eqb, leb}
use borrow.Author.Tests.{not-true, le-leb, leb-true}
use Rattle.std.proofs.lemmas.Bool.{and_from, and_parts, both_ways, false≢true}
use Rattle.runs.specs.Sums.{sum, one}
use Rattle.runs.specs.model.Jobs.{job, given, Run}
use Rattle.runs.specs.model.Cache.{present, used_since, own, own_since, reloads, finds_first}
use Rattle.runs.specs.machine.Programs.{Programs, finds_in_program}
use Rattle.runs.proofs.SumLaws.{sum-le, sum-split}
use Rattle.runs.proofs.JobLaws.{given_is, given-self}
use Rattle.runs.proofs.SearchLaws.{one-le}
use Rattle.runs.proofs.LruLaws.{age_in, Last, last-use, not-since, first-most, same-since, is-young, not-young}

-- the first behind `from` and before `end` that has q
first-behind : (q : ℕ → Bool) (from end : ℕ)
    → ((v : ℕ) → from < v → v < end → q v ≡ false) ⊎ ((p : ℕ) × (from < p) × (p < end) × (q p ≡ true) × ((v : ℕ) → from < v → v < p → q v ≡ false))
first-behind q from zero = inl (λ v a b. absurd (omega arith))
first-behind q from (suc r) = go (first-behind q from r) (dec_le r from) (q r) refl
  where
    more : q r ≡ false → ((v : ℕ) → from < v → v < r → q v ≡ false) → (v : ℕ) → from < v → (v ≡ r) ⊎ (v < r) → q v ≡ false
    more e f v a (inl g) = rw g e
    more e f v a (inr g) = f v a g

    go : ((v : ℕ) → from < v → v < r → q v ≡ false) ⊎ ((p : ℕ) × (from < p) × (p < r) × (q p ≡ true) × ((v : ℕ) → from < v → v < p → q v ≡ false))
        → Dec (r ≤ from) → (b : Bool) → q r ≡ b
        → ((v : ℕ) → from < v → v < suc r → q v ≡ false) ⊎ ((p : ℕ) × (from < p) × (p < suc r) × (q p ≡ true) × ((v : ℕ) → from < v → v < p → q v ≡ false))
    go (inr w) d b e = inr (w.0, w.1, omega (arith, w.2), w.3, w.4)
    go (inl f) (yes d) b e = inl (λ v a c. absurd (omega arith))
    go (inl f) (no d) true e = inr (r, lt_of_not-le d, omega arith, e, f)
    go (inl f) (no d) false e = inl (λ v a c. more e f v a (eq-or-lt_of_le (omega arith)))

-- a block of job m of k that is lost to another: the job used it last at `from`, and `by` is the first use of its cache set by another job since
pub record Lost (z : Run) (c t k m : ℕ) : Type 0 where
  pub from : ℕ
  pub by : ℕ
  pub after : from < by
  pub before : by < t
  pub mine : z.has from ≡ job k m
  pub from-uses : z.uses from c ≡ true
  pub by-uses : z.uses by c ≡ true
  pub by-other : given k m (z.has by) ≡ false
  pub first : (v : ℕ) → from < v → v < by → z.uses v c ≡ true → given k m (z.has v) ≡ true

-- the block that is used in tick t is used in none of the ticks `on` behind `from`
abbrev pub Unused : Run → (ℕ → Bool) → ℕ → ℕ → ℕ → Type 0
Unused z on c from t = (v : ℕ) → from < v → v < t → on v ≡ true → eqb (z.block t c) (z.block v c) ≡ false

-- `on` are the ticks from u on in which the job uses the set
pub lost : (W : ℕ) (z : Run) (k m t c : ℕ) (on : ℕ → Bool) (u : ℕ) → ((v : ℕ) → u ≤ v → on v ≡ own z k m c v) → ((v : ℕ) → on v ≡ true → u ≤ v)
    → present W on (λ s. z.block s c) t (z.block t c) ≡ true → present W (λ s. z.uses s c) (λ s. z.block s c) t (z.block t c) ≡ false
    → (w : Lost z c t k m) × (u ≤ w.from) × Unused z on c w.from t
lost W z k m t c on u same late e f = go (last-use W on (λ s. z.block s c) t (z.block t c) young)
  where
    young : age_in W on (λ s. z.block s c) t (z.block t c) < W
    young = is-young W on (λ s. z.block s c) t (z.block t c) e

    go : Last W on (λ s. z.block s c) t (z.block t c) → (w : Lost z c t k m) × (u ≤ w.from) × Unused z on c w.from t
    go (p, early, at, it, since) = pick (first-behind (λ v. z.uses v c && not (given k m (z.has v))) p t)
      where
        uses : (z.uses p c ≡ true) × (given k m (z.has p) ≡ true)
        uses = and_parts (z.uses p c) (given k m (z.has p)) (sym (same p (late p at)) ∙ at)

        alike : (a b : Bool) → (a && not b) ≡ false → a ≡ (a && b)
        alike true true g = refl
        alike true false g = absurd (both_ways true g refl)
        alike false b g = refl

        mine-then : (a b : Bool) → (a && not b) ≡ false → a ≡ true → b ≡ true
        mine-then true true g h = refl
        mine-then true false g h = absurd (both_ways true g refl)
        mine-then false b g h = absurd (false≢true h)

        pick : ((v : ℕ) → p < v → v < t → (z.uses v c && not (given k m (z.has v))) ≡ false)
            ⊎ ((b : ℕ) × (p < b) × (b < t) × ((z.uses b c && not (given k m (z.has b))) ≡ true) × ((v : ℕ) → p < v → v < b → (z.uses v c && not (given k m (z.has v))) ≡ false))
            → (w : Lost z c t k m) × (u ≤ w.from) × Unused z on c w.from t
        pick (inl none) =
            let g : suc p + (t - suc p) ≡ t = omega arith in
            let w = same-since W (λ s. z.uses s c) on (λ s. z.block s c) p (z.block t c) uses.0 at it (t - suc p)
            (λ v a b. alike (z.uses v c) (given k m (z.has v)) (none v a (omega arith)) ∙ sym (same v (omega (arith, late p at)))) (λ v a b. since v a (omega arith))
            (subst (λ (y : ℕ). age_in W on (λ s. z.block s c) y (z.block t c) < W) (sym g) young) in
            let l = subst (λ (y : ℕ). age_in W (λ s. z.uses s c) (λ s. z.block s c) y (z.block t c) ≡ age_in W on (λ s. z.block s c) y (z.block t c)) g w.0 in
            absurd (omega (arith, young, not-young W (λ s. z.uses s c) (λ s. z.block s c) t (z.block t c) f))
        pick (inr (b, a, d, g, h)) =
            let w = and_parts (z.uses b c) (not (given k m (z.has b))) g in (
              record {
                from = p;
                by = b;
                after = a;
                before = d;
                mine = given_is k m (z.has p) uses.1;
                from-uses = uses.0;
                by-uses = w.0;
                by-other = not-true (given k m (z.has b)) w.1;
                first = λ v x y. mine-then (z.uses v c) (given k m (z.has v)) (h v x y);
              },
              late p at,
              since,
            )

-- ---- what a reload says, of a job, and of a job in an access

-- the job uses, in tick t, a block that it finds_alone alone (with what is used in the ticks `on`), and has used last at `from`
pub record Finds (W : ℕ) (z : Run) (on : ℕ → Bool) (c from t : ℕ) : Type 0 where
  pub uses : z.uses t c ≡ true
  pub there : present W on (λ s. z.block s c) t (z.block t c) ≡ true
  pub unused : Unused z on c from t

reload-on : (W : ℕ) (z : Run) (j n t c : ℕ) (on : ℕ → Bool) (u : ℕ) → ((v : ℕ) → u ≤ v → on v ≡ own z j n c v) → ((v : ℕ) → on v ≡ true → u ≤ v)
    → (given j n (z.has t) && ((z.uses t c && present W on (λ s. z.block s c) t (z.block t c)) && not (present W (λ s. z.uses s c) (λ s. z.block s c) t (z.block t c)))) ≡ true
    → (z.has t ≡ job j n) × ((w : Lost z c t j n) × (u ≤ w.from) × Finds W z on c w.from t)
reload-on W z j n t c on u same late e =
    let p = and_parts (given j n (z.has t)) _ e in
    let q = and_parts (z.uses t c && present W on (λ s. z.block s c) t (z.block t c)) _ p.1 in
    let r = and_parts (z.uses t c) _ q.0 in
    let w = lost W z j n t c on u same late r.1 (not-true (present W (λ s. z.uses s c) (λ s. z.block s c) t (z.block t c)) q.1) in
    (given_is j n (z.has t) p.0, (w.0, w.1, record { uses = r.0; there = r.1; unused = w.2 }))

pub reload-ways : (W : ℕ) (z : Run) (j n t c : ℕ) → reloads W z (own z j n c) j n c t ≡ true
    → (z.has t ≡ job j n) × ((w : Lost z c t j n) × (0 ≤ w.from) × Finds W z (own z j n c) c w.from t)
reload-ways W z j n t c e = reload-on W z j n t c (own z j n c) 0 (λ v l. refl) (λ v l. omega arith) e

pub reload-since : (W : ℕ) (z : Run) (u j n t c : ℕ) → reloads W z (own_since z u j n c) j n c t ≡ true
    → (z.has t ≡ job j n) × ((w : Lost z c t j n) × (u ≤ w.from) × Finds W z (own_since z u j n c) c w.from t)
reload-since W z u j n t c e =
    reload-on W z j n t c (own_since z u j n c) u (λ v l. let q = le-leb u v l in rw q refl) (λ v f. leb-true u v (and_parts (leb u v) (own z j n c v) f).0) e

-- ---- at most W blocks, and at most those that are useful, are found the first time since T

pub first-on-most : (W : ℕ) (z : Run) (k m c T a x : ℕ) (on : ℕ → Bool) → ((t : ℕ) → a ≤ t → on t ≡ own z k m c t)
    → sum (λ s. one (finds_first W z on k m T c (a + s))) x ≤ W
first-on-most W z k m c T a x on same =
    omega (
      arith,
      sum-le (λ s. one (finds_first W z on k m T c (a + s))) (λ s. one (leb a (a + s) && finds_first W z on k m T c (a + s))) x
          (λ s l. one-le (finds_first W z on k m T c (a + s)) (leb a (a + s) && finds_first W z on k m T c (a + s)) (λ e. and_from _ _ (le-leb a (a + s) (omega arith)) e)),
      sum-split (λ t. one (leb a t && finds_first W z on k m T c t)) a x,
      first-most W on (λ s. z.block s c) T (λ t. leb a t && finds_first W z on k m T c t) (a + x) (λ t l. says t),
    )
  where
    says : (t : ℕ) → (leb a t && finds_first W z on k m T c t) ≡ true
        → (T ≤ t) × (on t ≡ true) × (age_in W on (λ s. z.block s c) t (z.block t c) < W) × (used_since on (λ s. z.block s c) T t (z.block t c) ≡ false)
    says t e =
        let o = and_parts (leb a t) _ e in
        let p = and_parts (given k m (z.has t)) _ o.1 in
        let q = and_parts (z.uses t c && present W on (λ s. z.block s c) t (z.block t c)) _ p.1 in
        let r = and_parts (z.uses t c) _ q.0 in
        let u = and_parts (leb T t) _ q.1 in (
          leb-true T t u.0,
          same t (leb-true a t o.0) ∙ and_from _ _ r.0 p.0,
          is-young W on (λ s. z.block s c) t (z.block t c) r.1,
          not-true (used_since on (λ s. z.block s c) T t (z.block t c)) u.1,
        )

pub few_on : (W : ℕ) (z : Run) (k m c T a x N : ℕ) (on ok : ℕ → Bool) → ((t : ℕ) → a ≤ t → on t ≡ own z k m c t)
    → sum (λ s. one (ok s && finds_first W z on k m T c (a + s))) x ≤ N
    → (ch : ℕ → Bool)
    → ((s : ℕ) → s < x → ch s ≡ true → (ok s ≡ true) × (T ≤ a + s) × (z.has (a + s) ≡ job k m) × ((from : ℕ) × (from < T) × Finds W z on c from (a + s)))
    → sum (λ s. one (ch s)) x ≤ min W N
few_on W z k m c T a x N on ok same most ch facts =
    omega (
      arith,
      most,
      sum-le (λ s. one (ch s)) (λ s. one (ok s && finds_first W z on k m T c (a + s))) x
          (λ s l. one-le (ch s) (ok s && finds_first W z on k m T c (a + s)) (λ e. and_from _ _ (facts s l e).0 (at s l e))),
      sum-le (λ s. one (ch s)) (λ s. one (finds_first W z on k m T c (a + s))) x (λ s l. one-le (ch s) (finds_first W z on k m T c (a + s)) (at s l)),
      first-on-most W z k m c T a x on same,
    )
  where
    at : (s : ℕ) → s < x → ch s ≡ true → finds_first W z on k m T c (a + s) ≡ true
    at s l e =
        let f = facts s l e in
        let w = f.3.2 in
        let g = not-since W on (λ s. z.block s c) T (a + s) (z.block (a + s) c) (λ v y b o. w.unused v (omega (arith, f.3.1)) b o) in
        and_from _ _ (given-self k m (z.has (a + s)) f.2)
        (and_from _ _ (and_from _ _ w.uses w.there) (and_from _ _ (le-leb T (a + s) f.1) (ap not g)))

-- a block that a job would have found alone, but not alone from u on, was not used by it since u
pub unused-since : (W : ℕ) (z : Run) (u k m t c : ℕ) → present W (own z k m c) (λ s. z.block s c) t (z.block t c) ≡ true
    → present W (own_since z u k m c) (λ s. z.block s c) t (z.block t c) ≡ false → used_since (own z k m c) (λ s. z.block s c) u t (z.block t c) ≡ false
unused-since W z u k m t c e f = go (last-use W (own z k m c) (λ s. z.block s c) t (z.block t c) young)
  where
    young : age_in W (own z k m c) (λ s. z.block s c) t (z.block t c) < W
    young = is-young W (own z k m c) (λ s. z.block s c) t (z.block t c) e

    from-u : (v : ℕ) → u ≤ v → own_since z u k m c v ≡ own z k m c v
    from-u v l = let q = le-leb u v l in rw q refl

    go : Last W (own z k m c) (λ s. z.block s c) t (z.block t c) → used_since (own z k m c) (λ s. z.block s c) u t (z.block t c) ≡ false
    go (p, early, at, it, since) = which (dec_le u p)
      where
        which : Dec (u ≤ p) → used_since (own z k m c) (λ s. z.block s c) u t (z.block t c) ≡ false
        which (no l) = not-since W (own z k m c) (λ s. z.block s c) u t (z.block t c) (λ v a b. since v (omega (arith, lt_of_not-le l)) b)
        which (yes l) =
            let g : suc p + (t - suc p) ≡ t = omega arith in
            let w = same-since W (own_since z u k m c) (own z k m c) (λ s. z.block s c) p (z.block t c) (from-u p l ∙ at) at it (t - suc p)
            (λ v a b. from-u v (omega arith)) (λ v a b. since v a (omega arith))
            (subst (λ (y : ℕ). age_in W (own z k m c) (λ s. z.block s c) y (z.block t c) < W) (sym g) young) in
            let l = subst (λ (y : ℕ). age_in W (own_since z u k m c) (λ s. z.block s c) y (z.block t c) ≡ age_in W (own z k m c) (λ s. z.block s c) y (z.block t c)) g w.0 in
            absurd (omega (arith, young, not-young W (own_since z u k m c) (λ s. z.block s c) t (z.block t c) f))

-- a program by itself has at most W useful blocks in a cache set
pub program-most : (W : ℕ) (w : Programs) (on : ℕ → Bool) (j n P c p : ℕ) → ((q : ℕ) → w.program j n q c ≡ true → on q ≡ true)
    → sum (λ q. one (finds_in_program W w on j n P c q)) p ≤ W
program-most W w on j n P c p same = first-most W on (λ q. w.blocks j n q c) P (λ q. finds_in_program W w on j n P c q) p (λ q l e. says q e)
  where
    says : (q : ℕ) → finds_in_program W w on j n P c q ≡ true
        → (P ≤ q) × (on q ≡ true) × (age_in W on (λ v. w.blocks j n v c) q (w.blocks j n q c) < W) × (used_since on (λ v. w.blocks j n v c) P q (w.blocks j n q c) ≡ false)
    says q e =
        let p = and_parts (w.program j n q c) _ e in
        let r = and_parts (present W on (λ v. w.blocks j n v c) q (w.blocks j n q c)) _ p.1 in
        let u = and_parts (leb P q) _ r.1 in (
          leb-true P q u.0,
          same q p.0,
          is-young W on (λ v. w.blocks j n v c) q (w.blocks j n q c) r.0,
          not-true (used_since on (λ v. w.blocks j n v c) P q (w.blocks j n q c)) u.1,
        )
