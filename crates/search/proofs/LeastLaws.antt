-- Facts about least solutions, proved once for every demand f.
use Rattle.std.proofs.Common.{ℕ, zero, suc, ◌+◌, ◌≤◌, ◌<◌, le_antisymm, lt_of_not-le, eq-or-lt_of_le, arith, ◌≡◌, refl, ap, sym, subst, Bool, true, false, ◌⊎◌, inl, inr, eqb, eqb-true}
use Rattle.std.proofs.Math.Decide.{dec_le}
use Rattle.std.proofs.lemmas.Bool.{eqb-false}
use Rattle.cache.specs.declared.units.Ticks.{Ticks}
use Rattle.search.specs.declared.demand.Response.{Response}
use Rattle.search.specs.declared.demand.Response.TheVariants.{Within, Unschedulable}
use Rattle.search.specs.Least.{first_of, least_of, end_of, LeastWithin, AnswerInRange, Reached, NoLater}

abbrev pub Monotone : (ℕ → ℕ) → Type 0
Monotone f = (a b : ℕ) → a ≤ b → f a ≤ f b

-- no solution lies below r
abbrev pub Below : (ℕ → ℕ) → ℕ → Type 0
Below f r = (s : ℕ) → s ≡ f s → r ≤ s

-- two answers that are the least within one limit are the same
pub least-unique : (f : ℕ → ℕ) (limit : ℕ) (a b : Response) → LeastWithin f limit a → LeastWithin f limit b → a ≡ b
unfolding LeastWithin
least-unique f limit (Within x) (Within y) p q =
    ap (λ (n : ℕ). Within (record { 0 = n })) (le_antisymm (p.2 y.0 q.1) (q.2 x.0 p.1))
least-unique f limit (Within x) Unschedulable p q = absurd (q x.0 p.1 p.0)
least-unique f limit Unschedulable (Within y) p q = absurd (p y.0 q.1 q.0)
least-unique f limit Unschedulable Unschedulable p q = refl

-- the walk from s finds the least, where no number below s is a solution
first-least : (f : ℕ → ℕ) (limit s k : ℕ) → s + k ≡ suc limit → Below f s → LeastWithin f limit (first_of f s k)
unfolding LeastWithin first_of
first-least f limit s zero e below = λ x p h. omega (arith, below x p)
first-least f limit s (suc k) e below = go (eqb s (f s)) refl (first-least f limit (suc s) k (omega arith))
  where
    later : eqb s (f s) ≡ false → (x : ℕ) → x ≡ f x → (s ≡ x) ⊎ (s < x) → s < x
    later q x p (inl e) = absurd (eqb-false s (f s) q (cc))
    later q x p (inr h) = h

    go : (t : Bool) → eqb s (f s) ≡ t → (Below f (suc s) → LeastWithin f limit (first_of f (suc s) k))
        → LeastWithin f limit (elim t [ true ↦ Within (record { 0 = s }) | false ↦ first_of f (suc s) k ])
    go true q rest = (omega arith, eqb-true s (f s) q, below)
    go false q rest = rest (λ x p. later q x p (eq-or-lt_of_le (below x p)))

pub least_of-least : (f : ℕ → ℕ) (limit : ℕ) → LeastWithin f limit (least_of f limit)
unfolding least_of
least_of-least f limit = first-least f limit 0 (suc limit) (omega arith) (λ x p. omega arith)

-- the function and the relation are one
pub least-is : (f : ℕ → ℕ) (limit : ℕ) (a : Response) → LeastWithin f limit a → a ≡ least_of f limit
least-is f limit a p = least-unique f limit a (least_of f limit) p (least_of-least f limit)

pub least-in-range : (f : ℕ → ℕ) (limit : ℕ) → limit ≤ 250000000 → AnswerInRange (least_of f limit)
unfolding LeastWithin
least-in-range f limit h = go (least_of f limit) (least_of-least f limit)
  where
    go : (a : Response) → LeastWithin f limit a → AnswerInRange a
    go (Within R) p = omega (arith, p.0)
    go Unschedulable p = tt

-- an answer is a time that no solution is below
pub answer-reached : (f : ℕ → ℕ) (limit : ℕ) (R : Ticks) → Within R ≡ least_of f limit → (R.0 ≤ limit) × Reached f R.0 × (R.0 ≡ f R.0)
unfolding LeastWithin
answer-reached f limit R e =
    let p = subst (LeastWithin f limit) (sym e) (least_of-least f limit) in
    (p.0, record { below = p.2; rises = omega (arith, p.1) }, p.1)

-- a demand that no number equals
pub no-solution : (f : ℕ → ℕ) (limit : ℕ) → ((s : ℕ) → s ≡ f s → ⊥) → Unschedulable ≡ least_of f limit
unfolding LeastWithin
no-solution f limit p = least-is f limit Unschedulable (λ s e l. p s e)

-- the iteration ends at a solution, or past the limit
module _ (f : ℕ → ℕ) (limit r : ℕ) (at : Reached f r) where
  pub found : r ≤ limit → r ≡ f r → Within (record { 0 = r }) ≡ least_of f limit
  unfolding LeastWithin
  found h e = least-is f limit (Within (record { 0 = r })) (h, e, at.below)

  pub past : limit < r → Unschedulable ≡ least_of f limit
  unfolding LeastWithin
  past h = least-is f limit Unschedulable (λ s e l. omega (arith, at.below s e))

module _ (f : ℕ → ℕ) (mono : Monotone f) where
  -- one turn of the iteration
  pub climb : (r : ℕ) → Reached f r → Reached f (f r)
  climb r at = record { below = λ s e. omega (arith, mono r s (at.below s e)); rises = mono r (f r) at.rises }

  -- below each number that covers its demand lies a solution
  settle : (n r : ℕ) → r ≤ n → f r ≤ r → (s : ℕ) × (s ≤ r) × (s ≡ f s)
  settle zero r h p = (r, omega arith, omega arith)
  settle (suc n) r h p = go (eq-or-lt_of_le p) (settle n (f r))
    where
      go : (f r ≡ r) ⊎ (f r < r) → (f r ≤ n → f (f r) ≤ f r → (s : ℕ) × (s ≤ f r) × (s ≡ f s)) → (s : ℕ) × (s ≤ r) × (s ≡ f s)
      go (inl e) rest = (r, omega arith, sym e)
      go (inr d) rest = let w = rest (omega arith) (mono (f r) r p) in (w.0, omega arith, w.2)

  pub solution-under : (r : ℕ) → f r ≤ r → (s : ℕ) × (s ≤ r) × (s ≡ f s)
  solution-under r = settle r r (omega arith)

  -- a time that no solution is below needs nothing else to go on from
  pub reached-below : (r : ℕ) → Below f r → Reached f r
  reached-below r p = record { below = p; rises = elim (dec_le r (f r)) [ yes l ↦ l | no l ↦ at (lt_of_not-le l) ] }
    where
      at : f r < r → r ≤ f r
      at l =
          let w = solution-under r (omega arith) in
          let e : w.0 ≡ r = le_antisymm w.1 (p w.0 w.2) in omega (arith, ap f e)

  -- no solution is below the end of a search
  pub end-reached : (limit : ℕ) (a : Response) → a ≡ least_of f limit → (end_of a limit ≤ limit) × Reached f (end_of a limit)
  unfolding LeastWithin
  end-reached limit (Within R) e = let p = answer-reached f limit R e in (p.0, p.1)
  end-reached limit Unschedulable e =
      let p = subst (LeastWithin f limit) (sym e) (least_of-least f limit) in
      (omega arith, reached-below limit (λ s q. elim (dec_le s limit) [ yes l ↦ absurd (p s q l) | no l ↦ (let m = lt_of_not-le l in omega arith) ]))

  -- the least solution is the least number that covers its demand
  pub least-covers : (limit : ℕ) (R : Ticks) → LeastWithin f limit (Within R) → (r : ℕ) → f r ≤ r → R.0 ≤ r
  unfolding LeastWithin
  least-covers limit R p r h = let w = solution-under r h in omega (arith, p.2 w.0 w.2)

  -- where some number within the limit covers its demand there is an answer, and it is no larger
  pub answer-under : (limit r : ℕ) → r ≤ limit → f r ≤ r → (R : Ticks) × (least_of f limit ≡ Within R) × (R.0 ≤ r)
  unfolding LeastWithin
  answer-under limit r h p = go (least_of f limit) refl (least_of-least f limit)
    where
      go : (a : Response) → least_of f limit ≡ a → LeastWithin f limit a → (R : Ticks) × (least_of f limit ≡ Within R) × (R.0 ≤ r)
      go (Within R) e q = (R, e, least-covers limit R q r p)
      go Unschedulable e q = let w = solution-under r p in absurd (q w.0 w.2 (omega arith))

  -- a larger demand within a smaller limit answers no sooner
  pub least-no-later : (g : ℕ → ℕ) → ((x : ℕ) → f x ≤ g x) → (l m : ℕ) → m ≤ l
      → (a b : Response) → LeastWithin f l a → LeastWithin g m b → NoLater a b
  unfolding LeastWithin NoLater
  least-no-later g more l m h (Within x) (Within y) p q =
      least-covers l x p y.0 (omega (arith, more y.0))
  least-no-later g more l m h (Within x) Unschedulable p q = tt
  least-no-later g more l m h Unschedulable (Within y) p q =
      let w = solution-under y.0 (omega (arith, more y.0)) in p w.0 w.2 (omega arith)
  least-no-later g more l m h Unschedulable Unschedulable p q = tt

  pub least_of-no-later : (g : ℕ → ℕ) → ((x : ℕ) → f x ≤ g x) → (l m : ℕ) → m ≤ l → NoLater (least_of f l) (least_of g m)
  least_of-no-later g more l m h =
      least-no-later g more l m h (least_of f l) (least_of g m) (least_of-least f l) (least_of-least g m)
