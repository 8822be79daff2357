-- Facts about the later of two answers, and the latest of some.
use Rattle.std.proofs.Common.{ℕ, zero, suc, max, ◌≤◌, ◌<◌, arith, ◌≡◌, refl, ap, sym, subst, ◌∙◌, List, [], ◌∷◌, ◌++◌, length, get_or, fold}
use Rattle.std.proofs.Math.Decide.{dec_le}
use Rattle.std.proofs.lemmas.List.Sums.{fold-append}
use Rattle.search.specs.declared.demand.Response.{Response}
use Rattle.search.specs.declared.demand.Response.TheVariants.{Within, Unschedulable}
use Rattle.search.specs.Least.{least_of, NoLater, later, latest_of, IsLatest}
use Rattle.search.proofs.SoonerLaws.{no-later-trans}
use Rattle.cache.specs.declared.units.Ticks.{Ticks}
use Rattle.search.proofs.LeastLaws.{Monotone, answer-under}

pub later-assoc : (a b c : Response) → later (later a b) c ≡ later a (later b c)
later-assoc (Within x) (Within y) (Within z) = ap (λ (n : ℕ). Within (record { 0 = n })) (omega arith)
later-assoc (Within x) (Within y) Unschedulable = refl
later-assoc (Within x) Unschedulable c = refl
later-assoc Unschedulable b c = refl

to_none : (a : Response) → NoLater a Unschedulable
unfolding NoLater
to_none (Within x) = tt
to_none Unschedulable = tt

pub later-mono : (a b c d : Response) → NoLater a c → NoLater b d → NoLater (later a b) (later c d)
unfolding NoLater
later-mono (Within x) (Within y) (Within z) (Within w) p q = omega arith
later-mono a b (Within z) Unschedulable p q = to_none (later a b)
later-mono a b Unschedulable d p q = to_none (later a b)
later-mono (Within x) Unschedulable (Within z) (Within w) p q = absurd q
later-mono Unschedulable b (Within z) (Within w) p q = absurd p

-- ---- of some answers

-- no answer is sooner than 0
pub later_first : (b : Response) → later (Within (record { 0 = 0 })) b ≡ b
later_first (Within y) = ap (λ (n : ℕ). Within (record { 0 = n })) (omega arith)
later_first Unschedulable = refl

-- which of two comes first does not matter, nor that one comes again
pub later_swap : (a b : Response) → later a b ≡ later b a
later_swap (Within x) (Within y) = ap (λ (n : ℕ). Within (record { 0 = n })) (omega arith)
later_swap (Within x) Unschedulable = refl
later_swap Unschedulable (Within y) = refl
later_swap Unschedulable Unschedulable = refl

later_self : (a : Response) → later a a ≡ a
later_self (Within x) = ap (λ (n : ℕ). Within (record { 0 = n })) (omega arith)
later_self Unschedulable = refl

pub later_again : (a b : Response) → later a (later b a) ≡ later a b
later_again a b =
    ap (later a) (later_swap b a) ∙ sym (later-assoc a a b) ∙ ap (λ (x : Response). later x b) (later_self a)

pub later_last : (a : Response) → later a (Within (record { 0 = 0 })) ≡ a
later_last a = later_swap a (Within (record { 0 = 0 })) ∙ later_first a

-- where a time covers its demand the least solution is no later
pub later-covered : (f : ℕ → ℕ) → Monotone f → (limit : ℕ) (known : Ticks) → known.0 ≤ limit → f known.0 ≤ known.0
    → later (Within known) (Within known) ≡ later (Within known) (least_of f limit)
later-covered f mono limit known h l =
    let w = answer-under f mono limit known.0 h l in
    rw w.1 (ap (λ (n : ℕ). Within (record { 0 = n })) (omega (arith, w.2)))

pub latest-one : (r : Response) → latest_of (r ∷ []) ≡ r
latest-one r = later_first r

-- one more at the end, and in front
pub latest-next : (rs : List Response) (r : Response) → latest_of (rs ++ (r ∷ [])) ≡ later (latest_of rs) r
latest-next rs r = fold-append later (Within (record { 0 = 0 })) rs (r ∷ [])

later-fold : (a b : Response) (rs : List Response) → fold later (later a b) rs ≡ later a (fold later b rs)
later-fold a b [] = refl
later-fold a b (r ∷ rs) = ap (λ (x : Response). fold later x rs) (later-assoc a b r) ∙ later-fold a (later b r) rs

pub latest-front : (r : Response) (rs : List Response) → latest_of (r ∷ rs) ≡ later r (latest_of rs)
latest-front r rs =
    ap (λ (x : Response). fold later x rs) (later_first r ∙ sym (later_last r)) ∙ later-fold r (Within (record { 0 = 0 })) rs

-- ---- what the latest means

no-later-self : (a : Response) → NoLater a a
unfolding NoLater
no-later-self (Within x) = omega arith
no-later-self Unschedulable = tt

-- the later of two is one of them, and the other is no later
later-cases : (P : Response → Type 0) (a b : Response) → (NoLater b a → P a) → (NoLater a b → P b) → P (later a b)
unfolding NoLater
later-cases P (Within x) (Within y) first second =
    elim (dec_le x.0 y.0) [
      | yes l ↦ subst (λ (n : ℕ). P (Within (record { 0 = n }))) (larger y.0 x.0 l ∙ omega arith) (second l)
      | no l ↦ subst (λ (n : ℕ). P (Within (record { 0 = n }))) (larger x.0 y.0 (omega arith)) (first (omega arith))
    ]
  where
    larger : (a b : ℕ) → b ≤ a → a ≡ max a b
    larger a b l = omega arith
later-cases P (Within x) Unschedulable first second = second tt
later-cases P Unschedulable b first second = first (to_none b)

-- one answer more in front
latest-more : (r s : Response) (rs : List Response) (l : Response) → IsLatest (s ∷ rs) l → IsLatest (r ∷ s ∷ rs) (later r l)
latest-more r s rs l rest = later-cases (IsLatest (r ∷ s ∷ rs)) r l first second
  where
    first : NoLater l r → IsLatest (r ∷ s ∷ rs) r
    first h = record { each = each; one = (0, omega arith, refl) }
      where
        each : (n : ℕ) → n < length (r ∷ s ∷ rs) → NoLater (get_or (r ∷ s ∷ rs) n Unschedulable) r
        each zero b = no-later-self r
        each (suc n) b = no-later-trans _ l r (rest.each n (omega arith)) h

    second : NoLater r l → IsLatest (r ∷ s ∷ rs) l
    second h = record { each = each; one = let w = rest.one in (suc w.0, omega arith, w.2) }
      where
        each : (n : ℕ) → n < length (r ∷ s ∷ rs) → NoLater (get_or (r ∷ s ∷ rs) n Unschedulable) l
        each zero b = h
        each (suc n) b = rest.each n (omega arith)

-- of one answer or more it is the latest
pub latest-is : (r : Response) (rs : List Response) → IsLatest (r ∷ rs) (latest_of (r ∷ rs))
latest-is r [] = rw (latest-one r) (record { each = only; one = (0, omega arith, refl) })
  where
    only : (n : ℕ) → n < 1 → NoLater (get_or (r ∷ []) n Unschedulable) r
    only zero h = no-later-self r
    only (suc n) h = absurd (omega arith)
latest-is r (s ∷ rs) = rw (latest-front r (s ∷ rs)) (latest-more r s rs (latest_of (s ∷ rs)) (latest-is s rs))
