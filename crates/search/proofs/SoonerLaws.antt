-- Facts about the order of answers and the sooner of two.
use Rattle.std.proofs.Common.{arith, ◌≡◌, refl}
use Rattle.search.specs.declared.demand.Response.{Response}
use Rattle.search.specs.declared.demand.Response.TheVariants.{Within, Unschedulable}
use Rattle.search.specs.Least.{NoLater, sooner}

pub no-later-trans : (a b c : Response) → NoLater a b → NoLater b c → NoLater a c
unfolding NoLater
no-later-trans (Within x) (Within y) (Within z) p q = omega arith
no-later-trans (Within x) b Unschedulable p q = tt
no-later-trans (Within x) Unschedulable (Within z) p q = absurd q
no-later-trans Unschedulable (Within y) c p q = absurd p
no-later-trans Unschedulable Unschedulable c p q = q

-- no answer is later than none
pub none-latest : (a b : Response) → NoLater a b → Unschedulable ≡ a → Unschedulable ≡ b
unfolding NoLater
none-latest (Within x) (Within y) p e = cc
none-latest (Within x) Unschedulable p e = refl
none-latest Unschedulable (Within y) p e = absurd p
none-latest Unschedulable Unschedulable p e = refl

-- the sooner of two answers is no later than each
sooner-left : (a b : Response) → NoLater (sooner a b) a
unfolding NoLater
sooner-left (Within x) (Within y) = omega arith
sooner-left (Within x) Unschedulable = omega arith
sooner-left Unschedulable (Within y) = tt
sooner-left Unschedulable Unschedulable = tt

sooner-right : (a b : Response) → NoLater (sooner a b) b
unfolding NoLater
sooner-right (Within x) (Within y) = omega arith
sooner-right (Within x) Unschedulable = tt
sooner-right Unschedulable (Within y) = omega arith
sooner-right Unschedulable Unschedulable = tt

-- and no sooner than what is no later than both
sooner-both : (a b c : Response) → NoLater c a → NoLater c b → NoLater c (sooner a b)
unfolding NoLater
sooner-both (Within x) (Within y) (Within z) p q = omega arith
sooner-both (Within x) (Within y) Unschedulable p q = p
sooner-both (Within x) Unschedulable c p q = p
sooner-both Unschedulable b c p q = q

pub sooner-mono : (a b c d : Response) → NoLater a c → NoLater b d → NoLater (sooner a b) (sooner c d)
sooner-mono a b c d p q =
    sooner-both c d (sooner a b) (no-later-trans _ a c (sooner-left a b) p) (no-later-trans _ b d (sooner-right a b) q)
