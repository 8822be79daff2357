-- Euclid's rule finds the greatest common divisor, and with it the least common multiple is found.
use Prim.Native.Nat.{ℕ, zero, suc, ◌+◌, ◌*◌, ◌/◌, ◌%◌, ◌≤◌, ◌∣◌}
use native.Mathlib.Nat.{
  mod-lt,
  div-add-mod,
  mul_comm,
  one-mul,
  div-mul_cancel,
  dvd_refl,
  dvd-zero,
  dvd-mul_left,
  dvd-mul_right,
  div-le_self,
  mul-le-mul,
  one-le-mul,
  dvd-mod_iff,
  dvd-add_iff_right,
  dvd-mul_right_of_dvd,
  mul-dvd-mul_left,
  mul-dvd-mul_right,
  dvd_of_mul-dvd-mul_right,
  pos_of_dvd_of_pos,
}
use native.Mathlib.Omega.{arith}
use mathlib.Core.Path.{◌≡◌, refl, ap, subst}
use Rattle.edf.specs.Multiples.{gcd_in, gcd_of, lcm_of, GreatestDivisor, LeastMultiple}

-- as many steps as the second number are enough
gcd-budget : (k l a b : ℕ) → b ≤ k → b ≤ l → gcd_in k a b ≡ gcd_in l a b
unfolding gcd_in
gcd-budget zero zero a b h p = refl
gcd-budget zero (suc l) a zero h p = refl
gcd-budget zero (suc l) a (suc b) h p = absurd (omega arith)
gcd-budget (suc k) zero a zero h p = refl
gcd-budget (suc k) zero a (suc b) h p = absurd (omega arith)
gcd-budget (suc k) (suc l) a zero h p = refl
gcd-budget (suc k) (suc l) a (suc b) h p =
    gcd-budget k l (suc b) (a % suc b) (omega (arith, mod-lt a {m = suc b} (omega arith))) (omega (arith, mod-lt a {m = suc b} (omega arith)))

pub gcd-stop : (a : ℕ) → gcd_of a 0 ≡ a
unfolding gcd_of gcd_in
gcd-stop a = refl

pub gcd-step : (a b : ℕ) → 1 ≤ b → gcd_of b (a % b) ≡ gcd_of a b
unfolding gcd_of gcd_in
gcd-step a zero h = absurd (omega arith)
gcd-step a (suc b) h =
    gcd-budget (a % suc b) b (suc b) (a % suc b) (omega arith) (omega (arith, mod-lt a {m = suc b} (omega arith)))

gcd-divides : (k a b : ℕ) → b ≤ k → (gcd_in k a b ∣ a) × (gcd_in k a b ∣ b)
unfolding gcd_in
gcd-divides zero a zero h = (dvd_refl a, dvd-zero a)
gcd-divides zero a (suc b) h = absurd (omega arith)
gcd-divides (suc k) a zero h = (dvd_refl a, dvd-zero a)
gcd-divides (suc k) a (suc b) h =
    let p = gcd-divides k (suc b) (a % suc b) (omega (arith, mod-lt a {m = suc b} (omega arith))) in
    ((dvd-mod_iff _ p.0).0 p.1, p.0)

-- what divides m times both divides m times their greatest common divisor
gcd-scaled : (k a b d m : ℕ) → b ≤ k → d ∣ m * a → d ∣ m * b → d ∣ m * gcd_in k a b
unfolding gcd_in
gcd-scaled zero a b d m h p q = p
gcd-scaled (suc k) a zero d m h p q = p
gcd-scaled (suc k) a (suc b) d m h p q =
    let e : m * a ≡ m * suc b * (a / suc b) + m * (a % suc b) = omega (arith, ap (λ (x : ℕ). m * x) (div-add-mod a (suc b))) in
    gcd-scaled k (suc b) (a % suc b) d m (omega (arith, mod-lt a {m = suc b} (omega arith))) q
    ((dvd-add_iff_right d (dvd-mul_right_of_dvd d q (a / suc b))).1 (rw e at p))

pub gcd-greatest : (a b : ℕ) → GreatestDivisor a b (gcd_of a b)
unfolding gcd_of
gcd-greatest a b = record {
  left = (gcd-divides b a b (omega arith)).0;
  right = (gcd-divides b a b (omega arith)).1;
  most = λ d p q. rw one-mul at (gcd-scaled b a b d 1 (omega arith) (rw one-mul p) (rw one-mul q));
}

pub gcd-pos : (a b : ℕ) → 1 ≤ a → 1 ≤ gcd_of a b
gcd-pos a b h = pos_of_dvd_of_pos (gcd-greatest a b).left h

-- with a = x·g and b = y·g
exchange : (x y g a b : ℕ) → x * g ≡ a → y * g ≡ b → (x * b ≡ y * a) × (a * b ≡ x * b * g)
exchange x y g a b p q = (omega (arith, ap (λ (z : ℕ). x * z) q, ap (λ (z : ℕ). y * z) p), omega (arith, ap (λ (z : ℕ). z * b) p))

-- a · b divides n · a and n · b
product-divides : (a b n : ℕ) → a ∣ n → b ∣ n → a * b ∣ n * gcd_of a b
unfolding gcd_of
product-divides a b n p q =
    gcd-scaled b a b (a * b) n (omega arith) (rw (mul_comm n a) (mul-dvd-mul_left b a q)) (mul-dvd-mul_right a p b)

pub lcm-least : (a b : ℕ) → 1 ≤ a → LeastMultiple a b (lcm_of a b)
unfolding lcm_of
lcm-least a b h =
    let g = gcd_of a b in
    let d = gcd-greatest a b in
    let e = exchange (a / g) (b / g) g a b (div-mul_cancel g d.left) (div-mul_cancel g d.right) in record {
      left = rw e.0 (dvd-mul_left a (b / g));
      right = dvd-mul_left b (a / g);
      least = λ n l r. dvd_of_mul-dvd-mul_right (a / g * b) (gcd-pos a b h) (subst (λ (x : ℕ). x ∣ n * g) e.1 (product-divides a b n l r));
    }

pub lcm-pos : (a b : ℕ) → 1 ≤ a → 1 ≤ b → 1 ≤ lcm_of a b
lcm-pos a b h p = pos_of_dvd_of_pos ((lcm-least a b h).least (a * b) (dvd-mul_right a b) (dvd-mul_left b a)) (one-le-mul h p)

pub lcm-bound : (a b m n : ℕ) → a ≤ m → b ≤ n → lcm_of a b ≤ m * n
unfolding lcm_of
lcm-bound a b m n h p = mul-le-mul (omega (arith, div-le_self a (gcd_of a b))) p

-- a number that is the computed one has its meaning
pub greatest-is : (a b g : ℕ) → g ≡ gcd_of a b → GreatestDivisor a b g
greatest-is a b g e = rw e (gcd-greatest a b)

pub least-is : (a b m : ℕ) → 1 ≤ a → m ≡ lcm_of a b → LeastMultiple a b m
least-is a b m h e = rw e (lcm-least a b h)
