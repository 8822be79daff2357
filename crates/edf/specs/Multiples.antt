-- Divisors and multiples of two numbers: as functions, which compute and which the contracts cite, and what they mean.
use Rattle.std.specs.Prelude.{ℕ, zero, suc, ◌*◌, ◌/◌, ◌%◌}
use Rattle.std.specs.Int.{◌∣◌}

-- Euclid's rule of remainders, for at most k steps
unfoldable pub gcd_in : ℕ → ℕ → ℕ → ℕ
gcd_in zero a b = a
gcd_in (suc k) a zero = a
gcd_in (suc k) a (suc b) = gcd_in k (suc b) (a % suc b)

-- the remainder falls at each step, so b steps are enough
unfoldable pub gcd_of : ℕ → ℕ → ℕ
gcd_of a b = gcd_in b a b

unfoldable pub lcm_of : ℕ → ℕ → ℕ
lcm_of a b = a / gcd_of a b * b

-- g divides both, and every number that does divides g
pub record GreatestDivisor (a b g : ℕ) : Type 0 where
  pub left : g ∣ a
  pub right : g ∣ b
  pub most : (d : ℕ) → d ∣ a → d ∣ b → d ∣ g

-- both divide m, and m divides every number that both divide
pub record LeastMultiple (a b m : ℕ) : Type 0 where
  pub left : a ∣ m
  pub right : b ∣ m
  pub least : (n : ℕ) → a ∣ n → b ∣ n → m ∣ n
