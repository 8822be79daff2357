-- Shares of the processor, which has 2 ^ 34 parts.
use Rattle.std.specs.Prelude.{ℕ, ◌+◌, ◌*◌, ◌/◌}
use Rattle.search.specs.Positions.{hp, fold_by}
use Rattle.search.specs.declared.demand.Term.{Term}

-- the share that a term takes, rounded down, and those of the first n together
abbrev pub share_of : Term → ℕ
share_of t = t.weight.0 * 17179869184 / t.period.0

unfoldable pub shares_of : (ℕ → Term) → ℕ → ℕ
shares_of terms n = fold_by ◌+◌ 0 (λ j. share_of (terms j)) (hp n)
