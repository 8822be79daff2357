-- Answers for `most_releases`.
use Prim.Native.Nat.{ℕ, ◌+◌, ◌≤◌}
use native.Mathlib.Omega.{arith}
use mathlib.Core.Path.{subst₂}
use Rattle.search.specs.Demand.{ceil}
use Rattle.runs.specs.Sums.{sum, one}
use Rattle.runs.specs.Promises.{inside}
use Rattle.runs.proofs.most_releases.Goals as goal
use Rattle.runs.proofs.PromiseLaws.{most}

-- src/lib.rt:23:1
pub returns-clause-bounds : goal.returns-clause-bounds
returns-clause-bounds c s z legal j l p q a m =
    let w = subst₂ (λ (t : ℕ) (y : ℕ). sum (λ n. one (inside a c.args.time (z.released j n))) m ≤ ceil (c.args.time + y) t) p q
    (most s z legal j l (omega (arith, p, c.requires)) c.args.time a m) in
    omega (arith, w)
