-- None of the claims so far is bad.
use Rattle.std.proofs.Common.{◌≡◌, ℕ, ◌<◌, false}
use Rattle.claims.specs.Findings.{finding_of}
use Rattle.claims.specs.Told.{claim_at}
use Rattle.answered.specs.Answered.{is_bad}
use Rattle.answered.proofs.has_bad_claim.Given as goal

abbrev pub invariant-loop-i : goal.invariant-loop-i
invariant-loop-i l = (k : ℕ) → k < l.i → is_bad (finding_of l.accepted.table.now l.method k (claim_at l.claims k)) ≡ false
