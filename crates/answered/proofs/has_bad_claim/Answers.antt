-- The claim of this turn is bad, or none is.
use Rattle.std.proofs.Common.{sym, ap, ap₂, ◌∙◌, ℕ, arith}
use Rattle.table.specs.declared.Table.{Table}
use Rattle.claims.specs.Findings.{finding_of}
use Rattle.claims.specs.Told.{claim_at}
use Rattle.answered.specs.Answered.{is_bad}
use Rattle.answered.proofs.Claims.{no-bad-claim, bad-claim}
use Rattle.answered.proofs.has_bad_claim.Goals as goal

pub returns-then-is_bad : goal.returns-then-is_bad
returns-then-is_bad c =
    let a = c.args in
    let i = c.loop-i.i in
    let here = ap₂ (λ (t : Table) (k : ℕ). finding_of t a.method k (claim_at a.claims.now i)) c.pending.ensures.table c.pending.ensures.position in
    let judged = c.judge.ensures.value ∙ here in
    sym (bad-claim a.accepted.table.now a.method a.claims.now i c.loop-i-test.true (ap is_bad (sym judged) ∙ sym c.is_bad.ensures ∙ c.if-is_bad.true))

pub returns : goal.returns
returns c = sym (no-bad-claim c.args.accepted.table.now c.args.method c.args.claims.now (λ i l. c.loop-i.invariant i (omega arith)))
