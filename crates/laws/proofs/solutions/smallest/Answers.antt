-- `laws::solutions::smallest` meets its contract.
use Rattle.std.proofs.Common.{sym, ◌∙◌, arith}
use Rattle.laws.proofs.SolutionLaws.{is-smallest, first-found, none-found}
use Rattle.laws.proofs.solutions.smallest.Goals as goal

pub returns-then-asked-r : goal.returns-then-asked-r
returns-then-asked-r g c =
    let e = first-found _ _ c.loop-r.r c.loop-r.invariant (omega arith) (sym c.if-asked-r.true ∙ c.asked.ensures) in
    record { value = e; means = is-smallest _ _ _ e }

pub returns-else-asked-r : goal.returns-else-asked-r
returns-else-asked-r g c =
    let e = none-found _ _ c.loop-r.r c.loop-r.invariant (omega arith) (λ q. c.if-asked-r.false (c.asked.ensures ∙ q)) in
    record { value = e; means = is-smallest _ _ _ e }
