-- `list::read` meets its contract: a line for each task, and then the end.
use Rattle.std.proofs.Common.{ℕ, ◌≡◌, ◌+◌, ◌<◌, arith, refl, length-set, subst, sym, List, length, take, Result, Ok, Err, ◌∙◌}
use Rattle.std.proofs.lemmas.Result.{err_from_is_err_and}
use Rattle.table.specs.declared.Table.{Table}
use Rattle.table.specs.Tables.{at, tasks_of}
use Rattle.analysis.proofs.TableLaws.{tasks-counted}
use Rattle.search.specs.declared.demand.Response.{Response}
use Rattle.texts.specs.declared.refusals.Refusal.{Refusal}
use Rattle.claims.specs.Lists.{first_claim, claims_in}
use Rattle.claims.proofs.ListLaws.{none-read, read-refused, one-read, end-refused, all-read, none-claimed, none-behind}
use Rattle.claims.proofs.list.read.Goals as goal

pub loop-i-init : goal.loop-i-init
loop-i-init c = record { long = refl; read = none-read c.args.accepted.table.now c.args.list.now; others = none-claimed }

pub returns-in_err-claim-clause-claimed : goal.returns-in_err-claim-clause-claimed
returns-in_err-claim-clause-claimed c =
    let table = c.args.accepted.table.now in
    let p = err_from_is_err_and c.from_residual.result c.from_residual.ensures.1 in
    let held : c.loop-i.i < length (tasks_of table) = omega (arith, tasks-counted table c.args.accepted.accepted, c.loop-i-test.true) in
    let first : first_claim (c.loop-i.i + 1) (at table c.loop-i.i) c.loop-i.rest.now ≡ Err c.in_err-claim.field-0.0 =
    rw c.pending.ensures.position at (subst (λ (t : Table). first_claim (c.pending.result.i + 1) (at t c.pending.result.i) c.loop-i.rest.now ≡ Err c.in_err-claim.field-0.0) c.pending.ensures.table c.in_err-claim.ensures) in
    rw (p.1, p.2) (read-refused table c.args.list.now c.loop-i.i c.loop-i.rest.now c.loop-i.claims c.loop-i.invariant.read held first)

pub loop-i-preserved : goal.loop-i-preserved
loop-i-preserved c =
    let table = c.args.accepted.table.now in
    let held : c.loop-i.i < length (tasks_of table) = omega (arith, tasks-counted table c.args.accepted.accepted, c.loop-i-test.true) in
    let first : first_claim (c.loop-i.i + 1) (at table c.loop-i.i) c.loop-i.rest.now ≡ Ok (c.in_ok-claim.claim, c.in_ok-claim.below.now) =
    rw c.pending.ensures.position at (subst (λ (t : Table). first_claim (c.pending.result.i + 1) (at t c.pending.result.i) c.loop-i.rest.now ≡ Ok (c.in_ok-claim.claim, c.in_ok-claim.below.now)) c.pending.ensures.table c.in_ok-claim.ensures) in
    record {
      long = length-set c.loop-i.claims c.loop-i.i c.in_ok-claim.claim ∙ c.loop-i.invariant.long;
      read =
          one-read table c.args.list.now c.loop-i.i c.loop-i.rest.now c.loop-i.claims c.loop-i.invariant.read held
          (omega (arith, c.loop-i.invariant.long, c.args.accepted.accepted.few, c.loop-i-test.true)) first;
      others = none-behind c.loop-i.claims c.loop-i.i c.in_ok-claim.claim c.loop-i.invariant.others;
    }

pub returns-in_err-check_end-clause-claimed : goal.returns-in_err-check_end-clause-claimed
returns-in_err-check_end-clause-claimed c =
    let table = c.args.accepted.table.now in
    let p = err_from_is_err_and c.from_residual-in_err-check_end.result c.from_residual-in_err-check_end.ensures.1 in
    let done : c.loop-i.i ≡ table.count = omega arith in
    let all : c.loop-i.i ≡ length (tasks_of table) = done ∙ sym (tasks-counted table c.args.accepted.accepted) in
    rw (p.1, p.2) (end-refused table c.args.list.now c.loop-i.i c.loop-i.rest.now c.loop-i.claims c.loop-i.invariant.read all (rw (← done) at c.in_err-check_end.ensures))

pub returns-clause-claimed : goal.returns-clause-claimed
returns-clause-claimed c =
    let table = c.args.accepted.table.now in
    let done : c.loop-i.i ≡ table.count = omega arith in
    let all : c.loop-i.i ≡ length (tasks_of table) = done ∙ sym (tasks-counted table c.args.accepted.accepted) in
    subst (λ (n : ℕ). ◌≡◌ {A = Result (List Response) Refusal} (Ok (take n c.loop-i.claims)) (claims_in table c.args.list.now)) done
    (all-read table c.args.list.now c.loop-i.i c.loop-i.rest.now c.loop-i.claims c.loop-i.invariant.read all (rw (← done) at c.in_ok-check_end.ensures))
