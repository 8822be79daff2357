use Rattle.std.proofs.Common.{◌≡◌, true, false}
use Rattle.std.proofs.lemmas.Result.{err_from_is_err_and}
use Rattle.table.specs.Reading.{is_task_line, is_access_line}
use Rattle.table.proofs.Adding.{other-refused, other-fine}
use Rattle.table.proofs.Table.add.Goals as goal

pub returns-in_err-add_access-clause-fault : goal.returns-in_err-add_access-clause-fault
returns-in_err-add_access-clause-fault c =
    let p = err_from_is_err_and c.from_residual.result c.from_residual.ensures.1 in
    let no-task : is_task_line c.args.line.now ≡ false = cc in
    let access : is_access_line c.args.line.now ≡ true = cc in
    rw (p.1, p.2) (other-refused c.args.self.now c.args.line.now no-task access c.in_err-add_access.ensures.fault)

pub returns-in_ok-add_access-clause-fault : goal.returns-in_ok-add_access-clause-fault
returns-in_ok-add_access-clause-fault c =
    let no-task : is_task_line c.args.line.now ≡ false = cc in
    let access : is_access_line c.args.line.now ≡ true = cc in
    other-fine c.args.self.now c.args.line.now no-task access c.in_ok-add_access.ensures.fault
