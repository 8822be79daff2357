use Rattle.std.proofs.Common.{◌≡◌, ℕ, ap, length, length-append, arith, rules}
use Rattle.writing.proofs.Deliveries.{error-short}
use Rattle.lists.proofs.Lines.{verdicts-short, judged-text}
use Rattle.lists.proofs.write_fate.Goals as goal

pub write_error-requires : goal.write_error-requires
write_error-requires c = omega (arith, error-short c.in-Refused.refusal (search rules), ap length c.requires)

pub fields-requires : goal.fields-requires
fields-requires c =
    let six : length c.in-Judged.verdicts ≡ 6 = search rules in
    omega (arith, six, verdicts-short c.in-Judged.verdicts, ap length c.push.ensures, ap length c.requires, length-append {A = ℕ})

pub push-requires-in-Judged : goal.push-requires-in-Judged
push-requires-in-Judged c =
    let six : length c.in-Judged.verdicts ≡ 6 = search rules in
    omega (arith, six, verdicts-short c.in-Judged.verdicts, ap length c.fields.ensures, ap length c.push.ensures, ap length c.requires, length-append {A = ℕ})

pub returns-in-Judged : goal.returns-in-Judged
returns-in-Judged c =
    rw (c.push-in-Judged.ensures, c.fields.ensures, c.push.ensures, c.in-Judged.is) (judged-text c.in-Judged.verdicts c.args.draft.now c.requires)
