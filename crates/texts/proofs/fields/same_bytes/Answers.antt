use Rattle.texts.proofs.FieldScan.{same-lengths}
use Rattle.texts.proofs.fields.same_bytes.Goals as goal

pub returns-then-a-b : goal.returns-then-a-b
returns-then-a-b c = same-lengths _ _ c.if-a-b.true
