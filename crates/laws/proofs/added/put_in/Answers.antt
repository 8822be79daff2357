-- `laws::added::put_in` meets its contract.
use Rattle.laws.proofs.PutLaws.{named-few}
use Rattle.laws.proofs.added.put_in.Goals as goal

pub moved-requires : goal.moved-requires
moved-requires c = named-few c.args.table.now c.requires.0 c.loop-n.n c.loop-n-test.true
