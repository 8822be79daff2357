-- A table that is accepted has at most 8 ways.
use Rattle.test_vectors.proofs.say_table.Goals as goal

pub say_task-requires : goal.say_task-requires
say_task-requires g c = rw c.ways-ways.ensures c.args.accepted.accepted.ways.1

pub say_access-requires : goal.say_access-requires
say_access-requires g c = rw c.ways-ways.ensures c.args.accepted.accepted.ways.1
