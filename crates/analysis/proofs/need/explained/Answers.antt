-- `need::explained` meets its contract, by the method.
use Rattle.std.proofs.Common.{ap₂, ◌∙◌}
use Rattle.analysis.specs.Needs.{smaller_of, need_of}
use Rattle.analysis.proofs.need.explained.Goals as goal

pub returns-in-Of : goal.returns-in-Of
unfolding need_of
returns-in-Of c = rw c.in-Of.is c.need_under.ensures

pub returns-in-Combined : goal.returns-in-Combined
unfolding need_of
returns-in-Combined c = rw c.in-Combined.is (c.smaller.ensures ∙ ap₂ smaller_of c.need_under-ucb_union.ensures c.need_under-in-Combined.ensures)
