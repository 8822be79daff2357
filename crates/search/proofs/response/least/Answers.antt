-- `response::least` meets its contract: no answer is sooner than 0.
use Rattle.std.proofs.Common.{sym, ◌∙◌}
use Rattle.search.proofs.LaterLaws.{later_first}
use Rattle.search.proofs.response.least.Goals as goal

pub returns-clause-result_value : goal.returns-clause-result_value
returns-clause-result_value c = sym (later_first _) ∙ c.least_beyond.ensures.result_value ∙ later_first _
