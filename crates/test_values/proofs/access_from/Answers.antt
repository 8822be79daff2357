-- The words are those from 3 on.
use Rattle.test_values.specs.Values.{access_from}
use Rattle.test_values.proofs.Rest.{rest_of}
use Rattle.test_values.proofs.access_from.Goals as goal

pub returns : goal.returns
unfolding access_from
returns c = rw (c.from_words.ensures, rest_of c.args.numbers.now 3)
