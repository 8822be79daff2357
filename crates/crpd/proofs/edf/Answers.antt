-- What the answer means follows from which it is.
use Rattle.std.proofs.Common.{rules}
use Rattle.std.proofs.lemmas.Result.{err_from_is_err_and}
use Rattle.crpd.specs.Operations.{edf_to}
use Rattle.crpd.proofs.Deadlines.{text_verdict}
use Rattle.crpd.proofs.edf.Goals as goal

pub returns-in_err-check-clause-value : goal.returns-in_err-check-clause-value
unfolding edf_to
returns-in_err-check-clause-value c = search (err_from_is_err_and, rules)

pub returns-in_err-check-clause-means : goal.returns-in_err-check-clause-means
returns-in_err-check-clause-means c = text_verdict c.args.text.now _ (returns-in_err-check-clause-value c)

pub returns-clause-value : goal.returns-clause-value
unfolding edf_to
returns-clause-value c = search rules

pub returns-clause-means : goal.returns-clause-means
returns-clause-means c = text_verdict c.args.text.now _ (returns-clause-value c)
