-- `writer::digits_in` ends: a digit fewer is left each time.
use Rattle.writing.proofs.writer.+digits_in.Given as goal

abbrev pub decreases-digits_in : goal.decreases-digits_in
decreases-digits_in l = l.n
