-- What came into the buffer is the text.
use Rattle.std.proofs.Common.{sym, subst, rules}
use Rattle.streams.specs.Bytes.{IsReadOf}
use Rattle.streams.proofs.Streams.{all_read}
use Rattle.streams.proofs.read_text.Goals as goal

pub returns-clause-text : goal.returns-clause-text
returns-clause-text g c =
    subst (λ text. IsReadOf (g.R.Read.remaining c.args.reader.now) text) (sym c.in_ok-from_slice.ensures.items)
    (all_read _ c.read_input.new.buf c.in_ok-len.len (search rules) c.in_ok-len.ensures.bytes)
