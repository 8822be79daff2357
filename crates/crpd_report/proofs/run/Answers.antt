-- `run` meets its contract.
use Rattle.std.proofs.Common.{◌≡◌, length, rules}
use Rattle.std.specs.Io.KnownBytes.{Keeps}
use Rattle.std.proofs.KnownBytes.{Keeps-refl}
use Rattle.streams.specs.Bytes.{ConsumesLess}
use Rattle.streams.proofs.Streams.{for_some, less_most}
use Rattle.crpd_report.proofs.LongTexts.{run_consumed, run_written, run_cut}
use Rattle.crpd_report.proofs.run.Goals as goal

pub returns-in-Ok-write_output : goal.returns-in-Ok-write_output
returns-in-Ok-write_output g c =
    let room : length c.read_input.new.buf ≡ 16385 = search rules in
    let printed = c.print-printed.ensures.printed in record {
      written =
          run_written c.read_input.new.buf c.print-printed.new.out _ c.in-Ok.len c.print-printed.result.len room printed.length-is printed.buffer-is _ _ _ c.print-printed.result.outcome
          c.in-Ok.ensures.bytes c.print-printed.ensures.outcome c.in-Ok-write_output.ensures.whole;
      read = run_consumed _ _ c.read_input.new.buf c.in-Ok.len room c.in-Ok.ensures.bytes c.in-Ok.ensures.consumed;
    }

pub returns-in-Err-write_output : goal.returns-in-Err-write_output
returns-in-Err-write_output g c =
    let room : length c.read_input.new.buf ≡ 16385 = search rules in
    let printed = c.print-printed.ensures.printed in record {
      written =
          run_cut c.read_input.new.buf c.print-printed.new.out _ c.in-Ok.len c.print-printed.result.len room printed.length-is printed.buffer-is _ _ _ c.in-Ok.ensures.bytes
          c.in-Err-write_output.ensures.part;
      read = run_consumed _ _ c.read_input.new.buf c.in-Ok.len room c.in-Ok.ensures.bytes c.in-Ok.ensures.consumed;
    }

pub returns-in-Err : goal.returns-in-Err
returns-in-Err g c =
    let had = g.R.Read.remaining c.args.reader.now in
    let held = g.W.Write.contents c.args.writer.now in record {
      written = for_some had (λ _. Keeps held held) (λ _. Keeps-refl held);
      read = for_some had (λ _. ConsumesLess 16385 had (g.R.Read.remaining c.read_input.new.input)) (λ _. less_most had (g.R.Read.remaining c.read_input.new.input) _ c.in-Err.ensures.failed (search rules));
    }
