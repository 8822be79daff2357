-- The text came into a buffer, and the report was put into the folder, or not.
use Rattle.std.proofs.Common.{◌≡◌, length, ◌∙◌, rules}
use Rattle.builds.proofs.Telling.{put-told, unwritten-told}
use Rattle.builds.proofs.write_report.Goals as goal
use Rattle.builds.proofs.write_report.Goals.{in-Ok-put, in-Err}

pub returns : goal.returns
returns g c =
    let room : length c.read.new.buf ≡ 16385 = search rules in
    elim c.match-put.branch [
      | in-Ok-put w ↦ put-told _ _ _ _ c.args.build.now.way.items c.read.new.buf c.print-told.new.out _ c.in-Ok.len c.print-told.result.len c.match-put.fate room c.in-Ok.ensures.text
          (w.fate-is ∙ c.print-told.ensures.fate) c.in-Ok.ensures.same c.print-told.ensures.printed.length-is c.print-told.ensures.printed.buffer-is w.in-Ok-put.ensures.put c.hear-2.ensures.same
      | in-Err w ↦ unwritten-told _ _ _ _ c.args.build.now.way.items c.read.new.buf c.in-Ok.len c.match-put.fate w.fate-is c.in-Ok.ensures.text w.in-Err.ensures.not_taken c.in-Ok.ensures.same w.in-Err.ensures.not_put c.hear-2.ensures.same
    ]
