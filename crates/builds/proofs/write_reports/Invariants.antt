-- What is told of the builds so far.
use Rattle.builds.proofs.Running.{Done}
use Rattle.builds.proofs.write_reports.Given as goal

abbrev pub invariant-loop-i : goal.invariant-loop-i
invariant-loop-i g l = Done (g.F.Folder.held l.initial.folder) l.part.number l.part.of l.builds l.i l.lines.items l.fates.items (g.F.Folder.held l.folder)
