-- One task more.
use Rattle.std.proofs.Common.{ℕ, List, ◌≡◌, ◌<◌, zero-le, arith, ap, sym, length, length-append, append_assoc, append-nil}
use Rattle.search.specs.Positions.{run}
use Rattle.table.specs.Accesses.{added_by}
use Rattle.table.specs.declared.Table.{Table}
use Rattle.table.specs.Tables.{ways_in}
use Rattle.analysis.specs.declared.costs.Charge.{Charge}
use Rattle.analysis.specs.Costs.{ucb_of, ecb_of, charge_under}
use Rattle.analysis.specs.Row.{charge_in}
use Rattle.analysis.specs.BlockedRow.{ChargedUnder}
use Rattle.analysis.specs.declared.need.Need.{Need}
use Rattle.report.proofs.Lists.{flat_map-more, room_below}
use Rattle.report.specs.Explained.{Explainable, VictimBelow}
use Rattle.report.specs.Explanation.{reason_line}
use Rattle.report.proofs.ExplanationParts.{victim-below, timed}
use Rattle.report.proofs.explanation.lines.write_reason_lines.Goals as goal

-- the charge is the table's, and its victim is one of the table's tasks
module _ {table : Table} {need : Need} {i : ℕ} (g : Explainable table need i) {row : List Charge} (rows : ChargedUnder table need.blocker need.method i 0 row)
    {j : ℕ} (above : j < i) where
  charged : charge_in row j ≡ charge_under table need.blocker need.method i j
  charged = rows.each j zero-le above

  victim-held : VictimBelow table.count (charge_in row j)
  victim-held =
      rw charged
      (victim-below (ways_in table) (ucb_of table) (ecb_of table) (added_by (ways_in table) need.blocker j) need.blocker.task table.count need.method i j above g.held g.blocker.task)

pub loop-j-init : goal.loop-j-init
unfolding run
loop-j-init c = sym (append-nil _)

pub write_reason_line-requires-clause-held : goal.write_reason_line-requires-clause-held
write_reason_line-requires-clause-held c =
    let g = c.requires.grounds.1 in (omega (arith, g.held), g.accepted.few, victim-held g c.join.ensures c.loop-j-test.true)

pub write_reason_line-requires-clause-in_range : goal.write_reason_line-requires-clause-in_range
write_reason_line-requires-clause-in_range c =
    let g = c.requires.grounds.1 in (c.requires.grounds.0, timed g.accepted c.loop-j.j (omega (arith, g.held)))

pub write_reason_line-requires-clause-room : goal.write_reason_line-requires-clause-room
write_reason_line-requires-clause-room c =
    let g = c.requires.grounds.1 in
    let line = ap (reason_line c.args.table.now c.args.r c.loop-j.j) (charged g c.join.ensures c.loop-j-test.true) in
    omega (
      arith,
      ap length line,
      ap length c.loop-j.invariant,
      length-append {A = ℕ},
      room_below (λ k. reason_line c.args.table.now c.args.r k (charge_under c.args.table.now c.args.need.now.blocker c.args.need.now.method c.args.i k)) c.loop-j.j c.args.i c.loop-j-test.true,
    )

pub loop-j-preserved : goal.loop-j-preserved
loop-j-preserved c =
    let g = c.requires.grounds.1 in
    let table = c.args.table.now in
    let need = c.args.need.now in
    let r = c.args.r in
    let i = c.args.i in
    let j = c.loop-j.j in
    let line = ap (reason_line table r j) (charged g c.join.ensures c.loop-j-test.true) in
    rw (c.write_reason_line.ensures, line, c.loop-j.invariant, append_assoc, flat_map-more (λ k. reason_line table r k (charge_under table need.blocker need.method i k)) j)
