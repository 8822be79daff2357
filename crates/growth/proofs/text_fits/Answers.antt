-- `growth::text_fits` meets its contract: a scaled table names its tasks as the table does.
use Rattle.std.proofs.Common.{ℕ, ◌≤◌}
use Rattle.table.specs.declared.Table.{Table}
use Rattle.table.specs.Tables.{accesses_of}
use Rattle.table.specs.Accepted.{AcceptedTable}
use Rattle.table_text.specs.TableText.{NamesTasks}
use Rattle.table_text.proofs.Lengths.{accesses-known}
use Rattle.growth.specs.Scaling.{scaled_by}
use Rattle.growth.proofs.ScaledTexts.{readable-scalable}
use Rattle.growth.proofs.TriedLaws.{readable-table}
use Rattle.growth.proofs.text_fits.Goals as goal

pub scale-requires : goal.scale-requires
scale-requires c = readable-scalable c.args.table.now c.requires.0 c.args.k c.requires.1

bounds : (table : Table) (k : ℕ) → AcceptedTable table → ((scaled_by k table).sets ≤ 256) × ((scaled_by k table).count ≤ 32) × ((scaled_by k table).access_count ≤ 32)
unfolding scaled_by
bounds table k a = (a.sets.1, a.few, a.few-accesses)

known : (table : Table) (k : ℕ) → AcceptedTable table → NamesTasks (scaled_by k table).count (accesses_of (scaled_by k table))
unfolding scaled_by
known table k a = accesses-known table a

pub length-requires-clause-bounds : goal.length-requires-clause-bounds
length-requires-clause-bounds c = rw c.scale.ensures (bounds c.args.table.now c.args.k (readable-table _ c.requires.0))

pub length-requires-clause-known : goal.length-requires-clause-known
length-requires-clause-known c = rw c.scale.ensures (known c.args.table.now c.args.k (readable-table _ c.requires.0))
