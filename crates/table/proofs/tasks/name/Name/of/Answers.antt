use Rattle.std.proofs.Common.{sym}
use Rattle.table.proofs.Names.{name-short, read-named, room-for-name}
use Rattle.table.proofs.tasks.name.Name.of.Goals as goal

pub slice_bounds-bytes-end : goal.slice_bounds-bytes-end
slice_bounds-bytes-end c = name-short _ c.requires

pub slice_bounds-copy_from_slice-end : goal.slice_bounds-copy_from_slice-end
slice_bounds-copy_from_slice-end c = sym (room-for-name _ c.requires)

pub copy_from_slice-requires : goal.copy_from_slice-requires
copy_from_slice-requires c = room-for-name _ c.requires

pub returns : goal.returns
returns c = read-named _ _ c.requires c.copy_from_slice.ensures.after
