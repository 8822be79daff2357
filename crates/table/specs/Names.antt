-- Names, and the tasks that have them.
use Rattle.std.specs.Prelude.{List, Bool, ◌&&◌}
use Rattle.std.specs.List.{list_any}
use Rattle.std.specs.Str.{bytes_eq}
use Rattle.table.specs.declared.tasks.name.Name.{Name}
use Rattle.table.specs.declared.tasks.Task.{Task}
use Rattle.table.specs.Tasks.{name_text, pack_name}
use Rattle.texts.specs.Fields.{is_name}

abbrev pub has_name : Name → Task → Bool
has_name n t = bytes_eq t.name.bytes n.bytes

-- the name is that of one of these tasks
abbrev pub knows : Name → List Task → Bool
knows n tasks = list_any (has_name n) tasks

-- a name, and after it the zeros that fill it up
unfoldable pub is_filled : Name → Bool
is_filled n = is_name (name_text n) && bytes_eq (pack_name (name_text n)).bytes n.bytes
