-- A table value as a list of numbers, so that a program in another language can hand over every value that there is.
use Rattle.std.specs.Prelude.{ℕ, zero, suc, ◌+◌, ◌*◌, ◌%◌, ◌≤◌, ◌<◌, ◌≡◌, List, map, length, drop, slice_index}
use Rattle.crpd.specs.Operations.{text_of}
use Rattle.search.specs.Positions.{between}
use Rattle.cache.specs.Stored.{held_at}
use Rattle.cache.specs.Levels.{held_levels}
use Rattle.cache.specs.declared.useful.Form.{Form}
use Rattle.cache.specs.declared.useful.Form.TheVariants.{Hex, Digits}
use Rattle.table.specs.declared.tasks.Task.{Task}
use Rattle.table.specs.declared.accesses.Access.{Access}
use Rattle.table.specs.declared.Table.{Table}
use Rattle.crpd.specs.Codes.{CodesText}

-- 52 numbers for a place: the 12 bytes of its name, C, T, D, J, the 32 words of its UCB, four for each level, and the four of its ECB
unfoldable pub task_from : List ℕ → Task
task_from ns = record {
  name = record { bytes = map (λ k. slice_index ns k % 256) (between 0 12) };
  work = record { 0 = slice_index ns 12 };
  period = record { 0 = slice_index ns 13 };
  deadline = record { 0 = slice_index ns 14 };
  jitter = record { 0 = slice_index ns 15 };
  ucb = held_levels (drop 16 ns);
  ecb = held_at (drop 16 ns) 8;
}

-- 35 numbers for an access place: the positions of the task and of the ceiling, the length, and the 32 words of its UCB
unfoldable pub access_from : List ℕ → Access
access_from ns = record {
  task = slice_index ns 0;
  ceiling = slice_index ns 1;
  lasts = record { 0 = slice_index ns 2 };
  ucb = held_levels (drop 3 ns);
}

-- the form: 0 for hex digits, or the number of ways
abbrev pub form_from : ℕ → Form
form_from zero = Hex
form_from (suc n) = Digits (suc n)

-- 2,789 for a table: the number of cache sets, BRT, the form, the number of tasks, the 32 places, the number of accesses, and the 32 access places
unfoldable pub table_from : List ℕ → Table
table_from ns = record {
  sets = slice_index ns 0;
  brt = record { 0 = slice_index ns 1 };
  form = form_from (slice_index ns 2);
  count = slice_index ns 3;
  tasks = map (λ k. task_from (drop (4 + 52 * k) ns)) (between 0 32);
  access_count = slice_index ns 1668;
  accesses = map (λ n. access_from (drop (1669 + 35 * n) ns)) (between 0 32);
}

-- the number by which the writing of such a table is told, and the buffer; of fewer numbers nothing is written, and 0 told
pub record ValueCoded (numbers before : List ℕ) (code : ℕ) (after : List ℕ) : Type 0 where
  pub few : length numbers < 2789 → (code ≡ 0) × (after ≡ before)
  pub whole : 2789 ≤ length numbers → CodesText (text_of (table_from numbers)) before code after
