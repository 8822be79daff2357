-- Whether a table is harder than another, as a test that computes. What it means is `Harder` of analysis.
use Rattle.std.specs.Prelude.{ℕ, zero, suc, Bool, true, false, not, ◌&&◌, ◌||◌, ◌==◌, nat_le, if◌then◌else◌}
use Rattle.std.specs.Str.{bytes_eq}
use Rattle.cache.specs.Sets.{Set}
use Rattle.cache.specs.Words.{members}
use Rattle.cache.specs.Counts.{Counts}
use Rattle.cache.specs.Levels.{counts}
use Rattle.table.specs.declared.tasks.Task.{Task}
use Rattle.table.specs.declared.accesses.Access.{Access}
use Rattle.table.specs.declared.Table.{Table}
use Rattle.table.specs.Tables.{ways_in, at, access_at}
use Rattle.changes.specs.declared.harder.Relation.{Relation}
use Rattle.changes.specs.declared.harder.Relation.TheVariants.{Open, Harder, Easier, Same}

-- whether a test holds of each number below n
unfoldable pub holds_below : ℕ → (ℕ → Bool) → Bool
holds_below zero p = true
holds_below (suc n) p = holds_below n p && p n

-- whether none of 256 cache sets has a larger count
abbrev pub no_more : Counts → Counts → Bool
no_more U W = holds_below 256 (λ s. nat_le (U s) (W s))

-- whether each of 256 cache sets that is in A is in B
abbrev pub all_in : Set → Set → Bool
all_in A B = holds_below 256 (λ s. not (A s) || B s)

-- whether no figure of a task is easier in b
abbrev pub is_harder_task : ℕ → Task → Task → Bool
is_harder_task ways a b =
    nat_le a.work.0 b.work.0
    && nat_le b.period.0 a.period.0
    && nat_le b.deadline.0 a.deadline.0
    && nat_le a.jitter.0 b.jitter.0
    && no_more (counts ways a.ucb) (counts ways b.ucb)
    && all_in (members a.ecb) (members b.ecb)

-- .. and of an access
abbrev pub is_harder_access : ℕ → Access → Access → Bool
is_harder_access ways a b =
    b.task == a.task && b.ceiling == a.ceiling && nat_le a.lasts.0 b.lasts.0 && no_more (counts ways a.ucb) (counts ways b.ucb)

-- whether a table is harder than another: position by position and access by access no figure of it is easier
unfoldable pub is_harder : Table → Table → Bool
is_harder first second =
    if first.count == second.count && first.access_count == second.access_count then
    first.sets == second.sets
    && ways_in first == ways_in second
    && nat_le first.brt.0 second.brt.0
    && holds_below first.count (λ k. is_harder_task (ways_in first) (at first k) (at second k))
    && holds_below first.access_count (λ n. is_harder_access (ways_in first) (access_at first n) (access_at second n))
    else false

-- whether two tasks have the same name, and all tasks of two tables
abbrev pub is_named_alike : Task → Task → Bool
is_named_alike a b = bytes_eq a.name.bytes b.name.bytes

unfoldable pub are_named_alike : Table → Table → Bool
are_named_alike first second = if first.count == second.count then holds_below first.count (λ k. is_named_alike (at first k) (at second k)) else false

-- how a new table is to an old one, told from whether their tasks are named alike, whether the new one is harder, and whether the old one is
abbrev pub relation_of : Bool → Bool → Bool → Relation
relation_of true true true = Same
relation_of true true false = Harder
relation_of true false true = Easier
relation_of true false false = Open
relation_of false h e = Open

abbrev pub relation_between : Table → Table → Relation
relation_between old new = relation_of (are_named_alike old new) (is_harder old new) (is_harder new old)
