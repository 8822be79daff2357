-- What line 1 says, field by field, and its refusals.
use Rattle.std.specs.Prelude.{ℕ, ◌%◌, List, [], ◌∷◌, not, ◌&&◌, ◌||◌, Bool, ◌≡◌, true, ◌==◌, Option, Some, None, is_some, unwrap_or, option_map, slice_get, codes}
use Rattle.cache.specs.declared.units.TheConstants.Ticks.{LONGEST_RELOAD}
use Rattle.cache.specs.declared.sets.TheConstants.CacheSet.{MOST_SETS}
use Rattle.cache.specs.declared.useful.TheConstants.Useful.{MOST_WAYS}
use Rattle.cache.specs.declared.useful.Form.{Form}
use Rattle.cache.specs.declared.useful.Form.TheVariants.{Hex, Digits}
use Rattle.cache.specs.UsefulField.{ways_of}
use Rattle.texts.specs.Cut.{fields, field}
use Rattle.texts.specs.Fields.{number, read_number, is_of_kind, has_shape, is_within}
use Rattle.texts.specs.declared.refusals.Reason.TheVariants.{Shape, Number, Range}
use Rattle.texts.specs.Faults.{at_field}
use Rattle.texts.specs.Rows.{Conditions, no_number, out_of_range}
use Rattle.table.specs.declared.tasks.head.Head.{Head}
use Rattle.table.specs.declared.tasks.head.HeadFields.{HeadFields}

-- three fields, of which `K` is the first, or a fourth that names the ways
unfoldable pub is_head : List ℕ → Bool
is_head line = has_shape (codes "K") 3 line || has_shape (codes "K") 4 line

-- the fourth field, if there is one
abbrev pub ways_field : List ℕ → Option (List ℕ)
ways_field line = slice_get (fields line) 3

-- useful blocks are written as hex digits of marks, with 1 way, or where a field names the ways, as digits that count them
unfoldable pub read_form : Option (List ℕ) → Option Form
read_form None = Some Hex
read_form (Some f) = option_map Digits (read_number f)

-- after `K` the cache sets and the ticks that a block reload takes, and how useful blocks are written
abbrev pub head_said : List ℕ → Head
head_said line = record { sets = number (field 1 line); brt = record { 0 = number (field 2 line) }; form = unwrap_or (read_form (ways_field line)) Hex }

-- the range of the sets, which come in fours
abbrev pub are_sets_in_range : ℕ → Bool
are_sets_in_range sets = is_within 4 MOST_SETS sets && (sets % 4) == 0

-- the ranges of line 1
unfoldable pub head_in_range : Head → Bool
head_in_range head =
    are_sets_in_range head.sets && is_within 0 LONGEST_RELOAD head.brt.0 && is_within 1 MOST_WAYS (ways_of head.form)

-- the refusals of line 1: first, that its first field is not `K`
abbrev pub head_rows : List ℕ → Conditions
head_rows line =
    (not (is_of_kind (codes "K") line), at_field 0 Shape)
    ∷ (not (is_head line), at_field 4 Shape)
    ∷ no_number 1 line
    ∷ no_number 2 line
    ∷ (not (is_some (read_form (ways_field line))), at_field 3 Number)
    ∷ (not (are_sets_in_range (number (field 1 line))), at_field 1 Range)
    ∷ out_of_range 0 LONGEST_RELOAD 2 line
    ∷ (not (is_within 1 MOST_WAYS (ways_of (head_said line).form)), at_field 3 Range)
    ∷ []

-- these are the fields of line 1, `K` the first
pub record AreHeadFields (line : List ℕ) (f : HeadFields) : Type 0 where
  pub shaped : is_head line ≡ true
  pub sets : f.sets.now ≡ field 1 line
  pub brt : f.brt.now ≡ field 2 line
  pub ways : option_map (λ w. w.now) f.ways ≡ ways_field line
