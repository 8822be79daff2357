-- A partner's list: below one another, in the order of a table's tasks, a line with the response that is claimed of each. What it claims, or its first refusal.
use Rattle.std.specs.Prelude.{ℕ, ◌+◌, ◌≤◌, ◌≡◌, Bool, true, not, List, [], ◌∷◌, length, Option, Some, option_map, is_some, unwrap_or, Result, Ok, if◌then◌else◌, nat_lt, ◌==◌, slice_index_or, ⊤, codes}
use Rattle.std.specs.Str.{bytes_eq}
use Rattle.search.specs.declared.demand.Response.{Response}
use Rattle.search.specs.declared.demand.Response.TheVariants.{Within, Unschedulable}
use Rattle.texts.specs.Cut.{up_to, after, field}
use Rattle.texts.specs.Fields.{read_number, is_of_kind, has_shape, is_name}
use Rattle.texts.specs.declared.refusals.Reason.TheVariants.{ListLine, ListName}
use Rattle.texts.specs.declared.refusals.Fault.{Fault}
use Rattle.texts.specs.declared.refusals.Refusal.{Refusal}
use Rattle.texts.specs.Faults.{at_field, no_field}
use Rattle.texts.specs.Rows.{Conditions, unless_fault}
use Rattle.table.specs.declared.tasks.Task.{Task}
use Rattle.table.specs.Tasks.{name_text}
use Rattle.table.specs.declared.Table.{Table}
use Rattle.table.specs.Tables.{tasks_of}
use Rattle.table.specs.Reading.{told, ◌>>=◌}
use Rattle.claims.specs.declared.list.Claimed.{Claimed}
use Rattle.claims.specs.declared.list.ListFields.{ListFields}

-- a claim: a number of ticks, or `-` for no response
unfoldable pub read_claim : List ℕ → Option Response
read_claim s = if bytes_eq s (codes "-") then Some Unschedulable else option_map (λ n. Within (record { 0 = n })) (read_number s)

-- these are the fields of a list line, of which it has three, behind the first, `R`
pub record AreListFields (line : List ℕ) (f : ListFields) : Type 0 where
  pub shaped : has_shape (codes "R") 3 line ≡ true
  pub name : f.name.now ≡ field 1 line
  pub claim : f.claim.now ≡ field 2 line

-- its name and its claim
abbrev pub name_listed : List ℕ → List ℕ
name_listed line = field 1 line

abbrev pub claim_listed : List ℕ → Response
claim_listed line = unwrap_or (read_claim (field 2 line)) Unschedulable

-- the first line of what is left of a list is ended by LF
abbrev pub is_line_ended : List ℕ → Bool
is_line_ended list = nat_lt (length (up_to 10 list)) (length list)

-- it is a list line: `R`, a name, and a claim, and ended; and these are the conditions behind
abbrev pub list_line_rows : List ℕ → Conditions → Conditions
list_line_rows list rows =
    let line = up_to 10 list in
    (not (is_of_kind (codes "R") line), at_field 0 ListLine)
    ∷ (not (has_shape (codes "R") 3 line), at_field 3 ListLine)
    ∷ (not (is_name (field 1 line)), at_field 1 ListLine)
    ∷ (not (is_some (read_claim (field 2 line))), at_field 2 ListLine)
    ∷ (not (is_line_ended list), no_field ListLine)
    ∷ rows

-- whether it is one, or its first fault
abbrev pub list_line_checked : List ℕ → Result ⊤ Fault
list_line_checked list = unless_fault (list_line_rows list []) tt

-- this is what it says, and what is left below it
pub record BeginsWithLine (list : List ℕ) (said : Claimed) (below : List ℕ) : Type 0 where
  pub formed : list_line_checked list ≡ Ok tt
  pub name : said.name.now ≡ name_listed (up_to 10 list)
  pub claim : said.claim ≡ claim_listed (up_to 10 list)
  pub rest : below ≡ after 10 list

-- where a task's line is to stand: it is missing, it is malformed, or it has the name of another task
unfoldable pub claim_rows : Task → List ℕ → Conditions
claim_rows task list =
    (length list == 0, no_field ListName)
    ∷ list_line_rows list ((not (bytes_eq (name_listed (up_to 10 list)) (name_text task.name)), at_field 1 ListName) ∷ [])

-- where the list is to end: the line that stands there is malformed, or one too many
unfoldable pub end_of_list_rows : List ℕ → Conditions
end_of_list_rows list = if length list == 0 then [] else list_line_rows list ((true, at_field 0 ListName) ∷ [])

-- what the first line claims of the task whose line is to stand there, and the list below it
unfoldable pub first_claim : ℕ → Task → List ℕ → Result (Response × List ℕ) Refusal
first_claim line task list = told line (unless_fault (claim_rows task list) (claim_listed (up_to 10 list), after 10 list))

-- the claims of these tasks, by what is left of a list from a line on: one for each
unfoldable pub claims_from : ℕ → List Task → List ℕ → Result (List Response) Refusal
claims_from line [] list = told line (unless_fault (end_of_list_rows list) [])
claims_from line (task ∷ tasks) list = do
  next ← first_claim line task list
  claims ← claims_from (line + 1) tasks next.1
  Ok (next.0 ∷ claims)

-- those of a whole list, of the tasks of a table
unfoldable pub claims_in : Table → List ℕ → Result (List Response) Refusal
claims_in table list = claims_from 1 (tasks_of table) list

-- no response is claimed in the places from one on
abbrev pub NoneFrom : ℕ → List Response → Type 0
NoneFrom i claims = (k : ℕ) → i ≤ k → slice_index_or claims k Unschedulable ≡ Unschedulable
