-- The places of tasks, and responses that moved.
use Rattle.std.proofs.Common.{◌≡◌, ℕ, zero, suc, ◌<◌, Bool, true, false, cond, List, [], ◌∷◌, ◌++◌, refl, sym, ap, ◌∙◌, arith, get_or}
use Rattle.std.proofs.lemmas.List.Quantifiers.{position-Some}
use Rattle.std.proofs.lemmas.List.Elements.{All-append}
use Rattle.std.proofs.lemmas.List.{length-take, get_or_default}
use Rattle.std.specs.Prelude.{All, Option, Some, position}
use Rattle.search.specs.declared.demand.Response.{Response}
use Rattle.search.specs.declared.demand.Response.TheVariants.{Unschedulable}
use Rattle.search.specs.Positions.{front}
use Rattle.search.proofs.FrontLaws.{front_at}
use Rattle.table.specs.declared.tasks.name.Name.{Name}
use Rattle.table.specs.Names.{has_name}
use Rattle.table.specs.Tasks.{blank}
use Rattle.table.specs.declared.Table.{Table}
use Rattle.table.specs.Tables.{tasks_of}
use Rattle.analysis.specs.declared.rows.Row.{Row}
use Rattle.analysis.specs.Rows.{no_row, row_of}
use Rattle.changes.specs.declared.ResponseChange.{ResponseChange}
use Rattle.changes.specs.Moved.{IsMoved, is_same_response, response_placed, response_named, response_moved}

-- where a task of a name is there is a task
pub place_within : (table : Table) (name : Name) (r : Option ℕ) → r ≡ position (has_name name) (tasks_of table) → (k : ℕ) → r ≡ Some k → k < table.count
place_within table name r e k f =
    let p = position-Some (has_name name) (tasks_of table) k blank (sym e ∙ f) in omega (arith, p.0, length-take table.count table.tasks)

all-none : {X : Type 0} (P : X → Type 0) → All P []
all-none P k d l = absurd (omega arith)

all-one : {X : Type 0} (P : X → Type 0) (x : X) → P x → All P (x ∷ [])
all-one P x h zero d l = h
all-one P x h (suc k) d l = absurd (omega arith)

-- a response that moved is told, and no other
pub told-moved : (old new : Table) (name : Name) (m : ℕ) (a b : Response) → m < 6 → a ≡ response_named old name m → b ≡ response_named new name m → All (IsMoved old new) (response_moved name m a b)
told-moved old new name m a b h e f = go (is_same_response a b) refl
  where
    told : ResponseChange
    told = record { task = name; method = m; old = a; new = b }

    go : (t : Bool) → is_same_response a b ≡ t → All (IsMoved old new) (cond t [] (told ∷ []))
    go true d = all-none (IsMoved old new)
    go false d = all-one (IsMoved old new) told (record { method = h; before = e; now = f; differs = d })

-- those so far, and those of one method more
pub more-moved : (old new : Table) (name : Name) (m : ℕ) (a b : Response) (so_far : List ResponseChange) → All (IsMoved old new) so_far → m < 6 → a ≡ response_named old name m → b ≡ response_named new name m → All (IsMoved old new) (so_far ++ response_moved name m a b)
more-moved old new name m a b so_far p h e f =
    All-append (IsMoved old new) so_far (response_moved name m a b) p (told-moved old new name m a b h e f)

-- a response that stands in the rows of a table is that of the task
pub placed-in-row : (table : Table) (rows : List Row) (place : Option ℕ) (k m : ℕ) (r : Row) (x : Response) → rows ≡ front no_row (row_of table) table.count → place ≡ Some k → k < table.count → m < 6 → get_or (get_or rows k r).responses m x ≡ response_placed table place m
placed-in-row table rows place k m r x e f h few =
    ap (λ (row : Row). get_or row.responses m x) (ap (λ rs. get_or rs k r) e ∙ front_at no_row (row_of table) table.count k r h)
    ∙ get_or_default (row_of table k).responses m x Unschedulable few
    ∙ ap (λ p. response_placed table p m) (sym f)
