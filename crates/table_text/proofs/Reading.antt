-- What a text that is accepted leaves in the table: its lists pass the tests, and its lines are those that are written of them.
use Rattle.std.proofs.Common.{◌≡◌, ℕ, ◌+◌, ◌≤◌, ◌<◌, Bool, true, false, cond, ◌&&◌, List, [], ◌∷◌, ◌++◌, length, map, refl, sym, ap, ◌∙◌, arith, length-append, append-nil, append_assoc, Option, Some, None, Result, Ok, Err, eqb, ltb, leb-false, ltb-false, lt-ltb}
use Rattle.std.proofs.Math.Bool.{and-eq-true_iff}
use Rattle.std.proofs.lemmas.Bool.{false≢true, eqb-false, not-false}
use Rattle.std.proofs.lemmas.List.{map-append}
use Rattle.std.proofs.lemmas.List.Folds.{list_all-append}
use Rattle.std.specs.List.{list_all}
use Rattle.texts.specs.Cut.{fields, lines}
use Rattle.texts.specs.declared.refusals.Fault.{Fault}
use Rattle.texts.specs.declared.refusals.Reason.TheVariants.{Shape, NoTask}
use Rattle.texts.specs.declared.refusals.Refusal.{Refusal}
use Rattle.texts.specs.Faults.{at_field, no_field}
use Rattle.texts.specs.Rows.{Conditions, unless_fault}
use Rattle.texts.proofs.RowLaws.{fine-any, fine-row}
use Rattle.cache.specs.declared.useful.Form.{Form}
use Rattle.table.specs.declared.tasks.Task.{Task}
use Rattle.table.specs.declared.tasks.head.Head.{Head}
use Rattle.table.specs.HeadLine.{head_in_range, head_rows, head_said}
use Rattle.table.specs.TaskLine.{task_rows, task_said, has_blocking}
use Rattle.table.specs.declared.accesses.Access.{Access}
use Rattle.table.specs.AccessLine.{access_rows, access_said}
use Rattle.table.specs.declared.Table.{Table}
use Rattle.table.specs.Tables.{tasks_of, new_table, with_task, with_access}
use Rattle.table.specs.Reading.{told, then_read, is_task_line, is_access_line, task_line_rows, access_line_rows, line_rows, with_line, ended, is_blocked, first_blocked, unless_blocked, read_from, read_below, read_lines, read_text, is_ended, text_rows}
use Rattle.table_text.specs.TableText.{head_fields, task_fields, access_fields, lines_of}
use Rattle.table_text.specs.Tests.{is_next, are_next, is_entered}
use Rattle.table_text.proofs.TaskLines.{few-sets, sets-by-four, few-ways, head-passes, head-is, task-passes, task-is}
use Rattle.table_text.proofs.AccessLines.{access-passes, access-is}
use Rattle.table_text.proofs.Filled.{table_of, its-tasks, its-accesses, task-more, access-more}

-- ---- steps that come to be accepted

module _ {X : Type 0} (line : ℕ) (rows : Conditions) (x : X) (next : X → Result Table Refusal) where
  -- a step that tells a line met no condition
  pub step-accepted : {result : Table} → then_read (told line (unless_fault rows x)) next ≡ Ok result → (unless_fault rows (tt {0}) ≡ Ok (tt {0})) × (next x ≡ Ok result)
  step-accepted {result} e = go (unless_fault rows x) refl e
    where
      go : (r : Result X Fault) → unless_fault rows x ≡ r → then_read (told line r) next ≡ Ok result → (unless_fault rows (tt {0}) ≡ Ok (tt {0})) × (next x ≡ Ok result)
      go (Ok y) q e = let f = fine-any rows x (tt {0}) q in (f.1, rw f.0 at e)
      go (Err fault) q e = absurd (cc)

-- the end too
pub end-accepted : {result : Table} (table : Table) → ended table ≡ Ok result → (ltb 0 table.count ≡ true) × (table ≡ result)
unfolding ended unless_fault
end-accepted {result} table e = go (eqb table.count 0) refl e
  where
    go : (t : Bool) → eqb table.count 0 ≡ t → told 1 (cond t (Err (no_field NoTask)) (Ok table)) ≡ Ok result → (ltb 0 table.count ≡ true) × (table ≡ result)
    go true q e = absurd (cc)
    go false q e = let some = eqb-false table.count 0 q in (lt-ltb 0 table.count (omega arith), cc)

-- and no line has a B above 0
abbrev pub Free : List (List ℕ) → Type 0
Free [] = Unit {0}
Free (l ∷ ls) = (is_blocked l ≡ false) × Free ls

free-lines : (line : ℕ) (ls : List (List ℕ)) → None ≡ first_blocked line ls → Free ls
unfolding first_blocked
free-lines line [] e = tt
free-lines line (l ∷ ls) e = go (is_blocked l) refl e (free-lines (line + 1) ls)
  where
    go : (t : Bool) → is_blocked l ≡ t → None ≡ cond t (Some line) (first_blocked (line + 1) ls) → (None ≡ first_blocked (line + 1) ls → Free ls) → Free (l ∷ ls)
    go true q e more = absurd (cc)
    go false q e more = (q, more e)

below-accepted : {result : Table} (r : Result Table Refusal) (first : Option ℕ) → then_read r (unless_blocked first) ≡ Ok result → (r ≡ Ok result) × (None ≡ first)
unfolding unless_blocked
below-accepted (Ok table) None e = (e, refl)
below-accepted (Ok table) (Some line) e = absurd (cc)
below-accepted (Err refusal) first e = absurd (cc)

-- ---- one task more

pub are-next-more : (form : Form) (sets : ℕ) (above ts : List Task) (t : Task) → are_next form sets above ts ≡ true → is_next form sets (above ++ ts) t ≡ true → are_next form sets above (ts ++ (t ∷ [])) ≡ true
unfolding are_next
are-next-more form sets above [] t p q =
    let e : is_next form sets above t ≡ true = rw (append-nil above) at q in
    rw e
are-next-more form sets above (u ∷ ts) t p q =
    let both = (and-eq-true_iff (is_next form sets above u) (are_next form sets (above ++ (u ∷ [])) ts)).0 p in
    rw both.0 (are-next-more form sets (above ++ (u ∷ [])) ts t both.1 (rw (append_assoc above (u ∷ []) ts) q))

-- ---- the lists of a table while it is read

pub record Passed (h : Head) (ts : List Task) (accesses : List Access) : Type 0 where
  pub head : head_in_range h ≡ true
  pub few : length ts ≤ 32
  pub tasks : are_next h.form h.sets [] ts ≡ true
  pub few-accesses : length accesses ≤ 32
  pub entered : list_all (is_entered h.form h.sets (length ts)) accesses ≡ true

-- the fields of its lines
abbrev pub lines_so_far : Head → List Task → List Access → List (List (List ℕ))
lines_so_far h ts accesses = head_fields h.sets h.brt.0 h.form ∷ map (task_fields h.form h.sets) ts ++ map (access_fields h.form h.sets ts) accesses

pub its-lines : (h : Head) (ts : List Task) (accesses : List Access) → lines_of (table_of h ts accesses) ≡ lines_so_far h ts accesses
its-lines h ts accesses = rw (its-tasks h ts accesses, its-accesses h ts accesses)

-- a table with a line more
record With (h : Head) (ts : List Task) (accesses : List Access) (l : List ℕ) (next : Table) : Type 0 where
  tasks : List Task
  others : List Access
  is : next ≡ table_of h tasks others
  passed : Passed h tasks others
  lines : lines_so_far h tasks others ≡ lines_so_far h ts accesses ++ (fields l ∷ [])

no-length : {X : Type 0} (l : List X) → length l ≤ 0 → l ≡ []
no-length [] h = refl
no-length (x ∷ l) h = absurd (omega arith)

module _ (h : Head) (ts : List Task) (accesses : List Access) (l : List ℕ) (p : Passed h ts accesses) where
  module _ (e : unless_fault (task_line_rows (table_of h ts accesses) l) (tt {0}) ≡ Ok (tt {0})) where
    few : length ts < 32
    few = leb-false 32 _ (fine-row _ _ _ _ _ e).0

    early : accesses ≡ []
    early = no-length accesses (ltb-false 0 _ (fine-row _ _ _ _ _ (fine-row _ _ _ _ _ e).1).0)

    fine : unless_fault (task_rows h.form h.sets ts l) (tt {0}) ≡ Ok (tt {0})
    fine = rw (its-tasks h ts accesses) at (fine-row _ _ _ _ _ (fine-row _ _ _ _ _ e).1).1

    abbrev t : Task
    t = task_said h.form h.sets l

    more : Passed h (ts ++ (t ∷ [])) []
    more = record {
      head = p.head;
      few = rw length-append (omega (arith, few));
      tasks = are-next-more h.form h.sets [] ts t p.tasks (task-passes h.form (few-ways h p.head) h.sets (few-sets h p.head) (sets-by-four h p.head) ts l fine);
      few-accesses = omega arith;
      entered = refl;
    }

    with-task : is_task_line l ≡ true → has_blocking l ≡ false → With h ts accesses l (with_task (table_of h ts accesses) t)
    with-task kind free = record {
      tasks = ts ++ (t ∷ []);
      others = [];
      is = rw early (task-more h ts [] t few);
      passed = more;
      lines =
          rw (early, append-nil (map (task_fields h.form h.sets) (ts ++ (t ∷ []))), append-nil (map (task_fields h.form h.sets) ts), task-is h.form (few-ways h p.head) h.sets (few-sets h p.head) (sets-by-four h p.head) ts l fine kind free)
          (ap (λ (m : List (List (List ℕ))). head_fields h.sets h.brt.0 h.form ∷ m) (map-append (task_fields h.form h.sets) ts (t ∷ [])));
    }

  module _ (e : unless_fault (access_line_rows (table_of h ts accesses) l) (tt {0}) ≡ Ok (tt {0})) where
    few-yet : length accesses < 32
    few-yet = leb-false 32 _ (fine-row _ _ _ _ _ e).0

    access-fine : unless_fault (access_rows h.form h.sets ts l) (tt {0}) ≡ Ok (tt {0})
    access-fine = rw (its-tasks h ts accesses) at (fine-row _ _ _ _ _ e).1

    abbrev a : Access
    a = access_said h.form h.sets ts l

    more-accesses : Passed h ts (accesses ++ (a ∷ []))
    more-accesses = record {
      head = p.head;
      few = p.few;
      tasks = p.tasks;
      few-accesses = rw length-append (omega (arith, few-yet));
      entered = rw (list_all-append (is_entered h.form h.sets (length ts)) accesses (a ∷ []), p.entered, access-passes h.form (few-ways h p.head) h.sets (few-sets h p.head) (sets-by-four h p.head) ts l access-fine);
    }

    with-access : is_access_line l ≡ true → With h ts accesses l (with_access (table_of h ts accesses) a)
    with-access kind = record {
      tasks = ts;
      others = accesses ++ (a ∷ []);
      is = access-more h ts accesses a few-yet;
      passed = more-accesses;
      lines =
          rw (map-append (access_fields h.form h.sets ts) accesses (a ∷ []), access-is h.form (few-ways h p.head) h.sets (few-sets h p.head) (sets-by-four h p.head) ts l access-fine kind)
          (ap (λ (m : List (List (List ℕ))). head_fields h.sets h.brt.0 h.form ∷ m)
          (sym (append_assoc (map (task_fields h.form h.sets) ts) (map (access_fields h.form h.sets ts) accesses) (access_fields h.form h.sets ts a ∷ []))));
    }

  -- so any line
  with-any : unless_fault (line_rows (table_of h ts accesses) l) (tt {0}) ≡ Ok (tt {0}) → is_blocked l ≡ false → With h ts accesses l (with_line (table_of h ts accesses) l)
  with-any e free = go (is_task_line l) (is_access_line l) refl refl e free
    where
      go : (t a : Bool) → is_task_line l ≡ t → is_access_line l ≡ a
          → unless_fault (cond t (task_line_rows (table_of h ts accesses) l) (cond a (access_line_rows (table_of h ts accesses) l) ((true, at_field 0 Shape) ∷ []))) (tt {0}) ≡ Ok (tt {0})
          → (t && has_blocking l) ≡ false
          → With h ts accesses l (cond t (with_task (table_of h ts accesses) (task_said h.form h.sets l)) (with_access (table_of h ts accesses) (access_said h.form h.sets (tasks_of (table_of h ts accesses)) l)))
      go true a kind _ e free = with-task e kind free
      go false true _ kind e free = rw (its-tasks h ts accesses) (with-access e kind)
      go false false _ _ e free = absurd (false≢true (sym (fine-row _ _ _ _ _ e).0))

-- ---- the reading, on from a table through these lines

pub record ReadOn (h : Head) (ts : List Task) (accesses : List Access) (ls : List (List ℕ)) (result : Table) : Type 0 where
  pub tasks : List Task
  pub others : List Access
  pub is : result ≡ table_of h tasks others
  pub passed : Passed h tasks others
  pub ends : ltb 0 result.count ≡ true
  pub lines : lines_so_far h tasks others ≡ lines_so_far h ts accesses ++ map fields ls

pub read-on : (line : ℕ) (h : Head) (ts : List Task) (accesses : List Access) (ls : List (List ℕ)) (result : Table) → Passed h ts accesses
    → read_from line (table_of h ts accesses) ls ≡ Ok result → Free ls → ReadOn h ts accesses ls result
unfolding read_from
read-on line h ts accesses [] result p e free =
    let q = end-accepted (table_of h ts accesses) e in
    record { tasks = ts; others = accesses; is = sym q.1; passed = p; ends = ap (λ (t : Table). ltb 0 t.count) (sym q.1) ∙ q.0; lines = sym (append-nil _) }
read-on line h ts accesses (l ∷ ls) result p e free =
    let q = step-accepted line (line_rows (table_of h ts accesses) l) (with_line (table_of h ts accesses) l) (λ table. read_from (line + 1) table ls) e in
    let w = with-any h ts accesses l p q.0 free.0 in
    let r = read-on (line + 1) h w.tasks w.others ls result w.passed (rw w.is at q.1) free.1 in
    record {
      tasks = r.tasks;
      others = r.others;
      is = r.is;
      passed = r.passed;
      ends = r.ends;
      lines = r.lines ∙ ap (λ (m : List (List (List ℕ))). m ++ map fields ls) w.lines ∙ append_assoc (lines_so_far h ts accesses) (fields l ∷ []) (map fields ls);
    }

-- ---- a whole text

-- what is known of a text that is read as a table
pub record Read (ls : List (List ℕ)) (table : Table) : Type 0 where
  pub head : Head
  pub tasks : List Task
  pub others : List Access
  pub is : table ≡ table_of head tasks others
  pub passed : Passed head tasks others
  pub ends : ltb 0 table.count ≡ true
  pub lines : lines_so_far head tasks others ≡ map fields ls

pub lines-read : (ls : List (List ℕ)) (table : Table) → read_lines ls ≡ Ok table → Read ls table
unfolding read_lines are_next
lines-read [] table e = absurd (cc)
lines-read (l ∷ ls) table e =
    let h = head_said l in
    let q = step-accepted 1 (head_rows l) (head_said l) (λ head. read_below (new_table head) ls) e in
    let b = below-accepted (read_from 2 (new_table h) ls) (first_blocked 2 ls) q.1 in
    let r = read-on 2 h [] [] ls table (record { head = head-passes l q.0; few = omega arith; tasks = refl; few-accesses = omega arith; entered = refl }) b.0 (free-lines 2 ls b.1) in
    record {
      head = h;
      tasks = r.tasks;
      others = r.others;
      is = r.is;
      passed = r.passed;
      ends = r.ends;
      lines = r.lines ∙ ap (λ (f : List (List ℕ)). f ∷ map fields ls) (sym (head-is l q.0));
    }

pub text-read : (text : List ℕ) (table : Table) → read_text text ≡ Ok table → (is_ended text ≡ true) × Read (lines text) table
unfolding read_text
text-read text table e =
    let q = step-accepted 0 (text_rows text) text (λ text. read_lines (lines text)) e in
    (not-false _ (fine-row _ _ _ _ _ (fine-row _ _ _ _ _ q.0).1).0, lines-read (lines text) table q.1)

-- a text that is read is no longer than one may be
pub text-short : (text : List ℕ) (table : Table) → read_text text ≡ Ok table → length text ≤ 16384
unfolding read_text
text-short text table e =
    let q = step-accepted 0 (text_rows text) text (λ text. read_lines (lines text)) e in
    ltb-false 16384 (length text) (fine-row _ _ _ _ _ q.0).0
