-- Reading and writing go back and forth: a text that is accepted is its table's text, and the text of a table that passes the tests is accepted as that table.
-- So the tests tell just which tables a text gives.
use Rattle.std.proofs.Common.{◌≡◌, ℕ, zero, suc, ◌+◌, ◌-◌, ◌%◌, ◌≤◌, ◌<◌, Bool, true, false, ◌||◌, List, [], ◌∷◌, ◌++◌, length, take, drop, get_or, map, flat_map, refl, sym, ap, ◌∙◌, arith, length-append, append-nil, append_assoc, cond, Some, None, Result, Ok, Err, leb-true, le-leb, le-ltb, eqb, ltb, eqb-true, ltb-true}
use Rattle.std.proofs.Math.Seq.{length-take-le, get_or-take}
use Rattle.std.proofs.lemmas.Bool.{false≢true, lt-leb}
use Rattle.std.proofs.lemmas.List.{map-append}
use Rattle.std.proofs.lemmas.List.Folds.{flat_map-map}
use Rattle.std.proofs.lemmas.List.Splits.{join_with_byte-slice_split}
use Rattle.std.specs.Prelude.{IsTrue, ◌↔◌}
use Rattle.std.specs.List.{list_all, list_any, join_with_byte}
use Rattle.texts.specs.Cut.{fields, lines}
use Rattle.texts.specs.declared.refusals.Refusal.{Refusal}
use Rattle.texts.specs.declared.refusals.Reason.TheVariants.{NoTask}
use Rattle.texts.specs.Faults.{no_field}
use Rattle.texts.specs.Rows.{Conditions, unless_fault}
use Rattle.texts.proofs.RowLaws.{fine-any}
use Rattle.cache.specs.declared.useful.Form.{Form}
use Rattle.cache.specs.UsefulField.{ways_of}
use Rattle.table.specs.declared.tasks.Task.{Task}
use Rattle.table.specs.declared.tasks.head.Head.{Head}
use Rattle.table.specs.Tasks.{blank, empty_task}
use Rattle.table.specs.Names.{has_name}
use Rattle.table.specs.HeadLine.{head_in_range, head_rows, head_said}
use Rattle.table.proofs.LineLaws.{both}
use Rattle.table.specs.declared.accesses.Access.{Access}
use Rattle.table.specs.Accesses.{empty_access}
use Rattle.table.specs.declared.Table.{Table}
use Rattle.table.specs.Tables.{tasks_of, accesses_of, new_table}
use Rattle.table.specs.Accepted.{AcceptedTable}
use Rattle.table.specs.Reading.{told, then_read, line_rows, with_line, ended, is_blocked, first_blocked, unless_blocked, read_from, read_below, read_lines, read_text}
use Rattle.table.proofs.AcceptedLaws.{accepted-lines}
use Rattle.table_text.specs.TableText.{head_fields, task_fields, access_fields, lines_of, line_text, table_text, NamesTasks}
use Rattle.table_text.specs.Readable.{Whole, Readable}
use Rattle.table_text.proofs.Lengths.{entered-known}
use Rattle.table_text.specs.Tests.{head_of, is_next, are_next, is_entered, is_vacant, is_unused, has_lines, is_readable}
use Rattle.table_text.proofs.Lines.{is-line, AreLines, are-lines-append, lines-written, ended-lines, is-ended}
use Rattle.table_text.proofs.Places.{empty-vacant, vacant-empty, empty-unused, unused-empty}
use Rattle.table_text.proofs.TaskLines.{filled-name, few-sets, sets-by-four, few-ways, head-plain, head-says, head-fine, NextHolds, next-holds, task-plain, task-says, task-free, task-fine}
use Rattle.table_text.proofs.AccessLines.{EnteredHolds, entered-holds, Named, access-plain, access-says, access-free, access-fine}
use Rattle.table_text.proofs.Filled.{table_of, its-tasks, its-accesses, task-more, access-more, empty-all, filled-up, past}
use Rattle.table_text.proofs.Reading.{Passed, lines_so_far, its-lines, text-read, text-short}

-- ---- tasks that pass the tests: each, and its name, which is that of no other

pub next-at : (form : Form) (sets : ℕ) (above ts : List Task) (k : ℕ) (d : Task) → are_next form sets above ts ≡ true → k < length ts → is_next form sets (above ++ take k ts) (get_or ts k d) ≡ true
unfolding are_next
next-at form sets above [] k d e h = absurd (omega arith)
next-at form sets above (t ∷ ts) zero d e h = rw (append-nil above) (both (is_next form sets above t) _ e).0
next-at form sets above (t ∷ ts) (suc k) d e h =
    rw (append_assoc above (t ∷ []) (take k ts)) at (next-at form sets (above ++ (t ∷ [])) ts k d (both (is_next form sets above t) _ e).1 (omega arith))

none-any : {X : Type 0} (p : X → Bool) (l : List X) (d : X) → list_any p l ≡ false → (j : ℕ) → j < length l → p (get_or l j d) ≡ false
none-any p [] d e j h = absurd (omega arith)
none-any {X} p (x ∷ l) d e j h = go (p x) refl e (λ e j b. none-any p l d e j b) j h
  where
    go : (t : Bool) → p x ≡ t → (t || list_any p l) ≡ false → (list_any p l ≡ false → (j : ℕ) → j < length l → p (get_or l j d) ≡ false)
        → (j : ℕ) → j < suc (length l) → p (get_or (x ∷ l) j d) ≡ false
    go true q e ih j h = absurd (false≢true (sym e))
    go false q e ih zero h = q
    go false q e ih (suc j) h = ih e j (omega arith)

pub named : (form : Form) (sets : ℕ) (ts : List Task) → are_next form sets [] ts ≡ true → Named ts
named form sets ts e = record {
  filled = λ k h. (next-holds form sets (take k ts) (get_or ts k blank) (next-at form sets [] ts k blank e h)).filled;
  alone = λ j k b h.
      let new = (next-holds form sets (take k ts) (get_or ts k blank) (next-at form sets [] ts k blank e h)).new-name in
      rw (get_or-take k ts j blank b) at (none-any (has_name (get_or ts k blank).name) (take k ts) blank new j (omega (arith, length-take-le k ts (omega arith))));
}

pub tasks-lines : (form : Form) (sets : ℕ) (above ts : List Task) → are_next form sets above ts ≡ true → AreLines (map (task_fields form sets) ts)
unfolding are_next
tasks-lines form sets above [] e = tt
tasks-lines form sets above (t ∷ ts) e =
    let p = both (is_next form sets above t) _ e in
    (is-line _ _ (task-plain form sets t (filled-name t.name (next-holds form sets above t p.0).filled).0), tasks-lines form sets (above ++ (t ∷ [])) ts p.1)

-- ---- reading what is written

-- a step that meets no condition
step-fine : {X : Type 0} (line : ℕ) (rows : Conditions) (x : X) (next : X → Result Table Refusal) → unless_fault rows (tt {0}) ≡ Ok (tt {0}) → then_read (told line (unless_fault rows x)) next ≡ next x
step-fine line rows x next e = rw (fine-any rows (tt {0}) x e).1

-- a line with no B above 0 is passed over
free-first : (l : List ℕ) (ls : List (List ℕ)) (line : ℕ) → is_blocked l ≡ false → first_blocked line (l ∷ ls) ≡ first_blocked (line + 1) ls
unfolding first_blocked
free-first l ls line e = ap (λ (b : Bool). cond b (Some line) (first_blocked (line + 1) ls)) e

-- a table with a task may end
ended-fine : (table : Table) → ltb 0 table.count ≡ true → ended table ≡ Ok table
unfolding ended unless_fault
ended-fine table e = go (eqb table.count 0) refl
  where
    some : 0 < table.count
    some = ltb-true 0 table.count e

    go : (t : Bool) → eqb table.count 0 ≡ t → told 1 (cond t (Err (no_field NoTask)) (Ok table)) ≡ Ok table
    go true q = let none = eqb-true table.count 0 q in absurd (omega (arith, none, some))
    go false q = refl

module _ (h : Head) (e : head_in_range h ≡ true) where
  few : h.sets ≤ 256
  few = few-sets h e

  by-four : h.sets % 4 ≡ 0
  by-four = sets-by-four h e

  ways : ways_of h.form ≤ 8
  ways = few-ways h e

  -- a task line, where there is no access yet
  module _ (done : List Task) (t : Task) (room : length done < 32) (n : NextHolds h.form h.sets done t) (l : List ℕ) (f : fields l ≡ task_fields h.form h.sets t) where
    task-line-fine : unless_fault (line_rows (table_of h done []) l) (tt {0}) ≡ Ok (tt {0})
    unfolding unless_fault
    task-line-fine = rw (f, lt-leb 32 (length done) room, its-tasks h done []) (task-fine h.form ways h.sets few by-four done t n l f)

    task-line-adds : with_line (table_of h done []) l ≡ table_of h (done ++ (t ∷ [])) []
    task-line-adds = rw (f, task-says h.form ways h.sets few by-four done t n l f) (task-more h done [] t room)

  free-tasks : (done todo : List Task) (rest : List (List ℕ)) → are_next h.form h.sets done todo ≡ true → ((line : ℕ) → first_blocked line rest ≡ None)
      → (line : ℕ) → first_blocked line (map (join_with_byte 9) (map (task_fields h.form h.sets) todo) ++ rest) ≡ None
  unfolding first_blocked are_next
  free-tasks done [] rest p then line = then line
  free-tasks done (t ∷ todo) rest p then line =
      let q = both (is_next h.form h.sets done t) _ p in
      let n = next-holds h.form h.sets done t q.0 in
      let f = (is-line _ _ (task-plain h.form h.sets t (filled-name t.name n.filled).0)).0 in
      free-first (join_with_byte 9 (task_fields h.form h.sets t)) (map (join_with_byte 9) (map (task_fields h.form h.sets) todo) ++ rest) line
      (task-free h.form ways h.sets few by-four done t n (join_with_byte 9 (task_fields h.form h.sets t)) f)
      ∙ (free-tasks (done ++ (t ∷ [])) todo rest q.1 then (line + 1))

  read-tasks : (done todo : List Task) (rest : List (List ℕ)) (o : Result Table Refusal) → are_next h.form h.sets done todo ≡ true → length done + length todo ≤ 32
      → ((line : ℕ) → read_from line (table_of h (done ++ todo) []) rest ≡ o)
      → (line : ℕ) → read_from line (table_of h done []) (map (join_with_byte 9) (map (task_fields h.form h.sets) todo) ++ rest) ≡ o
  unfolding read_from are_next
  read-tasks done [] rest o p room then line = rw (append-nil done) at (then line)
  read-tasks done (t ∷ todo) rest o p room then line =
      let q = both (is_next h.form h.sets done t) _ p in
      let n = next-holds h.form h.sets done t q.0 in
      let here : length done < 32 = omega arith in
      let l = join_with_byte 9 (task_fields h.form h.sets t) in
      let f = (is-line _ _ (task-plain h.form h.sets t (filled-name t.name n.filled).0)).0 in
      let others = map (join_with_byte 9) (map (task_fields h.form h.sets) todo) ++ rest in
      step-fine line (line_rows (table_of h done []) l) (with_line (table_of h done []) l) (λ table. read_from (line + 1) table others) (task-line-fine done t here n l f)
      ∙ ap (λ (table : Table). read_from (line + 1) table others) (task-line-adds done t here n l f)
      ∙ read-tasks (done ++ (t ∷ [])) todo rest o q.1 (rw length-append (omega arith)) (λ line. rw (append_assoc done (t ∷ []) todo) (then line)) (line + 1)

  -- an access line, after all tasks
  module _ (ts : List Task) (names : Named ts) where
    module _ (done : List Access) (a : Access) (room : length done < 32) (n : EnteredHolds h.form h.sets (length ts) a) (l : List ℕ) (f : fields l ≡ access_fields h.form h.sets ts a) where
      access-line-fine : unless_fault (line_rows (table_of h ts done) l) (tt {0}) ≡ Ok (tt {0})
      unfolding unless_fault
      access-line-fine = rw (f, lt-leb 32 (length done) room, its-tasks h ts done) (access-fine h.form ways h.sets few by-four ts names a n l f)

      access-line-adds : with_line (table_of h ts done) l ≡ table_of h ts (done ++ (a ∷ []))
      access-line-adds = rw (f, its-tasks h ts done, access-says h.form ways h.sets few by-four ts names a n l f) (access-more h ts done a room)

    read-accesses : (done todo : List Access) → list_all (is_entered h.form h.sets (length ts)) todo ≡ true → length done + length todo ≤ 32 → ltb 0 (length ts) ≡ true
        → (line : ℕ) → read_from line (table_of h ts done) (map (join_with_byte 9) (map (access_fields h.form h.sets ts) todo)) ≡ Ok (table_of h ts (done ++ todo))
    unfolding read_from
    read-accesses done [] p room some line = rw (append-nil done) (ended-fine (table_of h ts done) some)
    read-accesses done (a ∷ todo) p room some line =
        let q = both (is_entered h.form h.sets (length ts) a) _ p in
        let n = entered-holds h.form h.sets (length ts) a q.0 in
        let here : length done < 32 = omega arith in
        let all : (done ++ (a ∷ [])) ++ todo ≡ done ++ a ∷ todo = append_assoc done (a ∷ []) todo in
        let l = join_with_byte 9 (access_fields h.form h.sets ts a) in
        let f = (is-line _ _ (access-plain h.form ways h.sets few by-four ts names a n)).0 in
        let others = map (join_with_byte 9) (map (access_fields h.form h.sets ts) todo) in
        step-fine line (line_rows (table_of h ts done) l) (with_line (table_of h ts done) l) (λ table. read_from (line + 1) table others) (access-line-fine done a here n l f)
        ∙ ap (λ (table : Table). read_from (line + 1) table others) (access-line-adds done a here n l f)
        ∙ rw all at (read-accesses (done ++ (a ∷ [])) todo q.1 (rw length-append (omega arith)) some (line + 1))

    free-accesses : (todo : List Access) → list_all (is_entered h.form h.sets (length ts)) todo ≡ true
        → (line : ℕ) → first_blocked line (map (join_with_byte 9) (map (access_fields h.form h.sets ts) todo)) ≡ None
    unfolding first_blocked
    free-accesses [] p line = refl
    free-accesses (a ∷ todo) p line =
        let q = both (is_entered h.form h.sets (length ts) a) _ p in
        let n = entered-holds h.form h.sets (length ts) a q.0 in
        let f = (is-line _ _ (access-plain h.form ways h.sets few by-four ts names a n)).0 in
        free-first (join_with_byte 9 (access_fields h.form h.sets ts a)) (map (join_with_byte 9) (map (access_fields h.form h.sets ts) todo)) line
        (access-free h.form ways h.sets few by-four ts names a n (join_with_byte 9 (access_fields h.form h.sets ts a)) f)
        ∙ (free-accesses todo q.1 (line + 1))

    pub accesses-lines : (todo : List Access) → list_all (is_entered h.form h.sets (length ts)) todo ≡ true → AreLines (map (access_fields h.form h.sets ts) todo)
    accesses-lines [] p = tt
    accesses-lines (a ∷ todo) p =
        let q = both (is_entered h.form h.sets (length ts) a) _ p in
        (is-line _ _ (access-plain h.form ways h.sets few by-four ts names a (entered-holds h.form h.sets (length ts) a q.0)), accesses-lines todo q.1)

-- lists that pass the tests are read as their table, where there is a task
module _ (h : Head) (ts : List Task) (accesses : List Access) (p : Passed h ts accesses) where
  names-of : Named ts
  names-of = named h.form h.sets ts p.tasks

  read-lists : ltb 0 (length ts) ≡ true → read_lines (map (join_with_byte 9) (lines_so_far h ts accesses)) ≡ Ok (table_of h ts accesses)
  unfolding read_lines unless_blocked
  read-lists some =
      let l = join_with_byte 9 (head_fields h.sets h.brt.0 h.form) in
      let f = (is-line _ _ (head-plain h)).0 in
      let task_lines = map (task_fields h.form h.sets) ts in
      let access_lines = map (access_fields h.form h.sets ts) accesses in
      let others = map (join_with_byte 9) (task_lines ++ access_lines) in
      step-fine 1 (head_rows l) (head_said l) (λ head. read_below (new_table head) others) (head-fine h p.head l f)
      ∙ ap (λ (head : Head). read_below (new_table head) others) (head-says h p.head l f)
      ∙ ap (λ (ls : List (List ℕ)). read_below (table_of h [] []) ls) (map-append (join_with_byte 9) task_lines access_lines)
      ∙ rw (
        read-tasks h p.head [] ts (map (join_with_byte 9) access_lines) _ p.tasks (omega (arith, p.few)) (read-accesses h p.head ts names-of [] accesses p.entered (omega (arith, p.few-accesses)) some) 2,
        free-tasks h p.head [] ts (map (join_with_byte 9) access_lines) p.tasks (free-accesses h p.head ts names-of accesses p.entered) 2,
      )
      refl

  lists-lines : AreLines (lines_so_far h ts accesses)
  lists-lines =
      (is-line _ _ (head-plain h), are-lines-append (map (task_fields h.form h.sets) ts) (map (access_fields h.form h.sets ts) accesses) (tasks-lines h.form h.sets [] ts p.tasks) (accesses-lines h p.head ts names-of accesses p.entered))

-- ---- a table that passes the tests

record Tested (table : Table) : Type 0 where
  few : table.count ≤ 32
  few-accesses : table.access_count ≤ 32
  head : head_in_range (head_of table) ≡ true
  some : ltb 0 table.count ≡ true
  tasks : are_next table.form table.sets [] (tasks_of table) ≡ true
  entered : list_all (is_entered table.form table.sets table.count) (accesses_of table) ≡ true
  vacant : list_all is_vacant (drop table.count table.tasks) ≡ true
  unused : list_all is_unused (drop table.access_count table.accesses) ≡ true

tests : (table : Table) → has_lines table ≡ true → Tested table
unfolding has_lines
tests table e =
    let p6 = both _ (list_all is_unused (drop table.access_count table.accesses)) e in
    let p5 = both _ (list_all is_vacant (drop table.count table.tasks)) p6.0 in
    let p4 = both _ (list_all (is_entered table.form table.sets table.count) (accesses_of table)) p5.0 in
    let p3 = both _ (are_next table.form table.sets [] (tasks_of table)) p4.0 in
    let p2 = both _ (ltb 0 table.count) p3.0 in
    let p1 = both _ (head_in_range (head_of table)) p2.0 in
    let p0 = both _ _ p1.0 in
    record {
      few = leb-true _ _ p0.0;
      few-accesses = leb-true _ _ p0.1;
      head = p1.1;
      some = p2.1;
      tasks = p3.1;
      entered = p4.1;
      vacant = p5.1;
      unused = p6.1;
    }

-- lines that can say a table name its tasks
pub lines-bounds : (table : Table) → has_lines table ≡ true → (table.sets ≤ 256) × (table.count ≤ 32) × (table.access_count ≤ 32)
lines-bounds table e = let t = tests table e in (few-sets (head_of table) t.head, t.few, t.few-accesses)

pub lines-known : (table : Table) → has_lines table ≡ true → NamesTasks table.count (accesses_of table)
lines-known table e = entered-known table.form table.sets table.count (accesses_of table) (tests table e).entered

module _ (table : Table) (whole : Whole table) (e : is_readable table ≡ true) where
  tested : Tested table
  tested = tests table (both (has_lines table) _ e).0

  text_short : length (table_text table) ≤ 16384
  text_short = leb-true _ _ (both (has_lines table) _ e).1

  counted : length (tasks_of table) ≡ table.count
  counted = length-take-le table.count table.tasks (omega (arith, whole.tasks, tested.few))

  counted-accesses : length (accesses_of table) ≡ table.access_count
  counted-accesses = length-take-le table.access_count table.accesses (omega (arith, whole.accesses, tested.few-accesses))

  its-lists : Passed (head_of table) (tasks_of table) (accesses_of table)
  its-lists = record {
    head = tested.head;
    few = omega (arith, counted, tested.few);
    tasks = tested.tasks;
    few-accesses = omega (arith, counted-accesses, tested.few-accesses);
    entered = rw counted tested.entered;
  }

  of-lists : table ≡ table_of (head_of table) (tasks_of table) (accesses_of table)
  of-lists =
      let tasks = filled-up empty_task is_vacant vacant-empty table.tasks table.count whole.tasks tested.few tested.vacant in
      let accesses = filled-up empty_access is_unused unused-empty table.accesses table.access_count whole.accesses tested.few-accesses tested.unused in
      λ i. record { sets = table.sets; brt = table.brt; form = table.form; count = sym counted i; tasks = tasks i; access_count = sym counted-accesses i; accesses = accesses i }

  its-lines-read : read_lines (map (join_with_byte 9) (lines_of table)) ≡ Ok table
  its-lines-read = read-lists (head_of table) (tasks_of table) (accesses_of table) its-lists (rw counted tested.some) ∙ ap Ok (sym of-lists)

  -- it has all that may be used of an accepted table
  pub readable-accepted : AcceptedTable table
  readable-accepted = accepted-lines (map (join_with_byte 9) (lines_of table)) table its-lines-read

  -- the text of the table is accepted as the table, the same value in every field
  pub reads-back : read_text (table_text table) ≡ Ok table
  unfolding read_text table_text unless_fault
  reads-back =
      let short : length (flat_map line_text (lines_of table)) ≤ 16384 = text_short in
      let cut = lines-written (lines_of table) (lists-lines (head_of table) (tasks_of table) (accesses_of table) its-lists) in
      rw (le-ltb 16384 (length (flat_map line_text (lines_of table))) (omega arith), is-ended (head_fields table.sets table.brt.0 table.form) _, cut) its-lines-read

-- ---- the two round trips, and what they say of the tests

-- lists that are read, in the table that is made of them
module _ (h : Head) (ts : List Task) (accesses : List Access) (p : Passed h ts accesses) where
  pub lists-readable : ltb 0 (length ts) ≡ true → length (table_text (table_of h ts accesses)) ≤ 16384 → is_readable (table_of h ts accesses) ≡ true
  unfolding has_lines
  lists-readable some short =
      rw (
        le-leb (length ts) 32 p.few,
        le-leb (length accesses) 32 p.few-accesses,
        p.head,
        some,
        its-tasks h ts accesses,
        p.tasks,
        its-accesses h ts accesses,
        p.entered,
        past empty_task ts,
        empty-all empty_task is_vacant empty-vacant (32 - length ts),
        past empty_access accesses,
        empty-all empty_access is_unused empty-unused (32 - length accesses),
        le-leb (length (table_text (table_of h ts accesses))) 16384 short,
      )

-- a text that is accepted as a table is that table's text, byte for byte
pub read-then-written : (text : List ℕ) (table : Table) → read_text text ≡ Ok table → text ≡ table_text table
unfolding table_text
read-then-written text table e =
    let t = text-read text table e in
    let r = t.1 in
    let same : lines_of table ≡ map fields (lines text) = ap lines_of r.is ∙ its-lines r.head r.tasks r.others ∙ r.lines in
    sym (ap (flat_map line_text) same ∙ flat_map-map line_text fields (lines text) ∙ joined-again (lines text) ∙ ended-lines text t.0)
  where
    joined-again : (ls : List (List ℕ)) → flat_map (λ l. line_text (fields l)) ls ≡ flat_map (λ l. l ++ (10 ∷ [])) ls
    joined-again ls = ap (λ (f : List ℕ → List ℕ). flat_map f ls) (λ i l. join_with_byte-slice_split 9 l i ++ (10 ∷ []))

-- so no such text is longer than one that is read
pub readable-short : (table : Table) → Readable table → length (table_text table) ≤ 16384
readable-short table (text, e) = rw (← read-then-written text table e) (text-short text table e)

-- a table that a text gives passes the tests
pub given-readable : (table : Table) → Readable table → is_readable table ≡ true
given-readable table (text, e) =
    let r = (text-read text table e).1 in
    let short = rw r.is at (readable-short table (text, e)) in
    rw r.is (lists-readable r.head r.tasks r.others r.passed (rw r.is at r.ends) short)

-- the text of a table that some text gives is accepted as that table
pub written-then-read : (table : Table) → Readable table → read_text (table_text table) ≡ Ok table
written-then-read table (text, e) = rw (← read-then-written text table e) e

-- a table value passes the tests just where some accepted text reads as it
pub tests-are-meant : (table : Table) → Whole table → (is_readable table ≡ true → Readable table) × (Readable table → is_readable table ≡ true)
tests-are-meant table whole = (λ e. (table_text table, reads-back table whole e), given-readable table)

-- so a test that answers as they do tells it
pub meant : (table : Table) → Whole table → (passes : Bool) → passes ≡ is_readable table → IsTrue passes ↔ Readable table
meant table whole passes e = let m = tests-are-meant table whole in (λ t. m.0 (sym e ∙ t), λ r. e ∙ m.1 r)
