-- When the text of a scaled table is accepted: just where no C is scaled beyond the longest, and then as that table.
use Rattle.std.proofs.Common.{◌≡◌, ℕ, zero, suc, ◌-◌, ◌≤◌, ◌<◌, Bool, true, ◌||◌, List, [], ◌∷◌, ◌++◌, length, take, get_or, map, flat_map, replicate, refl, sym, ap, ap₂, ◌∙◌, arith, subst, Some, Ok, ltb, le-leb}
use Rattle.std.proofs.Math.ListN.{length-map}
use Rattle.std.proofs.lemmas.List.{map-append}
use Rattle.std.proofs.lemmas.List.Elements.{All-append, All-replicate}
use Rattle.std.specs.List.{All}
use Rattle.texts.specs.Cut.{fields, lines}
use Rattle.texts.specs.Fields.{read_digits}
use Rattle.table.specs.declared.tasks.name.Name.{Name}
use Rattle.cache.specs.declared.useful.Form.{Form}
use Rattle.table.specs.declared.tasks.Task.{Task}
use Rattle.table.specs.declared.tasks.head.Head.{Head}
use Rattle.table.specs.Tasks.{name_text, name_in, blank, empty_task}
use Rattle.table.specs.Names.{has_name, knows}
use Rattle.table.specs.TaskLine.{times_in_range, times_in_order}
use Rattle.table.proofs.LineLaws.{both, ranges}
use Rattle.table.specs.declared.accesses.Access.{Access}
use Rattle.table.specs.Accesses.{empty_access}
use Rattle.table.specs.declared.Table.{Table}
use Rattle.table.specs.Tables.{at}
use Rattle.table.specs.Accepted.{AcceptedTable}
use Rattle.table.specs.Reading.{read_text}
use Rattle.writing.specs.Text.{spelled}
use Rattle.writing.specs.Marks.{useful_text}
use Rattle.table_text.specs.TableText.{task_fields, access_fields, lines_of, line_text, table_text}
use Rattle.table_text.specs.Readable.{Whole, Readable}
use Rattle.table_text.specs.Tests.{is_next, are_next, is_readable}
use Rattle.table_text.proofs.Numbers.{digits-read}
use Rattle.table_text.proofs.Lines.{is-line, AreLines, are-lines-append, lines-written, fields-found}
use Rattle.table_text.proofs.TaskLines.{filled-name, head-plain, next-holds, task-plain}
use Rattle.table_text.proofs.Filled.{filled, filled-long, table_of, its-tasks}
use Rattle.table_text.proofs.Reading.{Passed, lines_so_far, its-lines, text-read}
use Rattle.table_text.proofs.RoundTrip.{next-at, named, accesses-lines, lists-readable, readable-accepted, reads-back}
use Rattle.growth.specs.Scaling.{FitsBy, scaled_work, scaled_task, scaled_by, Scalable}
use Rattle.growth.proofs.ScaledLaws.{unworked, scaled-place, work-some}

-- ---- a table that a text gives is that of its lists

pub record Lists (table : Table) : Type 0 where
  pub head : Head
  pub tasks : List Task
  pub accesses : List Access
  pub is : table ≡ table_of head tasks accesses
  pub passed : Passed head tasks accesses
  pub some : ltb 0 (length tasks) ≡ true

pub lists : (table : Table) → Readable table → Lists table
lists table (text, e) =
    let r = (text-read text table e).1 in
    record { head = r.head; tasks = r.tasks; accesses = r.others; is = r.is; passed = r.passed; some = ap (λ (t : Table). ltb 0 t.count) (sym r.is) ∙ r.ends }

-- no task that a line can say has a C above the longest
work-small : (form : Form) (sets : ℕ) (ts : List Task) → are_next form sets [] ts ≡ true → (j : ℕ) (d : Task) → j < length ts → (get_or ts j d).work.0 ≤ 250000000
work-small form sets ts e j d h =
    (ranges (get_or ts j d) (next-holds form sets (take j ts) (get_or ts j d) (next-at form sets [] ts j d e h)).in-range).work.1

abbrev Small : Task → Type 0
Small t = t.work.0 ≤ 250000000

-- so it may be scaled
pub readable-scalable : (table : Table) → Readable table → (k : ℕ) → k ≤ 4000 → Scalable k table
readable-scalable table readable k h =
    let r = lists table readable in
    record {
      most = h;
      long = rw r.is (filled-long empty_task r.tasks r.passed.few);
      works = rw r.is (All-append Small r.tasks (replicate (32 - length r.tasks) empty_task) (each r) (All-replicate Small (32 - length r.tasks) empty_task (omega arith)));
    }
  where
    each : (r : Lists table) → All Small r.tasks
    each r j d b = work-small r.head.form r.head.sets r.tasks r.passed.tasks j d b

-- ---- a scaled task passes the tests that it passed, where its C is no more than the longest

module _ (k : ℕ) where
  knows-scaled : (n : Name) (ts : List Task) → knows n (map (scaled_task k) ts) ≡ knows n ts
  knows-scaled n [] = refl
  knows-scaled n (t ∷ ts) = ap (λ (b : Bool). has_name n t || b) (knows-scaled n ts)

  replicate-scaled : (n : ℕ) → map (scaled_task k) (replicate n empty_task) ≡ replicate n empty_task
  replicate-scaled zero = refl
  replicate-scaled (suc n) = ap₂ (λ (t : Task) (ts : List Task). t ∷ ts) (unworked k empty_task refl) (replicate-scaled n)

  module _ (h : Head) (ts : List Task) (accesses : List Access) where
    -- a table of lists is scaled to that of the scaled tasks
    scaled-lists : scaled_by k (table_of h ts accesses) ≡ table_of h (map (scaled_task k) ts) accesses
    unfolding scaled_by
    scaled-lists =
        let long : length (map (scaled_task k) ts) ≡ length ts = length-map ts (scaled_task k) in
        let places : map (scaled_task k) (filled empty_task ts) ≡ filled empty_task (map (scaled_task k) ts) =
        rw (map-append (scaled_task k) ts (replicate (32 - length ts) empty_task), replicate-scaled (32 - length ts), long) in
        λ i. record {
          sets = h.sets;
          brt = h.brt;
          form = h.form;
          count = sym long i;
          tasks = places i;
          access_count = length accesses;
          accesses = filled empty_access accesses;
        }

  module _ (some : 1 ≤ k) where
    in-range-scaled : (t : Task) → scaled_work k t.work.0 ≤ 250000000 → times_in_range t ≡ true → times_in_range (scaled_task k t) ≡ true
    unfolding times_in_range
    in-range-scaled t fits e =
        let r = (ranges t e).work in
        rw (le-leb 1 (scaled_work k t.work.0) (work-some t.work.0 k r.0 some), le-leb (scaled_work k t.work.0) 250000000 fits)
        (rw (le-leb 1 t.work.0 r.0, le-leb t.work.0 250000000 r.1) at e)

    next-scaled : (form : Form) (sets : ℕ) (above : List Task) (t : Task) → scaled_work k t.work.0 ≤ 250000000 → is_next form sets above t ≡ true → is_next form sets (map (scaled_task k) above) (scaled_task k t) ≡ true
    unfolding is_next times_in_order
    next-scaled form sets above t fits e =
        let h = next-holds form sets above t e in
        rw (h.filled, in-range-scaled t fits h.in-range, h.in_order, h.ucb, h.ecb, knows-scaled t.name above, h.new-name)

    are-scaled : (form : Form) (sets : ℕ) (above ts : List Task) → ((j : ℕ) → j < length ts → scaled_work k (get_or ts j blank).work.0 ≤ 250000000)
        → are_next form sets above ts ≡ true → are_next form sets (map (scaled_task k) above) (map (scaled_task k) ts) ≡ true
    unfolding are_next
    are-scaled form sets above [] fits e = refl
    are-scaled form sets above (t ∷ ts) fits e =
        let p = both (is_next form sets above t) _ e in
        rw (next-scaled form sets above t (fits 0 (omega arith)) p.0)
        (rw (map-append (scaled_task k) above (t ∷ [])) at (are-scaled form sets (above ++ (t ∷ [])) ts (λ j b. fits (suc j) (omega arith)) p.1))

-- ---- a line of a task that is that of another has its C

-- no two numbers are written alike
spelled-once : (m n : ℕ) → spelled m ≡ spelled n → m ≡ n
spelled-once m n e = let same : Some m ≡ Some n = sym (digits-read m) ∙ ap (read_digits 0) e ∙ digits-read n in cc

no-access-line : (form its : Form) (sets other : ℕ) (us : List Task) (accesses : List Access) (t : Task) (j : ℕ)
    → get_or (map (access_fields its other us) accesses) j [] ≡ task_fields form sets t → ⊥
no-access-line form its sets other us [] t j e = cc
no-access-line form its sets other us (a ∷ accesses) t zero e = let z : ◌≡◌ {A = ℕ} 65 84 = cc in omega arith
no-access-line form its sets other us (a ∷ accesses) t (suc j) e = no-access-line form its sets other us accesses t j e

-- so among lines whose tasks have no C above the longest no task line has
line-small : (form its : Form) (sets other : ℕ) (ts us : List Task) (accesses : List Access) → ((i : ℕ) → i < length ts → (get_or ts i blank).work.0 ≤ 250000000) → (t : Task) (j : ℕ)
    → get_or (map (task_fields its other) ts ++ map (access_fields its other us) accesses) j [] ≡ task_fields form sets t → t.work.0 ≤ 250000000
line-small form its sets other [] us accesses small t j e = absurd (no-access-line form its sets other us accesses t j e)
line-small form its sets other (u ∷ ts) us accesses small t zero e =
    let same : u.work.0 ≡ t.work.0 = spelled-once _ _ (ap (λ (l : List (List ℕ)). get_or l 2 []) e) in
    omega (arith, small 0 (omega arith))
line-small form its sets other (u ∷ ts) us accesses small t (suc j) e = line-small form its sets other ts us accesses (λ i b. small (suc i) (omega arith)) t j e

task-line-at : (form : Form) (sets : ℕ) (ts us : List Task) (accesses : List Access) (j : ℕ) → j < length ts
    → get_or (map (task_fields form sets) ts ++ map (access_fields form sets us) accesses) j [] ≡ task_fields form sets (get_or ts j blank)
task-line-at form sets [] us accesses j h = absurd (omega arith)
task-line-at form sets (t ∷ ts) us accesses zero h = refl
task-line-at form sets (t ∷ ts) us accesses (suc j) h = task-line-at form sets ts us accesses j (omega arith)

-- ---- the text of a scaled table

-- the lines of scaled tasks, whatever their times are
scaled-tasks-lines : (form : Form) (k sets : ℕ) (above ts : List Task) → are_next form sets above ts ≡ true → AreLines (map (task_fields form sets) (map (scaled_task k) ts))
unfolding are_next
scaled-tasks-lines form k sets above [] e = tt
scaled-tasks-lines form k sets above (t ∷ ts) e =
    let p = both (is_next form sets above t) _ e in
    (is-line _ _ (task-plain form sets (scaled_task k t) (filled-name t.name (next-holds form sets above t p.0).filled).0), scaled-tasks-lines form k sets (above ++ (t ∷ [])) ts p.1)

-- the lines of accesses, whose tasks keep their names
pub same-accesses : (form : Form) (k sets : ℕ) (ts : List Task) (accesses : List Access) → map (access_fields form sets (map (scaled_task k) ts)) accesses ≡ map (access_fields form sets ts) accesses
same-accesses form k sets ts accesses =
    ap (λ (f : Access → List (List ℕ)). map f accesses)
    (λ i a. (65 ∷ []) ∷ name_text (name-kept a.task i) ∷ name_text (name-kept a.ceiling i) ∷ spelled a.lasts.0 ∷ useful_text form sets a.ucb ∷ [])
  where
    name-kept : (j : ℕ) → (get_or (map (scaled_task k) ts) j blank).name ≡ (get_or ts j blank).name
    name-kept j = ap name_in (scaled-place k ts j)

module _ (table : Table) (readable : Readable table) (k : ℕ) (some : 1 ≤ k) where
  r : Lists table
  r = lists table readable

  abbrev ts : List Task
  ts = map (scaled_task k) r.tasks

  scaled-is : scaled_by k table ≡ table_of r.head ts r.accesses
  scaled-is = ap (scaled_by k) r.is ∙ scaled-lists k r.head r.tasks r.accesses

  long : length ts ≡ length r.tasks
  long = length-map r.tasks (scaled_task k)

  each-fits : FitsBy k table → (j : ℕ) → j < length r.tasks → scaled_work k (get_or r.tasks j blank).work.0 ≤ 250000000
  unfolding at
  each-fits fits j h = rw (its-tasks r.head r.tasks r.accesses) at (subst (FitsBy k) r.is fits j h)

  passed-scaled : FitsBy k table → Passed r.head ts r.accesses
  passed-scaled fits = record {
    head = r.passed.head;
    few = omega (arith, long, r.passed.few);
    tasks = are-scaled k some r.head.form r.head.sets [] r.tasks (each-fits fits) r.passed.tasks;
    few-accesses = r.passed.few-accesses;
    entered = rw long r.passed.entered;
  }

  is-readable : FitsBy k table → length (table_text (scaled_by k table)) ≤ 16384 → is_readable (scaled_by k table) ≡ true
  is-readable fits short =
      ap is_readable scaled-is
      ∙ lists-readable r.head ts r.accesses (passed-scaled fits) (ap (ltb 0) long ∙ r.some)
      (rw scaled-is at short)

  whole-scaled : Whole (scaled_by k table)
  whole-scaled =
      subst Whole (sym scaled-is)
      (record { tasks = filled-long empty_task ts (omega (arith, long, r.passed.few)); accesses = filled-long empty_access r.accesses r.passed.few-accesses })

  -- where no C is scaled beyond the longest, and the text of the scaled table is no longer than one that is read, it is accepted as that table
  pub scaled-reads : FitsBy k table → length (table_text (scaled_by k table)) ≤ 16384 → read_text (table_text (scaled_by k table)) ≡ Ok (scaled_by k table)
  scaled-reads fits short = reads-back (scaled_by k table) whole-scaled (is-readable fits short)

  -- so all that holds of an accepted table holds of it
  pub scaled-accepted : FitsBy k table → length (table_text (scaled_by k table)) ≤ 16384 → AcceptedTable (scaled_by k table)
  scaled-accepted fits short = readable-accepted (scaled_by k table) whole-scaled (is-readable fits short)

  -- ---- where its text is accepted, each of its task lines is that of a task whose C is no more than the longest

  are-its-lines : AreLines (lines_so_far r.head ts r.accesses)
  are-its-lines =
      let accesses : AreLines (map (access_fields r.head.form r.head.sets ts) r.accesses) =
      rw (same-accesses r.head.form k r.head.sets r.tasks r.accesses) (accesses-lines r.head r.passed.head r.tasks (named r.head.form r.head.sets r.tasks r.passed.tasks) r.accesses r.passed.entered) in
      (is-line _ _ (head-plain r.head), are-lines-append _ _ (scaled-tasks-lines r.head.form k r.head.sets [] r.tasks r.passed.tasks) accesses)

  text-fields : map fields (lines (table_text (scaled_by k table))) ≡ lines_so_far r.head ts r.accesses
  unfolding table_text
  text-fields =
      ap (λ (t : Table). map fields (lines (flat_map line_text (lines_of t)))) scaled-is
      ∙ ap (λ (ls : List (List (List ℕ))). map fields (lines (flat_map line_text ls))) (its-lines r.head ts r.accesses)
      ∙ ap (λ (ls : List (List ℕ)). map fields ls) (lines-written (lines_so_far r.head ts r.accesses) are-its-lines)
      ∙ fields-found (lines_so_far r.head ts r.accesses) are-its-lines

  lists-fit : (result : Table) → read_text (table_text (scaled_by k table)) ≡ Ok result → FitsBy k (table_of r.head r.tasks r.accesses)
  unfolding at
  lists-fit result e j h =
      let q = (text-read (table_text (scaled_by k table)) result e).1 in
      let same : lines_so_far q.head q.tasks q.others ≡ lines_so_far r.head ts r.accesses = q.lines ∙ text-fields in
      let line = ap (λ (ls : List (List (List ℕ))). get_or ls (suc j) []) same ∙ task-line-at r.head.form r.head.sets ts ts r.accesses j (omega (arith, long, h)) in
      let small = line-small r.head.form q.head.form r.head.sets q.head.sets q.tasks q.tasks q.others (λ i b. work-small q.head.form q.head.sets q.tasks q.passed.tasks i blank b) (get_or ts j blank) j line in
      rw (its-tasks r.head r.tasks r.accesses) (rw (scaled-place k r.tasks j) at small)

  pub works-fit : (result : Table) → read_text (table_text (scaled_by k table)) ≡ Ok result → FitsBy k table
  works-fit result e = subst (FitsBy k) (sym r.is) (lists-fit result e)
