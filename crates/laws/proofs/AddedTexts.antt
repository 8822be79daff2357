-- A text with a task line put in: where both are accepted, its table is the other's with that task put in.
use Rattle.std.proofs.Common.{ℕ, zero, suc, ◌+◌, ◌%◌, ◌≤◌, ◌<◌, zero-le, arith, ◌≡◌, refl, sym, ap, ap₂, subst, ◌∙◌, Bool, true, false, cond, not, List, [], ◌∷◌, ◌++◌, map, length, get_or, length-append, Option, Some, None, Result, Ok, Err}
use Rattle.std.proofs.Math.Decide.{dec_lt}
use Rattle.std.proofs.Math.Seq.{take-length, drop-length}
use Rattle.std.specs.List.{insert, position_or_len, list_any}
use Rattle.std.proofs.lemmas.Bool.{false≢true}
use Rattle.std.proofs.lemmas.Slice.Eq.{bytes_eq-Decides}
use Rattle.std.proofs.lemmas.List.{map-append, get_or_append_left, get_or_at}
use Rattle.std.proofs.lemmas.List.Edits.{length-insert, get_or-insert_at, insert-append_left}
use Rattle.std.proofs.lemmas.List.Sums.{passes_at_first}
use Rattle.texts.specs.Cut.{field, lines}
use Rattle.texts.specs.declared.refusals.Refusal.{Refusal}
use Rattle.texts.specs.Rows.{unless_fault}
use Rattle.texts.proofs.RowLaws.{fine-row}
use Rattle.table.specs.declared.tasks.name.Name.{Name}
use Rattle.table.specs.declared.tasks.Task.{Task}
use Rattle.table.specs.declared.tasks.head.Head.{Head}
use Rattle.table.specs.Tasks.{pack_name, blank}
use Rattle.table.specs.Names.{has_name, knows}
use Rattle.table.specs.HeadLine.{head_rows, head_said}
use Rattle.table.specs.TaskLine.{task_said}
use Rattle.table.specs.declared.accesses.Access.{Access}
use Rattle.table.specs.AccessLine.{position_named, access_said}
use Rattle.table.specs.declared.Table.{Table}
use Rattle.table.specs.Tables.{new_table}
use Rattle.table.specs.Reading.{is_task_line, is_access_line, line_rows, with_line, text_rows, then_read, first_blocked, unless_blocked, read_from, read_below, read_lines, read_text}
use Rattle.table.proofs.Holds.{task-holds, access-holds}
use Rattle.table_text.proofs.TaskLines.{sets-by-four, head-passes}
use Rattle.table_text.proofs.Filled.{table_of, its-tasks, its-accesses, task-more, access-more}
use Rattle.table_text.proofs.Reading.{step-accepted, end-accepted}
use Rattle.laws.specs.Added.{place_after, moved_by, TaskAdded, LineAdded}
use Rattle.laws.proofs.AddedTables.{place-below, place-from}

-- ---- names

-- the first that passes a test stands at its place, where what is put in does not pass
position-place : {X : Type 0} (q : X → Bool) (x : X) → q x ≡ false → (p : ℕ) (xs : List X) → p ≤ length xs → position_or_len q (insert xs p x) ≡ place_after p (position_or_len q xs)
position-place q x e zero [] h = rw e (omega (arith, place-from 0 0 zero-le))
position-place q x e zero (y ∷ xs) h = rw e (omega (arith, place-from 0 (position_or_len q (y ∷ xs)) zero-le))
position-place q x e (suc p) [] h = absurd (omega arith)
position-place q x e (suc p) (y ∷ xs) h = go (q y) (position-place q x e p xs (omega arith))
  where
    go : (t : Bool) → position_or_len q (insert xs p x) ≡ place_after p (position_or_len q xs)
        → cond (not t) (1 + position_or_len q (insert xs p x)) 0 ≡ place_after (suc p) (cond (not t) (1 + position_or_len q xs) 0)
    go true same = sym (place-below (suc p) 0 (omega arith))
    go false same = ap (λ (k : ℕ). 1 + k) same ∙ further (position_or_len q xs)
      where
        further : (k : ℕ) → 1 + place_after p k ≡ place_after (suc p) (1 + k)
        further k = elim (dec_lt k p) [
          | yes l ↦ omega (arith, place-below p k l, place-below (suc p) (1 + k) (omega arith))
          | no l ↦ omega (arith, place-from p k (omega arith), place-from (suc p) (1 + k) (omega arith))
        ]

-- a name that is not known is none of the list
not-known : (n : Name) (ts : List Task) → knows n ts ≡ false → (k : ℕ) → k < length ts → has_name n (get_or ts k blank) ≡ false
not-known n [] e k h = absurd (omega arith)
not-known n (t ∷ ts) e k h = go (has_name n t) refl e k h (not-known n ts)
  where
    go : (b : Bool) → has_name n t ≡ b → list_any (has_name n) (t ∷ ts) ≡ false → (k : ℕ) → k < suc (length ts)
        → (knows n ts ≡ false → (k : ℕ) → k < length ts → has_name n (get_or ts k blank) ≡ false) → has_name n (get_or (t ∷ ts) k blank) ≡ false
    go true r e k h more = absurd (false≢true (sym (rw r at e)))
    go false r e zero h more = r
    go false r e (suc k) h more = more (rw r at e) k (omega arith)

own-name : (t : Task) → has_name t.name t ≡ true
own-name t = (bytes_eq-Decides t.name.bytes t.name.bytes).1 refl

-- ---- a line that is read, after the lists of a table

no-length : {X : Type 0} (l : List X) → length l ≡ 0 → l ≡ []
no-length [] h = refl
no-length (x ∷ l) h = absurd (omega arith)

module _ (h : Head) (by-four : h.sets % 4 ≡ 0) where
  record TaskRead (ts : List Task) (es : List Access) (l : List ℕ) : Type 0 where
    early : es ≡ []
    new-name : knows (task_said h.form h.sets l).name ts ≡ false
    adds : with_line (table_of h ts es) l ≡ table_of h (ts ++ (task_said h.form h.sets l ∷ [])) es

  task-read : (ts : List Task) (es : List Access) (l : List ℕ) → is_task_line l ≡ true → unless_fault (line_rows (table_of h ts es) l) (tt {0}) ≡ Ok (tt {0}) → TaskRead ts es l
  task-read ts es l e f =
      let p = task-holds (table_of h ts es) l by-four (rw e at f) in
      record { early = no-length es p.early; new-name = rw (its-tasks h ts es) at p.new-name; adds = rw e (task-more h ts es (task_said h.form h.sets l) p.room) }

  record AccessRead (ts : List Task) (es : List Access) (l : List ℕ) : Type 0 where
    task : position_named ts (field 1 l) < length ts
    ceiling : position_named ts (field 2 l) < length ts
    adds : with_line (table_of h ts es) l ≡ table_of h ts (es ++ (access_said h.form h.sets ts l ∷ []))

  access-read : (ts : List Task) (es : List Access) (l : List ℕ) → is_task_line l ≡ false → unless_fault (line_rows (table_of h ts es) l) (tt {0}) ≡ Ok (tt {0}) → AccessRead ts es l
  unfolding access_said
  access-read ts es l e f = go (is_access_line l) refl
    where
      go : (t : Bool) → is_access_line l ≡ t → AccessRead ts es l
      go true r =
          let p = access-holds (table_of h ts es) l by-four (rw (e, r) at f) in
          let a = rw (its-tasks h ts es) at p.access in
          record { task = a.task; ceiling = omega (arith, a.task, a.ceiling); adds = rw (e, its-tasks h ts es) (access-more h ts es (access_said h.form h.sets ts l) p.room) }
      go false r = absurd (false≢true (sym (fine-row _ _ _ _ _ (rw (e, r) at f)).0))

  -- ---- the two readings, from the line on that is put in

  module _ (p : ℕ) (t : Task) where
    record Beside (ts ts' : List Task) (es es' : List Access) : Type 0 where
      held : p ≤ length ts
      tasks : ts' ≡ insert ts p t
      accesses : es' ≡ map (moved_by p) es
      alone : (k : ℕ) → k < length ts → has_name t.name (get_or ts k blank) ≡ false

    -- a name of another task is found at its place
    name-place : (ts : List Task) → p ≤ length ts → ((k : ℕ) → k < length ts → has_name t.name (get_or ts k blank) ≡ false) → (f : List ℕ)
        → position_named ts f < length ts → position_named (insert ts p t) f ≡ place_after p (position_named ts f)
    name-place ts held alone f found = position-place (has_name (pack_name f)) t (go (has_name (pack_name f) t) refl) p ts held
      where
        k : ℕ
        k = position_named ts f

        go : (b : Bool) → has_name (pack_name f) t ≡ b → has_name (pack_name f) t ≡ false
        go false e = e
        go true e =
            let own = (bytes_eq-Decides t.name.bytes (pack_name f).bytes).0 e in
            let there = (bytes_eq-Decides (get_or ts k blank).name.bytes (pack_name f).bytes).0 (passes_at_first (has_name (pack_name f)) ts blank found) in
            absurd (false≢true (sym (alone k found) ∙ (bytes_eq-Decides (get_or ts k blank).name.bytes t.name.bytes).1 (there ∙ sym own)))

    beside-task : (ts ts' : List Task) (es es' : List Access) (l : List ℕ) → Beside ts ts' es es' → TaskRead ts' es' l
        → Beside (ts ++ (task_said h.form h.sets l ∷ [])) (ts' ++ (task_said h.form h.sets l ∷ [])) es es'
    beside-task ts ts' es es' l b r = record {
      held = omega (arith, length-append ts (u ∷ []), b.held);
      tasks = ap (λ (us : List Task). us ++ (u ∷ [])) b.tasks ∙ sym (insert-append_left ts (u ∷ []) p t b.held);
      accesses = b.accesses;
      alone = λ k m. elim (dec_lt k (length ts)) [
        | yes n ↦ ap (has_name t.name) (get_or_append_left ts (u ∷ []) blank k n) ∙ b.alone k n
        | no n ↦
            (let last : k ≡ length ts = omega (arith, length-append ts (u ∷ []), m) in
            ap (has_name t.name) (get_or_at ts u [] blank k (sym last)) ∙ other)
      ];
    }
      where
        u : Task
        u = task_said h.form h.sets l

        put : get_or ts' p blank ≡ t
        put = ap (λ (us : List Task). get_or us p blank) b.tasks ∙ get_or-insert_at ts p t blank b.held

        new : has_name u.name t ≡ false
        new = ap (has_name u.name) (sym put) ∙ not-known u.name ts' r.new-name p (omega (arith, ap length b.tasks, length-insert ts p t b.held, b.held))

        other : has_name t.name u ≡ false
        other = go (has_name t.name u) refl
          where
            go : (c : Bool) → has_name t.name u ≡ c → has_name t.name u ≡ false
            go false e = e
            go true e =
                let same = (bytes_eq-Decides u.name.bytes t.name.bytes).0 e in
                absurd (false≢true (sym new ∙ (bytes_eq-Decides t.name.bytes u.name.bytes).1 (sym same)))

    beside-access : (ts ts' : List Task) (es es' : List Access) (l : List ℕ) → Beside ts ts' es es' → AccessRead ts es l
        → Beside ts ts' (es ++ (access_said h.form h.sets ts l ∷ [])) (es' ++ (access_said h.form h.sets ts' l ∷ []))
    unfolding access_said
    beside-access ts ts' es es' l b r = record {
      held = b.held;
      tasks = b.tasks;
      accesses =
          ap₂ (λ (us : List Access) (a : Access). us ++ (a ∷ [])) b.accesses said
          ∙ sym (map-append (moved_by p) es (access_said h.form h.sets ts l ∷ []));
      alone = b.alone;
    }
      where
        place : (f : List ℕ) → position_named ts f < length ts → position_named ts' f ≡ place_after p (position_named ts f)
        place f found = ap (λ (us : List Task). position_named us f) b.tasks ∙ name-place ts b.held b.alone f found

        said : access_said h.form h.sets ts' l ≡ moved_by p (access_said h.form h.sets ts l)
        said =
            ap₂ (λ (task ceiling : ℕ). record (access_said h.form h.sets ts l) { task = task; ceiling = ceiling }) (place (field 1 l) r.task) (place (field 2 l) r.ceiling)

    -- what comes of it
    record Ended (a b : Table) : Type 0 where
      tasks : List Task
      tasks' : List Task
      accesses : List Access
      accesses' : List Access
      first : a ≡ table_of h tasks accesses
      second : b ≡ table_of h tasks' accesses'
      beside : Beside tasks tasks' accesses accesses'

    read-beside : (n n' : ℕ) (ts ts' : List Task) (es es' : List Access) (ls : List (List ℕ)) (a b : Table) → Beside ts ts' es es'
        → read_from n (table_of h ts es) ls ≡ Ok a → read_from n' (table_of h ts' es') ls ≡ Ok b → Ended a b
    unfolding read_from
    read-beside n n' ts ts' es es' [] a b w e e' = record {
      tasks = ts;
      tasks' = ts';
      accesses = es;
      accesses' = es';
      first = sym (end-accepted (table_of h ts es) e).1;
      second = sym (end-accepted (table_of h ts' es') e').1;
      beside = w;
    }
    read-beside n n' ts ts' es es' (l ∷ ls) a b w e e' =
        go (is_task_line l) refl (λ us us' fs fs' v d d'. read-beside (n + 1) (n' + 1) us us' fs fs' ls a b v d d')
      where
        x : Table
        x = table_of h ts es

        y : Table
        y = table_of h ts' es'

        q : (unless_fault (line_rows x l) (tt {0}) ≡ Ok (tt {0})) × (read_from (n + 1) (with_line x l) ls ≡ Ok a)
        q = step-accepted n (line_rows x l) (with_line x l) (λ table. read_from (n + 1) table ls) e

        q' : (unless_fault (line_rows y l) (tt {0}) ≡ Ok (tt {0})) × (read_from (n' + 1) (with_line y l) ls ≡ Ok b)
        q' = step-accepted n' (line_rows y l) (with_line y l) (λ table. read_from (n' + 1) table ls) e'

        More : Type 0
        More =
            (us us' : List Task) (fs fs' : List Access) → Beside us us' fs fs' → read_from (n + 1) (table_of h us fs) ls ≡ Ok a
            → read_from (n' + 1) (table_of h us' fs') ls ≡ Ok b → Ended a b

        go : (c : Bool) → is_task_line l ≡ c → More → Ended a b
        go true k more =
            let r = task-read ts es l k q.0 in
            let r' = task-read ts' es' l k q'.0 in
            more _ _ es es' (beside-task ts ts' es es' l w r') (subst (λ (z : Table). read_from (n + 1) z ls ≡ Ok a) r.adds q.1)
            (subst (λ (z : Table). read_from (n' + 1) z ls ≡ Ok b) r'.adds q'.1)
        go false k more =
            let r = access-read ts es l k q.0 in
            let r' = access-read ts' es' l k q'.0 in
            more ts ts' _ _ (beside-access ts ts' es es' l w r) (subst (λ (z : Table). read_from (n + 1) z ls ≡ Ok a) r.adds q.1)
            (subst (λ (z : Table). read_from (n' + 1) z ls ≡ Ok b) r'.adds q'.1)

  -- ---- and from line 2 on

  module _ (p : ℕ) (l : List ℕ) (kind : is_task_line l ≡ true) where
    read-together : (n : ℕ) (ts : List Task) (es : List Access) (ls : List (List ℕ)) (q : ℕ) (a b : Table) → length ts + length es + q ≡ p → q ≤ length ls
        → read_from n (table_of h ts es) ls ≡ Ok a → read_from n (table_of h ts es) (insert ls q l) ≡ Ok b → Ended p (task_said h.form h.sets l) a b
    unfolding read_from
    read-together n ts es ls zero a b c few e e' =
        let x = table_of h ts es in
        let q' = step-accepted n (line_rows x l) (with_line x l) (λ table. read_from (n + 1) table ls) e' in
        let r = task-read ts es l kind q'.0 in
        let here : p ≡ length ts = omega (arith, c, ap length r.early) in
        let t = task_said h.form h.sets l in
        let put : (ts ++ (t ∷ [])) ≡ insert ts p t = sym (rw (here, take-length ts, drop-length ts) refl) in
        read-beside p t n (n + 1) ts (ts ++ (t ∷ [])) es es ls a b
        (record {
          held = omega arith;
          tasks = put;
          accesses = r.early ∙ sym (ap (map (moved_by p)) r.early);
          alone = λ k m. not-known t.name ts r.new-name k m;
        })
        e (subst (λ (z : Table). read_from (n + 1) z ls ≡ Ok b) r.adds q'.1)
    read-together n ts es [] (suc q) a b c few e e' = absurd (omega arith)
    read-together n ts es (m ∷ ls) (suc q) a b c few e e' =
        go (is_task_line m) refl (λ us fs d f f'. read-together (n + 1) us fs ls q a b d (omega arith) f f')
      where
        x : Table
        x = table_of h ts es

        s : (unless_fault (line_rows x m) (tt {0}) ≡ Ok (tt {0})) × (read_from (n + 1) (with_line x m) ls ≡ Ok a)
        s = step-accepted n (line_rows x m) (with_line x m) (λ table. read_from (n + 1) table ls) e

        s' : (unless_fault (line_rows x m) (tt {0}) ≡ Ok (tt {0})) × (read_from (n + 1) (with_line x m) (insert ls q l) ≡ Ok b)
        s' = step-accepted n (line_rows x m) (with_line x m) (λ table. read_from (n + 1) table (insert ls q l)) e'

        More : Type 0
        More =
            (us : List Task) (fs : List Access) → length us + length fs + q ≡ p → read_from (n + 1) (table_of h us fs) ls ≡ Ok a
            → read_from (n + 1) (table_of h us fs) (insert ls q l) ≡ Ok b → Ended p (task_said h.form h.sets l) a b

        go : (t : Bool) → is_task_line m ≡ t → More → Ended p (task_said h.form h.sets l) a b
        go true k more =
            let r = task-read ts es m k s.0 in
            more (ts ++ (task_said h.form h.sets m ∷ [])) es (omega (arith, c, length-append ts (task_said h.form h.sets m ∷ [])))
            (subst (λ (z : Table). read_from (n + 1) z ls ≡ Ok a) r.adds s.1) (subst (λ (z : Table). read_from (n + 1) z (insert ls q l) ≡ Ok b) r.adds s'.1)
        go false k more =
            let r = access-read ts es m k s.0 in
            more ts (es ++ (access_said h.form h.sets ts m ∷ [])) (omega (arith, c, length-append es (access_said h.form h.sets ts m ∷ [])))
            (subst (λ (z : Table). read_from (n + 1) z ls ≡ Ok a) r.adds s.1) (subst (λ (z : Table). read_from (n + 1) z (insert ls q l) ≡ Ok b) r.adds s'.1)

    ended-added : (a b : Table) → Ended p (task_said h.form h.sets l) a b → TaskAdded p (task_said h.form h.sets l) a b
    ended-added a b w =
        subst (λ (x : Table). TaskAdded p (task_said h.form h.sets l) x b) (sym w.first)
        (subst (λ (y : Table). TaskAdded p (task_said h.form h.sets l) (table_of h w.tasks w.accesses) y) (sym w.second)
        (record {
          sets = refl;
          brt = refl;
          form = refl;
          held = w.beside.held;
          tasks = its-tasks h w.tasks' w.accesses' ∙ w.beside.tasks ∙ ap (λ (ts : List Task). insert ts p (task_said h.form h.sets l)) (sym (its-tasks h w.tasks w.accesses));
          accesses = its-accesses h w.tasks' w.accesses' ∙ w.beside.accesses ∙ ap (map (moved_by p)) (sym (its-accesses h w.tasks w.accesses));
        }))

-- ---- whole texts

text-lines : (text : List ℕ) (table : Table) → read_text text ≡ Ok table → read_lines (lines text) ≡ Ok table
unfolding read_text
text-lines text table e = (step-accepted 0 (text_rows text) text (λ text. read_lines (lines text)) e).1

-- what is accepted is so before the column of zeros is looked at
unblocked : {table : Table} (r : Result Table Refusal) (first : Option ℕ) → then_read r (unless_blocked first) ≡ Ok table → r ≡ Ok table
unfolding unless_blocked
unblocked (Ok table) None e = e
unblocked (Ok table) (Some line) e = absurd (cc)
unblocked (Err refusal) first e = absurd (cc)

lines-added : (p : ℕ) (ls : List (List ℕ)) (l : List ℕ) (a b : Table) → is_task_line l ≡ true → p < length ls → read_lines ls ≡ Ok a → read_lines (insert ls (suc p) l) ≡ Ok b → (t : Task) × TaskAdded p t a b
unfolding read_lines
lines-added p [] l a b kind held e e' = absurd (omega arith)
lines-added p (m ∷ ls) l a b kind held e e' =
    let h = head_said m in
    let q = step-accepted 1 (head_rows m) (head_said m) (λ head. read_below (new_table head) ls) e in
    let q' = step-accepted 1 (head_rows m) (head_said m) (λ head. read_below (new_table head) (insert ls p l)) e' in
    let by-four = sets-by-four h (head-passes m q.0) in
    let s = unblocked (read_from 2 (new_table h) ls) (first_blocked 2 ls) q.1 in
    let s' = unblocked (read_from 2 (new_table h) (insert ls p l)) (first_blocked 2 (insert ls p l)) q'.1 in
    (task_said h.form h.sets l, ended-added h by-four p l kind a b (read-together h by-four p l kind 2 [] [] ls p a b (omega arith) (omega arith) s s'))

pub text-added : (p : ℕ) (first second : List ℕ) (a b : Table) → read_text first ≡ Ok a → read_text second ≡ Ok b → LineAdded p first second → (t : Task) × TaskAdded p t a b
text-added p first second a b e e' added =
    lines-added p (lines first) added.line a b added.kind added.held (text-lines first a e)
    (subst (λ (ls : List (List ℕ)). read_lines ls ≡ Ok b) added.lines (text-lines second b e'))
