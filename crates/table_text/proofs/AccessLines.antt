-- The line of an access: a line that says what is tested here is not refused and says the same again, and a line that is not refused is what is written of what it
-- says, which passes the tests.
use Rattle.std.proofs.Common.{◌≡◌, ℕ, ◌%◌, ◌≤◌, ◌<◌, true, false, List, [], ◌∷◌, length, get_or, refl, ap, ◌∙◌, arith, Ok, ltb-true, leb-true, lt-ltb, le-leb, ltb, leb, codes, ◌==◌, eqb-true}
use Rattle.std.proofs.lemmas.Slice.Eq.{bytes_eq-Decides}
use Rattle.std.proofs.lemmas.List.Sums.{position_or_len_is, passes_at_first}
use Rattle.std.specs.Prelude.{is_some, unwrap_or}
use Rattle.std.specs.List.{position_or_len}
use Rattle.std.proofs.lemmas.Bool.{not-false}
use Rattle.texts.specs.Cut.{fields, field, field_count}
use Rattle.texts.specs.Fields.{is_name, is_number, number, is_within}
use Rattle.cache.specs.declared.useful.Form.{Form}
use Rattle.cache.specs.UsefulField.{ways_of, read_useful, within_ways}
use Rattle.texts.specs.Rows.{unless_fault}
use Rattle.texts.proofs.RowLaws.{fine-row}
use Rattle.table.specs.declared.tasks.name.Name.{Name}
use Rattle.table.specs.declared.tasks.Task.{Task}
use Rattle.table.specs.Tasks.{name_text, pack_name, no_blocks, blank}
use Rattle.table.specs.Names.{has_name, is_filled}
use Rattle.table.proofs.Names.{name-kept}
use Rattle.table.proofs.LineLaws.{both, lies}
use Rattle.table.specs.declared.accesses.Access.{Access}
use Rattle.table.specs.AccessLine.{position_named, access_rows, access_said}
use Rattle.table.specs.Reading.{is_blocked, is_access_line}
use Rattle.writing.specs.Marks.{useful_text, useful_fits}
use Rattle.writing.proofs.UsefulFields.{useful-read, useful-within}
use Rattle.writing.proofs.UsefulReads.{useful-says}
use Rattle.table_text.specs.TableText.{access_fields}
use Rattle.table_text.specs.Tests.{is_entered}
use Rattle.table_text.proofs.Numbers.{number_read, number-text}
use Rattle.table_text.proofs.Lines.{AllPlain}
use Rattle.table_text.proofs.Plain.{number-plain, useful-plain, name-plain}
use Rattle.table_text.proofs.TaskLines.{filled-name, marks-are, five-of}

pub record EnteredHolds (form : Form) (sets count : ℕ) (a : Access) : Type 0 where
  pub lasts : is_within 1 250000000 a.lasts.0 ≡ true
  pub ucb : useful_fits form sets a.ucb ≡ true
  pub task : a.task < count
  pub ceiling : a.ceiling ≤ a.task

pub entered-holds : (form : Form) (sets count : ℕ) (a : Access) → is_entered form sets count a ≡ true → EnteredHolds form sets count a
unfolding is_entered
entered-holds form sets count a e =
    let p2 = both _ (leb a.ceiling a.task) e in
    let p1 = both _ (ltb a.task count) p2.0 in
    let p0 = both (is_within 1 250000000 a.lasts.0) (useful_fits form sets a.ucb) p1.0 in
    record { lasts = p0.0; ucb = p0.1; task = ltb-true _ _ p1.1; ceiling = leb-true _ _ p2.1 }

-- each of these tasks has a name, and no other has it
pub record Named (ts : List Task) : Type 0 where
  pub filled : (k : ℕ) → k < length ts → is_filled (get_or ts k blank).name ≡ true
  pub alone : (j k : ℕ) → j < k → k < length ts → has_name (get_or ts k blank).name (get_or ts j blank) ≡ false

pub own-position : (ts : List Task) → Named ts → (k : ℕ) → k < length ts → position_or_len (has_name (get_or ts k blank).name) ts ≡ k
own-position ts n k h =
    position_or_len_is (has_name (get_or ts k blank).name) ts k blank (omega arith) (λ j b. n.alone j k b h)
    (λ _. (bytes_eq-Decides (get_or ts k blank).name.bytes (get_or ts k blank).name.bytes).1 refl)

module _ (form : Form) (w : ways_of form ≤ 8) (sets : ℕ) (few : sets ≤ 256) (by-four : sets % 4 ≡ 0) (ts : List Task) where
  -- a line with these fields says this access, and is not refused
  module _ (named : Named ts) (a : Access) (h : EnteredHolds form sets (length ts) a) where
    task-filled : is_filled (get_or ts a.task blank).name ≡ true
    task-filled = named.filled a.task h.task

    under : a.ceiling < length ts
    under = omega (arith, h.task, h.ceiling)

    ceiling-filled : is_filled (get_or ts a.ceiling blank).name ≡ true
    ceiling-filled = named.filled a.ceiling under

    pub access-plain : AllPlain (access_fields form sets ts a)
    access-plain = (refl, (name-plain _ (filled-name _ task-filled).0, (name-plain _ (filled-name _ ceiling-filled).0, (number-plain _, (useful-plain form sets a.ucb, tt)))))

    at-task : position_named ts (name_text (get_or ts a.task blank).name) ≡ a.task
    at-task = ap (λ (n : Name). position_or_len (has_name n) ts) (filled-name _ task-filled).1 ∙ own-position ts named a.task h.task

    at-ceiling : position_named ts (name_text (get_or ts a.ceiling blank).name) ≡ a.ceiling
    at-ceiling = ap (λ (n : Name). position_or_len (has_name n) ts) (filled-name _ ceiling-filled).1 ∙ own-position ts named a.ceiling under

    small : a.lasts.0 < 1000000000
    small = let l = lies 1 250000000 a.lasts.0 h.lasts in omega arith

    module _ (l : List ℕ) (f : fields l ≡ access_fields form sets ts a) where
      pub access-says : access_said form sets ts l ≡ a
      unfolding access_said
      access-says = rw (f, at-task, at-ceiling, number_read a.lasts.0 small, useful-read sets few by-four form a.ucb w h.ucb)

      pub access-free : is_blocked l ≡ false
      access-free = rw f refl

      pub access-fine : unless_fault (access_rows form sets ts l) (tt {0}) ≡ Ok (tt {0})
      unfolding access_rows unless_fault
      access-fine =
          rw (
            f,
            at-task,
            at-ceiling,
            (filled-name _ task-filled).0,
            (filled-name _ ceiling-filled).0,
            number_read a.lasts.0 small,
            h.lasts,
            useful-read sets few by-four form a.ucb w h.ucb,
            useful-within sets few by-four form a.ucb,
            lt-ltb a.task (length ts) h.task,
            le-leb a.ceiling a.task h.ceiling,
          )

  -- a line that is not refused
  module _ (l : List ℕ) (e : unless_fault (access_rows form sets ts l) (tt {0}) ≡ Ok (tt {0})) where
    record Rows : Type 0 where
      five : (field_count l == 5) ≡ true
      name : is_name (field 1 l) ≡ true
      of-ceiling : is_name (field 2 l) ≡ true
      numeral : is_number (field 3 l) ≡ true
      lasts : is_within 1 250000000 (number (field 3 l)) ≡ true
      marks : is_some (read_useful form sets (field 4 l)) ≡ true
      few-blocks : within_ways form (field 4 l) ≡ true
      task : ltb (position_named ts (field 1 l)) (length ts) ≡ true
      ceiling : leb (position_named ts (field 2 l)) (position_named ts (field 1 l)) ≡ true

    rows : Rows
    unfolding access_rows
    rows =
        let r1 = fine-row _ _ _ _ _ e in
        let r2 = fine-row _ _ _ _ _ r1.1 in
        let r3 = fine-row _ _ _ _ _ r2.1 in
        let r4 = fine-row _ _ _ _ _ r3.1 in
        let r5 = fine-row _ _ _ _ _ r4.1 in
        let r6 = fine-row _ _ _ _ _ r5.1 in
        let r7 = fine-row _ _ _ _ _ r6.1 in
        let r8 = fine-row _ _ _ _ _ r7.1 in
        let r9 = fine-row _ _ _ _ _ r8.1 in
        record {
          five = not-false _ r1.0;
          name = not-false _ r2.0;
          of-ceiling = not-false _ r3.0;
          numeral = not-false _ r4.0;
          lasts = not-false _ r5.0;
          marks = not-false _ r6.0;
          few-blocks = not-false _ r7.0;
          task = not-false _ r8.0;
          ceiling = not-false _ r9.0;
        }

    ucb-says : (useful_fits form sets (unwrap_or (read_useful form sets (field 4 l)) no_blocks) ≡ true) × (field 4 l ≡ useful_text form sets (unwrap_or (read_useful form sets (field 4 l)) no_blocks))
    ucb-says = useful-says sets few by-four form (field 4 l) _ w (marks-are no_blocks _ rows.marks) rows.few-blocks

    within : (position_named ts (field 1 l) < length ts) × (position_named ts (field 2 l) ≤ position_named ts (field 1 l))
    within = (ltb-true _ _ rows.task, leb-true _ _ rows.ceiling)

    pub access-passes : is_entered form sets (length ts) (access_said form sets ts l) ≡ true
    unfolding is_entered access_said
    access-passes = rw (rows.lasts, ucb-says.0, rows.task, rows.ceiling) refl

    -- the position that was found for a name has that name
    found : (f : List ℕ) → is_name f ≡ true → position_named ts f < length ts → name_text (get_or ts (position_named ts f) blank).name ≡ f
    found f is h =
        let same = passes_at_first (has_name (pack_name f)) ts blank h in
        let bytes = (bytes_eq-Decides _ (pack_name f).bytes).0 same in
        ap (λ (s : List ℕ). name_text (record { bytes = s })) bytes ∙ name-kept f is

    pub access-is : is_access_line l ≡ true → fields l ≡ access_fields form sets ts (access_said form sets ts l)
    unfolding access_said
    access-is kind =
        let letter = (bytes_eq-Decides (field 0 l) (codes "A")).0 kind in
        let lasts : (1 ≤ number (field 3 l)) × (number (field 3 l) ≤ 250000000) = lies 1 250000000 _ rows.lasts in
        rw (
          found (field 1 l) rows.name within.0,
          found (field 2 l) rows.of-ceiling (omega (arith, within)),
          ← number-text (field 3 l) rows.numeral (omega arith),
          ← ucb-says.1,
        )
        (five-of (fields l) (eqb-true (field_count l) 5 rows.five) ∙ ap (λ (f : List ℕ). f ∷ field 1 l ∷ field 2 l ∷ field 3 l ∷ field 4 l ∷ []) letter)
