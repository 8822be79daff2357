-- Line 1 and the line of a task: a line that says what is tested here is not refused and says the same again, and a line that is not refused is what is written of
-- what it says, which passes the tests.
use Rattle.std.proofs.Common.{◌≡◌, ℕ, ◌%◌, ◌≤◌, ◌<◌, Bool, true, false, not, ◌&&◌, ◌||◌, ◌⊎◌, inl, inr, List, [], ◌∷◌, length, get_or, refl, ap, ◌∙◌, arith, Option, Some, None, Ok, eqb-true, eqb, leb, ltb-false, codes, ◌==◌}
use Rattle.std.proofs.lemmas.Bool.{false≢true, not-false, not-true}
use Rattle.std.proofs.lemmas.Slice.Eq.{bytes_eq-Decides}
use Rattle.std.specs.Prelude.{is_some, unwrap_or, option_map, slice_get}
use Rattle.std.specs.Str.{bytes_eq}
use Rattle.texts.specs.Cut.{fields, field, field_count}
use Rattle.texts.specs.Fields.{is_of_kind, is_name, read_number, is_number, number, has_shape, is_within}
use Rattle.cache.specs.Field.{read_set}
use Rattle.cache.specs.declared.useful.Form.{Form}
use Rattle.cache.specs.declared.useful.Form.TheVariants.{Hex, Digits}
use Rattle.cache.specs.UsefulField.{ways_of, read_useful, within_ways}
use Rattle.texts.specs.Rows.{unless_fault}
use Rattle.texts.proofs.RowLaws.{fine-row}
use Rattle.table.specs.declared.tasks.name.Name.{Name}
use Rattle.table.specs.declared.tasks.Task.{Task}
use Rattle.table.specs.declared.tasks.head.Head.{Head}
use Rattle.table.specs.Tasks.{name_text, pack_name, no_sets, no_blocks}
use Rattle.table.specs.Names.{is_filled, knows}
use Rattle.table.specs.HeadLine.{is_head, ways_field, read_form, are_sets_in_range, head_in_range, head_rows, head_said}
use Rattle.table.specs.TaskLine.{times_in_range, times_in_order, task_rows, task_said, has_blocking}
use Rattle.table.specs.Reading.{is_blocked, is_task_line}
use Rattle.table.proofs.Names.{name-kept}
use Rattle.table.proofs.LineLaws.{both, lies, ranges, order}
use Rattle.writing.specs.Text.{spelled}
use Rattle.writing.specs.Marks.{marks_fit, useful_text, useful_fits}
use Rattle.writing.proofs.Fields.{marks-read, read_fits, read-text}
use Rattle.writing.proofs.UsefulFields.{useful-read, useful-within}
use Rattle.writing.proofs.UsefulReads.{useful-says}
use Rattle.table_text.specs.TableText.{ways_fields, head_fields, task_fields}
use Rattle.table_text.specs.Tests.{is_next}
use Rattle.table_text.proofs.Numbers.{number_read, number-text}
use Rattle.table_text.proofs.Lines.{AllPlain}
use Rattle.table_text.proofs.Plain.{number-plain, marks-plain, useful-plain, name-plain}

-- ---- names

-- a name that is filled up is what its text is packed to
pub filled-name : (n : Name) → is_filled n ≡ true → (is_name (name_text n) ≡ true) × (pack_name (name_text n) ≡ n)
unfolding is_filled
filled-name n e =
    let p = both (is_name (name_text n)) (bytes_eq (pack_name (name_text n)).bytes n.bytes) e in
    let bytes = (bytes_eq-Decides (pack_name (name_text n)).bytes n.bytes).0 p.1 in
    (p.0, λ i. record { bytes = bytes i })

-- and what a name is packed to is filled up
pub packed-filled : (f : List ℕ) → is_name f ≡ true → is_filled (pack_name f) ≡ true
unfolding is_filled
packed-filled f h = rw (name-kept f h, h) ((bytes_eq-Decides (pack_name f).bytes (pack_name f).bytes).1 refl)

-- ---- what a field says, where it says something

pub marks-are : {X : Type 0} (none : X) (r : Option X) → is_some r ≡ true → r ≡ Some (unwrap_or r none)
marks-are none (Some c) e = refl
marks-are none None e = absurd (false≢true e)

-- ---- shapes

-- of a line that has its kind's shape, the first field and the number of fields
pub shape-says : (letter : List ℕ) (n : ℕ) (line : List ℕ) → has_shape letter n line ≡ true → (field 0 line ≡ letter) × (field_count line ≡ n)
unfolding has_shape
shape-says letter n line e =
    let p = both (is_of_kind letter line) (eqb (field_count line) n) e in
    ((bytes_eq-Decides (field 0 line) letter).0 p.0, eqb-true (field_count line) n p.1)

-- a list of so many fields is these
pub three-of : (l : List (List ℕ)) → length l ≡ 3 → l ≡ get_or l 0 [] ∷ get_or l 1 [] ∷ get_or l 2 [] ∷ []
three-of [] h = absurd (omega arith)
three-of (a ∷ []) h = absurd (omega arith)
three-of (a ∷ b ∷ []) h = absurd (omega arith)
three-of (a ∷ b ∷ c ∷ []) h = refl
three-of (a ∷ b ∷ c ∷ d ∷ l) h = absurd (omega arith)

pub five-of : (l : List (List ℕ)) → length l ≡ 5 → l ≡ get_or l 0 [] ∷ get_or l 1 [] ∷ get_or l 2 [] ∷ get_or l 3 [] ∷ get_or l 4 [] ∷ []
five-of [] h = absurd (omega arith)
five-of (a ∷ []) h = absurd (omega arith)
five-of (a ∷ b ∷ l) h = ap (λ (m : List (List ℕ)). a ∷ b ∷ m) (three-of l (omega arith))

pub nine-of : (l : List (List ℕ)) → length l ≡ 9
    → l ≡ get_or l 0 [] ∷ get_or l 1 [] ∷ get_or l 2 [] ∷ get_or l 3 [] ∷ get_or l 4 [] ∷ get_or l 5 [] ∷ get_or l 6 [] ∷ get_or l 7 [] ∷ get_or l 8 [] ∷ []
nine-of [] h = absurd (omega arith)
nine-of (a ∷ []) h = absurd (omega arith)
nine-of (a ∷ b ∷ []) h = absurd (omega arith)
nine-of (a ∷ b ∷ c ∷ []) h = absurd (omega arith)
nine-of (a ∷ b ∷ c ∷ d ∷ l) h = ap (λ (m : List (List ℕ)). a ∷ b ∷ c ∷ d ∷ m) (five-of l (omega arith))

-- ---- line 1

head-small : (h : Head) → head_in_range h ≡ true
    → (h.sets < 1000000000) × (h.brt.0 < 1000000000) × (h.sets ≤ 256) × (h.sets % 4 ≡ 0) × (ways_of h.form ≤ 8)
unfolding head_in_range
head-small h e =
    let w = both _ _ e in
    let p = both _ _ w.0 in
    let q = both _ _ p.0 in
    let s = lies 4 256 h.sets q.0 in
    let b = lies 0 100000 h.brt.0 p.1 in
    (omega arith, omega arith, s.1, eqb-true _ _ q.1, (lies 1 8 _ w.1).1)

-- the sets of a table's line 1
pub few-sets : (h : Head) → head_in_range h ≡ true → h.sets ≤ 256
few-sets h e = (head-small h e).2

pub sets-by-four : (h : Head) → head_in_range h ≡ true → h.sets % 4 ≡ 0
sets-by-four h e = (head-small h e).3

pub few-ways : (h : Head) → head_in_range h ≡ true → ways_of h.form ≤ 8
few-ways h e = (head-small h e).4

ways-plain : (form : Form) → AllPlain (ways_fields form)
ways-plain Hex = tt
ways-plain (Digits ways) = (number-plain _, tt)

pub head-plain : (h : Head) → AllPlain (head_fields h.sets h.brt.0 h.form)
head-plain h = (refl, (number-plain _, (number-plain _, ways-plain h.form)))

-- the ways that are named are read
ways-read : (form : Form) (a b c : List ℕ) → ways_of form ≤ 8 → read_form (slice_get (a ∷ b ∷ c ∷ ways_fields form) 3) ≡ Some form
unfolding read_form
ways-read Hex a b c w = refl
ways-read (Digits ways) a b c w = let small : ways < 1000000000 = omega arith in rw (number_read ways small) refl

-- it has three fields or four
shape-of : (form : Form) (l b c : List ℕ) → fields l ≡ codes "K" ∷ b ∷ c ∷ ways_fields form → is_head l ≡ true
unfolding is_head has_shape
shape-of Hex l b c f = rw f refl
shape-of (Digits ways) l b c f = rw f refl

-- a line with these fields says this head, and is not refused
module _ (h : Head) (e : head_in_range h ≡ true) (l : List ℕ) (f : fields l ≡ head_fields h.sets h.brt.0 h.form) where
  pub head-says : head_said l ≡ h
  head-says = let s = head-small h e in rw (f, number_read h.sets s.0, number_read h.brt.0 s.1, ways-read h.form (codes "K") (spelled h.sets) (spelled h.brt.0) s.4)

  pub head-fine : unless_fault (head_rows l) (tt {0}) ≡ Ok (tt {0})
  unfolding unless_fault head_in_range
  head-fine =
      let s = head-small h e in
      let ways = both (are_sets_in_range h.sets && is_within 0 100000 h.brt.0) (is_within 1 8 (ways_of h.form)) e in
      let brt = both (are_sets_in_range h.sets) (is_within 0 100000 h.brt.0) ways.0 in
      rw (
        shape-of h.form l _ _ f,
        f,
        number_read h.sets s.0,
        number_read h.brt.0 s.1,
        ways-read h.form (codes "K") (spelled h.sets) (spelled h.brt.0) s.4,
        brt.0,
        brt.1,
        ways.1,
      )

-- a fourth field, if there is one
listed : Option (List ℕ) → List (List ℕ)
listed None = []
listed (Some f) = f ∷ []

-- is what is written of the form that it says
form-is : (o : Option (List ℕ)) → is_some (read_form o) ≡ true → ways_of (unwrap_or (read_form o) Hex) ≤ 8 → listed o ≡ ways_fields (unwrap_or (read_form o) Hex)
unfolding read_form listed
form-is None e w = refl
form-is (Some f) e w = go (read_number f) refl e w
  where
    go : (r : Option ℕ) → read_number f ≡ r → is_some (option_map Digits r) ≡ true → ways_of (unwrap_or (option_map Digits r) Hex) ≤ 8
        → f ∷ [] ≡ ways_fields (unwrap_or (option_map Digits r) Hex)
    go None q e w = absurd (false≢true e)
    go (Some n) q e w =
        let is : number f ≡ n = ap (λ (o : Option ℕ). unwrap_or o 0) q in
        ap (λ (s : List ℕ). s ∷ []) (number-text f (ap (λ (o : Option ℕ). is_some o) q) (omega (arith, is, w)) ∙ ap spelled is)

three-or-four : (l : List (List ℕ)) → (length l ≡ 3) ⊎ (length l ≡ 4) → l ≡ get_or l 0 [] ∷ get_or l 1 [] ∷ get_or l 2 [] ∷ listed (slice_get l 3)
unfolding listed
three-or-four [] (inl h) = absurd (omega arith)
three-or-four [] (inr h) = absurd (omega arith)
three-or-four (a ∷ []) (inl h) = absurd (omega arith)
three-or-four (a ∷ []) (inr h) = absurd (omega arith)
three-or-four (a ∷ b ∷ []) (inl h) = absurd (omega arith)
three-or-four (a ∷ b ∷ []) (inr h) = absurd (omega arith)
three-or-four (a ∷ b ∷ c ∷ []) h = refl
three-or-four (a ∷ b ∷ c ∷ d ∷ []) h = refl
three-or-four (a ∷ b ∷ c ∷ d ∷ g ∷ l) (inl h) = absurd (omega arith)
three-or-four (a ∷ b ∷ c ∷ d ∷ g ∷ l) (inr h) = absurd (omega arith)

head-shape : (l : List ℕ) → is_head l ≡ true → (field 0 l ≡ codes "K") × ((field_count l ≡ 3) ⊎ (field_count l ≡ 4))
unfolding is_head
head-shape l e = go (has_shape (codes "K") 3 l) refl e
  where
    go : (t : Bool) → has_shape (codes "K") 3 l ≡ t → (t || has_shape (codes "K") 4 l) ≡ true → (field 0 l ≡ codes "K") × ((field_count l ≡ 3) ⊎ (field_count l ≡ 4))
    go true q e = let s = shape-says (codes "K") 3 l q in (s.0, inl s.1)
    go false q e = let s = shape-says (codes "K") 4 l e in (s.0, inr s.1)

-- a line that is not refused
module _ (l : List ℕ) (e : unless_fault (head_rows l) (tt {0}) ≡ Ok (tt {0})) where
  record HeadRows : Type 0 where
    shape : is_head l ≡ true
    sets : is_number (field 1 l) ≡ true
    brt : is_number (field 2 l) ≡ true
    form : is_some (read_form (ways_field l)) ≡ true
    in-range : head_in_range (head_said l) ≡ true

  head-holds : HeadRows
  unfolding head_in_range
  head-holds =
      let r1 = fine-row _ _ _ _ _ e in
      let r2 = fine-row _ _ _ _ _ r1.1 in
      let r3 = fine-row _ _ _ _ _ r2.1 in
      let r4 = fine-row _ _ _ _ _ r3.1 in
      let r5 = fine-row _ _ _ _ _ r4.1 in
      let r6 = fine-row _ _ _ _ _ r5.1 in
      let r7 = fine-row _ _ _ _ _ r6.1 in
      let r8 = fine-row _ _ _ _ _ r7.1 in
      record {
        shape = not-false _ r2.0;
        sets = not-false _ r3.0;
        brt = not-false _ r4.0;
        form = not-false _ r5.0;
        in-range = rw (not-false _ r6.0, not-false _ r7.0, not-false _ r8.0) refl;
      }

  pub head-passes : head_in_range (head_said l) ≡ true
  head-passes = head-holds.in-range

  pub head-is : fields l ≡ head_fields (head_said l).sets (head_said l).brt.0 (head_said l).form
  head-is =
      let shape = head-shape l head-holds.shape in
      let s = head-small (head_said l) head-passes in
      rw (← number-text (field 1 l) head-holds.sets s.0, ← number-text (field 2 l) head-holds.brt s.1, ← form-is (ways_field l) head-holds.form s.4)
      (three-or-four (fields l) shape.1 ∙ ap (λ (f : List ℕ). f ∷ field 1 l ∷ field 2 l ∷ listed (ways_field l)) shape.0)

-- ---- the line of a task

pub record NextHolds (form : Form) (sets : ℕ) (above : List Task) (t : Task) : Type 0 where
  pub filled : is_filled t.name ≡ true
  pub in-range : times_in_range t ≡ true
  pub in_order : times_in_order t ≡ true
  pub ucb : useful_fits form sets t.ucb ≡ true
  pub ecb : marks_fit sets t.ecb ≡ true
  pub new-name : knows t.name above ≡ false

pub next-holds : (form : Form) (sets : ℕ) (above : List Task) (t : Task) → is_next form sets above t ≡ true → NextHolds form sets above t
unfolding is_next
next-holds form sets above t e =
    let p4 = both _ (not (knows t.name above)) e in
    let p3 = both _ (marks_fit sets t.ecb) p4.0 in
    let p2 = both _ (useful_fits form sets t.ucb) p3.0 in
    let p1 = both (is_filled t.name) _ p2.0 in
    let p0 = both (times_in_range t) (times_in_order t) p1.1 in
    record { filled = p1.0; in-range = p0.0; in_order = p0.1; ucb = p2.1; ecb = p3.1; new-name = not-true _ p4.1 }

-- the tests on its times, one by one
time-parts : (t : Task) → times_in_range t ≡ true
    → (is_within 1 250000000 t.work.0 ≡ true) × (is_within 1 250000000 t.period.0 ≡ true) × (is_within 1 250000000 t.deadline.0 ≡ true) × (is_within 0 250000000 t.jitter.0 ≡ true)
unfolding times_in_range
time-parts t e =
    let p2 = both _ (is_within 0 250000000 t.jitter.0) e in
    let p1 = both _ (is_within 1 250000000 t.deadline.0) p2.0 in
    let p0 = both (is_within 1 250000000 t.work.0) (is_within 1 250000000 t.period.0) p1.0 in
    (p0.0, p0.1, p1.1, p2.1)

order-parts : (t : Task) → times_in_order t ≡ true → (leb t.jitter.0 t.deadline.0 ≡ true) × (leb t.deadline.0 t.period.0 ≡ true)
unfolding times_in_order
order-parts t e = both (leb t.jitter.0 t.deadline.0) (leb t.deadline.0 t.period.0) e

pub task-plain : (form : Form) (sets : ℕ) (t : Task) → is_name (name_text t.name) ≡ true → AllPlain (task_fields form sets t)
task-plain form sets t h =
    (refl, (name-plain _ h, (number-plain _, (number-plain _, (number-plain _, (number-plain _, (number-plain _, (useful-plain form sets t.ucb, (marks-plain sets t.ecb, tt)))))))))

module _ (form : Form) (w : ways_of form ≤ 8) (sets : ℕ) (few : sets ≤ 256) (by-four : sets % 4 ≡ 0) where
  -- a line with these fields says this task, and is not refused
  module _ (above : List Task) (t : Task) (h : NextHolds form sets above t) (l : List ℕ) (f : fields l ≡ task_fields form sets t) where
    small : (t.work.0 < 1000000000) × (t.period.0 < 1000000000) × (t.deadline.0 < 1000000000) × (t.jitter.0 < 1000000000)
    small =
        let r = ranges t h.in-range in
        let o = order t h.in_order in
        (omega arith, omega arith, omega arith, omega arith)

    pub task-says : task_said form sets l ≡ t
    unfolding task_said
    task-says =
        let n = small in
        rw (
          f,
          (filled-name t.name h.filled).1,
          number_read t.work.0 n.0,
          number_read t.period.0 n.1,
          number_read t.deadline.0 n.2,
          number_read t.jitter.0 n.3,
          useful-read sets few by-four form t.ucb w h.ucb,
          marks-read sets few by-four t.ecb h.ecb,
        )

    pub task-free : is_blocked l ≡ false
    task-free = rw (f, number_read 0 (omega arith)) refl

    pub task-fine : unless_fault (task_rows form sets above l) (tt {0}) ≡ Ok (tt {0})
    unfolding task_rows unless_fault
    task-fine =
        let n = small in
        let r = time-parts t h.in-range in
        let o = order-parts t h.in_order in
        rw (
          f,
          (filled-name t.name h.filled).0,
          (filled-name t.name h.filled).1,
          number_read t.work.0 n.0,
          number_read t.period.0 n.1,
          number_read t.deadline.0 n.2,
          number_read t.jitter.0 n.3,
          number_read 0 (omega arith),
          useful-read sets few by-four form t.ucb w h.ucb,
          useful-within sets few by-four form t.ucb,
          marks-read sets few by-four t.ecb h.ecb,
          r.0,
          r.1,
          r.2,
          r.3,
          o.0,
          o.1,
          h.new-name,
        )

  -- a line that is not refused
  module _ (above : List Task) (l : List ℕ) (e : unless_fault (task_rows form sets above l) (tt {0}) ≡ Ok (tt {0})) where
    record Rows : Type 0 where
      nine : (field_count l == 9) ≡ true
      name : is_name (field 1 l) ≡ true
      work : is_number (field 2 l) ≡ true
      period : is_number (field 3 l) ≡ true
      deadline : is_number (field 4 l) ≡ true
      jitter : is_number (field 5 l) ≡ true
      blocking : is_number (field 6 l) ≡ true
      in-range : times_in_range (task_said form sets l) ≡ true
      ucb : is_some (read_useful form sets (field 7 l)) ≡ true
      ecb : is_some (read_set sets (field 8 l)) ≡ true
      within : within_ways form (field 7 l) ≡ true
      in_order : times_in_order (task_said form sets l) ≡ true
      new-name : knows (pack_name (field 1 l)) above ≡ false

    rows : Rows
    unfolding task_rows task_said times_in_range times_in_order
    rows =
        let r1 = fine-row _ _ _ _ _ e in
        let r2 = fine-row _ _ _ _ _ r1.1 in
        let r3 = fine-row _ _ _ _ _ r2.1 in
        let r4 = fine-row _ _ _ _ _ r3.1 in
        let r5 = fine-row _ _ _ _ _ r4.1 in
        let r6 = fine-row _ _ _ _ _ r5.1 in
        let r7 = fine-row _ _ _ _ _ r6.1 in
        let r8 = fine-row _ _ _ _ _ r7.1 in
        let r9 = fine-row _ _ _ _ _ r8.1 in
        let r10 = fine-row _ _ _ _ _ r9.1 in
        let r11 = fine-row _ _ _ _ _ r10.1 in
        let r12 = fine-row _ _ _ _ _ r11.1 in
        let r13 = fine-row _ _ _ _ _ r12.1 in
        let r14 = fine-row _ _ _ _ _ r13.1 in
        let r15 = fine-row _ _ _ _ _ r14.1 in
        let r16 = fine-row _ _ _ _ _ r15.1 in
        let r17 = fine-row _ _ _ _ _ r16.1 in
        let r18 = fine-row _ _ _ _ _ r17.1 in
        record {
          nine = not-false _ r1.0;
          name = not-false _ r2.0;
          work = not-false _ r3.0;
          period = not-false _ r4.0;
          deadline = not-false _ r5.0;
          jitter = not-false _ r6.0;
          blocking = not-false _ r7.0;
          in-range = rw (not-false _ r8.0, not-false _ r9.0, not-false _ r10.0, not-false _ r11.0) refl;
          ucb = not-false _ r13.0;
          ecb = not-false _ r14.0;
          within = not-false _ r15.0;
          in_order = rw (not-false _ r16.0, not-false _ r17.0) refl;
          new-name = r18.0;
        }

    sets-say : (read_useful form sets (field 7 l) ≡ Some (unwrap_or (read_useful form sets (field 7 l)) no_blocks)) × (read_set sets (field 8 l) ≡ Some (unwrap_or (read_set sets (field 8 l)) no_sets))
    sets-say = (marks-are no_blocks _ rows.ucb, marks-are no_sets _ rows.ecb)

    ucb-says : (useful_fits form sets (unwrap_or (read_useful form sets (field 7 l)) no_blocks) ≡ true) × (field 7 l ≡ useful_text form sets (unwrap_or (read_useful form sets (field 7 l)) no_blocks))
    ucb-says = useful-says sets few by-four form (field 7 l) _ w sets-say.0 rows.within

    pub task-passes : is_next form sets above (task_said form sets l) ≡ true
    unfolding is_next task_said
    task-passes =
        rw (
          packed-filled (field 1 l) rows.name,
          rows.in-range,
          rows.in_order,
          ucb-says.0,
          read_fits sets few by-four (field 8 l) _ sets-say.1,
          rows.new-name,
        )

    -- where its B is 0
    pub task-is : is_task_line l ≡ true → has_blocking l ≡ false → fields l ≡ task_fields form sets (task_said form sets l)
    unfolding task_said
    task-is kind free =
        let r = ranges (task_said form sets l) rows.in-range in
        let o = order (task_said form sets l) rows.in_order in
        let zero : number (field 6 l) ≡ 0 = let low = ltb-false 0 _ free in omega arith in
        let letter = (bytes_eq-Decides (field 0 l) (codes "T")).0 kind in
        rw (
          name-kept (field 1 l) rows.name,
          ← number-text (field 2 l) rows.work (omega arith),
          ← number-text (field 3 l) rows.period (omega arith),
          ← number-text (field 4 l) rows.deadline (omega arith),
          ← number-text (field 5 l) rows.jitter (omega arith),
          ← (number-text (field 6 l) rows.blocking (omega arith) ∙ ap spelled zero),
          ← ucb-says.1,
          ← read-text sets few by-four (field 8 l) _ sets-say.1,
        )
        (nine-of (fields l) (eqb-true (field_count l) 9 rows.nine)
        ∙ ap (λ (f : List ℕ). f ∷ field 1 l ∷ field 2 l ∷ field 3 l ∷ field 4 l ∷ field 5 l ∷ field 6 l ∷ field 7 l ∷ field 8 l ∷ []) letter)
