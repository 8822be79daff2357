-- How long the text of a scaled table is: no shorter where it is scaled by more.
use Rattle.std.proofs.Common.{◌≡◌, ℕ, suc, ◌+◌, ◌*◌, ◌/◌, ◌≤◌, ◌<◌, List, [], ◌∷◌, length, get_or, map, flat_map, refl, sym, ap, ap₂, ◌∙◌, arith, length-append, false, leb-true, le-leb}
use Rattle.std.proofs.Math.Decide.{dec_lt}
use Rattle.std.proofs.lemmas.Bool.{false≢true}
use Rattle.std.proofs.lemmas.List.Folds.{flat_map-map}
use Rattle.cache.specs.declared.useful.Form.{Form}
use Rattle.table.specs.declared.tasks.Task.{Task}
use Rattle.table.specs.Tasks.{blank}
use Rattle.table.specs.declared.accesses.Access.{Access}
use Rattle.table.specs.declared.Table.{Table}
use Rattle.table.specs.Tables.{tasks_of, at, accesses_of}
use Rattle.writing.specs.Text.{spelled}
use Rattle.writing.proofs.Spelling.{spelled_low, spelled_high, spelled_short, by_digits}
use Rattle.table_text.specs.TableText.{head_fields, access_fields, line_text, table_text}
use Rattle.table_text.specs.Readable.{Readable}
use Rattle.table_text.proofs.Lengths.{task_line, access_line, parts-length, task-length}
use Rattle.table_text.proofs.RoundTrip.{readable-short}
use Rattle.growth.specs.Scaling.{FitsBy, scaled_work, scaled_task, scaled_by}
use Rattle.growth.specs.Growth.{Bounds}
use Rattle.growth.specs.Tried.{text_fits}
use Rattle.growth.proofs.ScaledLaws.{scaled-tasks, work-mono}
use Rattle.growth.proofs.ScaledTexts.{same-accesses}
use Rattle.growth.proofs.BoundLaws.{Descends, bounds-whole}

-- ---- a number that is no smaller has no fewer digits

some-digit : (n : ℕ) → 1 ≤ length (spelled n)
some-digit =
    by_digits (λ n. 1 ≤ length (spelled n)) (λ n l. rw (spelled_low n l) (omega arith)) (λ n l h. rw (spelled_high n l, length-append) (omega arith))

digits-mono : (n m : ℕ) → m ≤ n → length (spelled m) ≤ length (spelled n)
digits-mono =
    by_digits (λ n. (m : ℕ) → m ≤ n → length (spelled m) ≤ length (spelled n)) (λ n l m h. rw (spelled_low m (omega arith), spelled_low n l) (omega arith))
    (λ n l ih m h.
    elim (dec_lt m 10) [
      | yes b ↦ rw (spelled_low m b) (omega (arith, some-digit n))
      | no b ↦ rw (spelled_high m (omega arith), spelled_high n l, length-append, length-append) (omega (arith, ih (m / 10) (omega arith)))
    ])

-- ---- the parts of the text

abbrev tasks_length : Form → ℕ → List Task → ℕ
tasks_length form sets ts = length (flat_map (task_line form sets) ts)

module _ (form : Form) (sets : ℕ) where
  task-mono : (k l : ℕ) → k ≤ l → (t : Task) → length (task_line form sets (scaled_task k t)) ≤ length (task_line form sets (scaled_task l t))
  task-mono k l h t =
      omega (
        arith,
        task-length form sets (scaled_task k t),
        task-length form sets (scaled_task l t),
        digits-mono (scaled_work l t.work.0) (scaled_work k t.work.0) (work-mono t.work.0 k l h),
      )

  tasks-mono : (k l : ℕ) → k ≤ l → (ts : List Task) → tasks_length form sets (map (scaled_task k) ts) ≤ tasks_length form sets (map (scaled_task l) ts)
  tasks-mono k l h [] = omega arith
  tasks-mono k l h (t ∷ ts) =
      omega (
        arith,
        length-append (task_line form sets (scaled_task k t)) (flat_map (task_line form sets) (map (scaled_task k) ts)),
        length-append (task_line form sets (scaled_task l t)) (flat_map (task_line form sets) (map (scaled_task l) ts)),
        task-mono k l h t,
        tasks-mono k l h ts,
      )

  -- a C has nine digits at most
  tasks-grow : (k : ℕ) (ts : List Task) → ((j : ℕ) → j < length ts → scaled_work k (get_or ts j blank).work.0 ≤ 250000000)
      → tasks_length form sets (map (scaled_task k) ts) ≤ tasks_length form sets ts + 8 * length ts
  tasks-grow k [] fits = omega arith
  tasks-grow k (t ∷ ts) fits =
      omega (
        arith,
        length-append (task_line form sets (scaled_task k t)) (flat_map (task_line form sets) (map (scaled_task k) ts)),
        length-append (task_line form sets t) (flat_map (task_line form sets) ts),
        task-length form sets (scaled_task k t),
        task-length form sets t,
        spelled_short 8 (scaled_work k t.work.0) (omega (arith, fits 0 (omega arith))),
        some-digit t.work.0,
        tasks-grow k ts (λ j h. fits (suc j) (omega arith)),
      )

  same-lines : (k : ℕ) (ts : List Task) (accesses : List Access)
      → flat_map (access_line form sets (map (scaled_task k) ts)) accesses ≡ flat_map (access_line form sets ts) accesses
  same-lines k ts accesses =
      sym (flat_map-map line_text (access_fields form sets (map (scaled_task k) ts)) accesses)
      ∙ ap (flat_map line_text) (same-accesses form k sets ts accesses)
      ∙ flat_map-map line_text (access_fields form sets ts) accesses

module _ (table : Table) where
  abbrev others : ℕ
  others =
      length (line_text (head_fields table.sets table.brt.0 table.form)) + length (flat_map (access_line table.form table.sets (tasks_of table)) (accesses_of table))

  text-length : length (table_text table) ≡ tasks_length table.form table.sets (tasks_of table) + others
  text-length = omega (arith, parts-length table)

  scaled-length : (k : ℕ) → length (table_text (scaled_by k table)) ≡ tasks_length table.form table.sets (map (scaled_task k) (tasks_of table)) + others
  unfolding scaled_by
  scaled-length k =
      let parts = rw (scaled-tasks k table, same-lines table.form table.sets k (tasks_of table) (accesses_of table)) at (parts-length (scaled_by k table)) in
      omega (arith, parts)

  pub text-mono : (k l : ℕ) → k ≤ l → length (table_text (scaled_by k table)) ≤ length (table_text (scaled_by l table))
  text-mono k l h = omega (arith, scaled-length k, scaled-length l, tasks-mono table.form table.sets k l h (tasks_of table))

  -- scaled by 1,000 thousandths the tasks are as they were
  whole-tasks : (ts : List Task) → map (scaled_task 1000) ts ≡ ts
  whole-tasks [] = refl
  whole-tasks (t ∷ ts) =
      let same : scaled_work 1000 t.work.0 ≡ t.work.0 = omega arith in
      ap₂ (λ (n : ℕ) (us : List Task).
      record {
        name = t.name;
        work = record { 0 = n };
        period = t.period;
        deadline = t.deadline;
        jitter = t.jitter;
        ucb = t.ucb;
        ecb = t.ecb;
      }
      ∷ us) same (whole-tasks ts)

  whole-length : length (table_text (scaled_by 1000 table)) ≡ length (table_text table)
  whole-length =
      scaled-length 1000 ∙ ap (λ (ts : List Task). tasks_length table.form table.sets ts + others) (whole-tasks (tasks_of table)) ∙ sym text-length

  pub text-grows : (k : ℕ) → FitsBy k table → length (tasks_of table) ≤ table.count → length (table_text (scaled_by k table)) ≤ length (table_text table) + 8 * table.count
  unfolding at
  text-grows k fits few =
      omega (arith, scaled-length k, text-length, tasks-grow table.form table.sets k (tasks_of table) (λ j h. fits j (omega (arith, few))), few)

  pub texts-descend : (n : ℕ) → Descends (text_fits table) n
  texts-descend n k l some h most e =
      le-leb _ _ (omega (arith, text-mono k l h, leb-true (length (table_text (scaled_by l table))) 16384 e))

  -- where it is no longer than one that is read at the most, the most is the bound
  pub texts-all : (n : ℕ) → length (table_text (scaled_by n table)) ≤ 16384 → Bounds (text_fits table) n n
  texts-all n short = bounds-whole (text_fits table) n (λ k some h. le-leb _ _ (omega (arith, text-mono k n h, short)))

  -- scaled by nothing it is no longer
  pub texts-some : (n : ℕ) → Readable table → text_fits table n ≡ false → 0 < n
  texts-some n readable e = elim (dec_lt 0 n) [
    | yes h ↦ h
    | no h ↦ absurd (false≢true (sym e ∙ le-leb _ _ (omega (arith, text-mono n 1000 (omega arith), whole-length, readable-short table readable))))
  ]

  -- up to its bound it is no longer, and scaled by 0 it is not, as it is not as it was
  pub texts-short : {n r : ℕ} → Readable table → Bounds (text_fits table) n r → length (table_text (scaled_by r table)) ≤ 16384
  texts-short {n} {r} readable b = elim (dec_lt 0 r) [
    | yes h ↦ leb-true (length (table_text (scaled_by r table))) 16384 (b.pass r h (omega arith))
    | no h ↦ omega (arith, text-mono r 1000 (omega arith), whole-length, readable-short table readable)
  ]
