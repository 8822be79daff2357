-- The measured run: the machine computes it, and antt the machine.
use Rattle.std.proofs.Common.{ℕ, zero, suc, ◌+◌, ◌-◌, ◌≤◌, ◌<◌, zero-le, arith, ◌≡◌, refl, sym, ap, subst₂, Bool, true, false, ◌&&◌, Result, Ok, codes, eqb, eqb-true, leb}
use Rattle.std.proofs.lemmas.Bool.{and_parts, false≢true, lt-leb}
use Rattle.cache.specs.Hex.{hex_digit, read_hex}
use Rattle.cache.specs.Field.{read_set}
use Rattle.cache.specs.Sets.{∅, ◌∪◌, size_below, size}
use Rattle.cache.specs.Counts.{nothing, of_set, ◌⊕◌, capped, ◌on◌, total_below, total}
use Rattle.cache.specs.Levels.{heights}
use Rattle.cache.specs.UsefulField.{read_useful, within_ways}
use Rattle.cache.specs.Words.{number_of, members, words_of}
use Rattle.search.specs.declared.demand.Response.{Response}
use Rattle.search.specs.declared.demand.Response.TheVariants.{Within}
use Rattle.texts.specs.declared.refusals.Refusal.{Refusal}
use Rattle.search.specs.Demand.{demand_of}
use Rattle.search.specs.Least.{first_of, least_of}
use Rattle.search.specs.Positions.{run, fold_by}
use Rattle.texts.specs.Cut.{up_to, lines}
use Rattle.texts.specs.Fields.{read_digits, read_number, has_shape, is_name}
use Rattle.texts.specs.Rows.{unless_fault}
use Rattle.table.specs.HeadLine.{is_head, read_form, head_in_range}
use Rattle.table.specs.TaskLine.{times_in_range, times_in_order, task_said, task_rows}
use Rattle.table.specs.AccessLine.{access_said, access_rows}
use Rattle.table.specs.Reading.{ended, first_blocked, unless_blocked, read_from, read_lines, read_text}
use Rattle.table.specs.Tables.{at, access_at}
use Rattle.table.proofs.AcceptedLaws.{accepted-table}
use Rattle.analysis.specs.Costs.{ucb_of, ecb_of, reloads_with}
use Rattle.analysis.specs.Analysis.{counted_response, response_of}
use Rattle.crpd.specs.Operations.{answer_to}
use Rattle.crpd.specs.Meanings.{ReadsAs}
use Rattle.runs.specs.Sums.{sum, one}
use Rattle.runs.specs.model.Cache.{is_in, without, content_at, used_since}
use Rattle.runs.specs.machine.Chooser.{first_job, first_task}
use Rattle.runs.specs.machine.Programs.{uses_from, finds_in_program, AccessFair, ProgramsKept}
use Rattle.runs.specs.machine.Turns.{state_at}
use Rattle.runs.proofs.SumLaws.{sum-split, sum-empty}
use Rattle.every_run.specs.TableRuns.{promised_access, system_of}
use Rattle.every_run.specs.Measured.{blocker_text, blocker_table, blocker_programs, AboveTheLengthAlone}
use Rattle.every_run.proofs.TableRuns.{machine-runs}

abbrev once : ℕ → ℕ → ℕ → ℕ → ℕ → Bool
once j n P c q = finds_in_program 1 blocker_programs (λ v. blocker_programs.program j n v c) j n P c q

-- no job uses a cache set after its third tick of work
later : (j n P c q : ℕ) → 3 ≤ q → one (once j n P c q) ≡ 0
later j n P c zero l = absurd (omega arith)
later j n P c (suc zero) l = absurd (omega arith)
later j n P c (suc (suc zero)) l = absurd (omega arith)
later j n P (suc c) (suc (suc (suc q))) l = refl
later zero n P zero (suc (suc (suc q))) l = refl
later (suc zero) n P zero (suc (suc (suc q))) l = refl
later (suc (suc zero)) n P zero (suc (suc (suc q))) l = refl
later (suc (suc (suc j))) n P zero (suc (suc (suc q))) l = refl

first-three : (j n P c p : ℕ) → sum (λ q. one (once j n P c q)) p ≤ sum (λ q. one (once j n P c q)) 3
first-three j n P c p =
    let f : ℕ → ℕ = λ q. one (once j n P c q) in
    let e : p + (3 + (p - 3) - p) ≡ 3 + (p - 3) = omega arith in
    omega (
      arith,
      sum-split f 3 (p - 3),
      sum-empty (λ q. f (3 + q)) (p - 3) (λ q h. later j n P c (3 + q) (omega arith)),
      sum-split f p (3 + (p - 3) - p),
      ap (λ (m : ℕ). sum f m) e,
    )

-- nothing is found before the tick from which on it is looked for
before : (a b c d : Bool) → c ≡ false → one (a && (b && (c && d))) ≡ 0
before true true c d e = rw e refl
before true false c d e = refl
before false b c d e = refl

too-soon : (used : ℕ → Bool) (n P c q : ℕ) → q < P → one (finds_in_program 1 blocker_programs used 2 n P c q) ≡ 0
too-soon used n P c q l = before _ _ (leb P q) _ (lt-leb P q l)

-- c finds its block again, once from any tick on, and a and b find none
found : (j n P c : ℕ) → sum (λ q. one (once j n P c q)) 3 ≤ ucb_of blocker_table j c
unfolding sum is_in without content_at used_since at heights nothing of_set ◌⊕◌ number_of members
found j n P (suc c) = zero-le
found zero n P zero = zero-le
found (suc zero) n P zero = zero-le
found (suc (suc zero)) n zero zero = omega arith
found (suc (suc zero)) n (suc zero) zero = omega arith
found (suc (suc zero)) n (suc (suc zero)) zero = omega arith
found (suc (suc zero)) n (suc (suc (suc P))) zero =
    let soon = too-soon (λ v. blocker_programs.program 2 n v 0) n (suc (suc (suc P))) 0 in
    omega (arith, soon 0 (omega arith), soon 1 (omega arith), soon 2 (omega arith))
found (suc (suc (suc j))) n P zero = zero-le

-- and so in the access
found-in : (n P c : ℕ) → sum (λ q. one (finds_in_program 1 blocker_programs (uses_from blocker_programs 2 n 0 c) 2 n P c q)) 3 ≤ (promised_access blocker_table 0).useful c
unfolding sum is_in without content_at used_since access_at heights nothing of_set ◌⊕◌ number_of members
found-in n P (suc c) = zero-le
found-in n zero zero = omega arith
found-in n (suc zero) zero = omega arith
found-in n (suc (suc zero)) zero = omega arith
found-in n (suc (suc (suc P))) zero =
    let soon = too-soon (uses_from blocker_programs 2 n 0 0) n (suc (suc (suc P))) 0 in
    omega (arith, soon 0 (omega arith), soon 1 (omega arith), soon 2 (omega arith))

fair-here : (n : ℕ) → AccessFair (system_of blocker_table 2) blocker_programs 2 n 0
unfolding sum is_in without content_at used_since access_at
fair-here n = record {
  known = omega arith;
  task = refl;
  ceiling = omega arith;
  some = omega arith;
  ends = omega arith;
  length = omega arith;
  useful = λ P c l. found-in n P c;
}

kept : ProgramsKept (system_of blocker_table 2) blocker_programs
unfolding at members number_of
kept = record {
  apart = apart;
  not_before = λ j n l. omega arith;
  not_after = λ j n l. omega arith;
  no_more = no_more;
  evicts = evicts;
  useful = λ j n P c p l d. omega (arith, first-three j n P c p, found j n P c);
  fair = fair;
}
  where
    apart : (j n : ℕ) → j < 3 → blocker_programs.arrives j n + (at blocker_table j).period.0 ≤ blocker_programs.arrives j (suc n)
    apart zero n l = omega arith
    apart (suc zero) n l = omega arith
    apart (suc (suc zero)) n l = omega arith
    apart (suc (suc (suc j))) n l = absurd (omega arith)

    no_more : (j n : ℕ) → j < 3 → blocker_programs.needs j n ≤ (at blocker_table j).work.0
    no_more zero n l = omega arith
    no_more (suc zero) n l = omega arith
    no_more (suc (suc zero)) n l = omega arith
    no_more (suc (suc (suc j))) n l = absurd (omega arith)

    evicts : (j n p c : ℕ) → blocker_programs.program j n p c ≡ true → ecb_of blocker_table j c ≡ true
    evicts j n p (suc c) e = absurd (false≢true e)
    evicts zero n p zero e = refl
    evicts (suc zero) n p zero e = absurd (false≢true e)
    evicts (suc (suc zero)) n p zero e = refl
    evicts (suc (suc (suc j))) n p zero e = absurd (false≢true e)

    fair : (j n p : ℕ) → (eqb j 2 && eqb p 0) ≡ true → AccessFair (system_of blocker_table 2) blocker_programs j n p
    fair j n p e =
        let v = and_parts (eqb j 2) (eqb p 0) e in
        subst₂ (λ (j p : ℕ). AccessFair (system_of blocker_table 2) blocker_programs j n p) (sym (eqb-true j 2 v.0)) (sym (eqb-true p 0 v.1)) (fair-here n)

reads : ReadsAs (blocker_text (codes "1")) blocker_table
unfolding up_to lines read_digits read_number has_shape is_name hex_digit read_hex read_set words_of unless_fault head_in_range times_in_range times_in_order task_said task_rows access_said access_rows ended first_blocked unless_blocked read_from read_lines read_text is_head read_form read_useful within_ways
reads = refl

length-alone : (m : ℕ) → 2 ≤ m → m ≤ 5 → ◌≡◌ {A = Result Response Refusal} (answer_to (blocker_text (codes "0")) m 1) (Ok (Within (record { 0 = 5 })))
unfolding answer_to up_to lines read_digits read_number has_shape is_name hex_digit read_hex read_set words_of unless_fault head_in_range times_in_range times_in_order task_said task_rows access_said access_rows ended first_blocked unless_blocked read_from read_lines read_text is_head read_form read_useful within_ways at demand_of first_of least_of run fold_by reloads_with counted_response response_of ∅ ◌∪◌ size_below size number_of members nothing of_set ◌⊕◌ capped ◌on◌ total_below total heights
length-alone zero h l = absurd (omega arith)
length-alone (suc zero) h l = absurd (omega arith)
length-alone (suc (suc zero)) h l = refl
length-alone (suc (suc (suc zero))) h l = refl
length-alone (suc (suc (suc (suc zero)))) h l = refl
length-alone (suc (suc (suc (suc (suc zero))))) h l = refl
length-alone (suc (suc (suc (suc (suc (suc m)))))) h l = absurd (omega arith)

answers : (m : ℕ) → 1 ≤ m → m ≤ 5 → ◌≡◌ {A = Result Response Refusal} (answer_to (blocker_text (codes "1")) m 1) (Ok (Within (record { 0 = 7 })))
unfolding answer_to up_to lines read_digits read_number has_shape is_name hex_digit read_hex read_set words_of unless_fault head_in_range times_in_range times_in_order task_said task_rows access_said access_rows ended first_blocked unless_blocked read_from read_lines read_text is_head read_form read_useful within_ways at demand_of first_of least_of run fold_by reloads_with counted_response response_of ∅ ◌∪◌ size_below size number_of members nothing of_set ◌⊕◌ capped ◌on◌ total_below total heights
answers zero h l = absurd (omega arith)
answers (suc zero) h l = refl
answers (suc (suc zero)) h l = refl
answers (suc (suc (suc zero))) h l = refl
answers (suc (suc (suc (suc zero)))) h l = refl
answers (suc (suc (suc (suc (suc zero))))) h l = refl
answers (suc (suc (suc (suc (suc (suc m)))))) h l = absurd (omega arith)

pub above-the-length-alone : AboveTheLengthAlone
unfolding sum is_in without content_at used_since first_job first_task state_at access_at at
above-the-length-alone = record {
  reads = reads;
  length-alone = length-alone;
  answers = answers;
  legal = machine-runs blocker_table (accepted-table (blocker_text (codes "1")) blocker_table reads) 2 blocker_programs kept;
  released = refl;
  unfinished = refl;
  finished = refl;
}
