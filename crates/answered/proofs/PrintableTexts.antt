-- Each byte that is meant to be written is printable.
use Rattle.std.proofs.Common.{◌≡◌, ℕ, zero, suc, ◌-◌, Bool, true, false, List, [], ◌∷◌, ◌++◌, map, flat_map, refl, arith, Option, Some, None, Result, Ok, Err, codes}
use Rattle.std.proofs.lemmas.List.Concat.{flat_map-append}
use Rattle.std.proofs.lemmas.List.Elements.{recursion_from_All, All-from_get_or}
use Rattle.std.proofs.lemmas.List.Folds.{flat_map-map}
use Rattle.std.proofs.lemmas.List.Sums.{AllPass-from_list_all}
use Rattle.std.specs.List.{AllPass, AllByRecursion as ByRecursion, join_with_byte}
use Rattle.cache.specs.declared.units.Ticks.{Ticks}
use Rattle.cache.specs.declared.useful.Form.{Form}
use Rattle.cache.specs.declared.useful.Form.TheVariants.{Hex, Digits}
use Rattle.search.specs.declared.demand.Response.{Response}
use Rattle.search.specs.declared.demand.Response.TheVariants.{Within, Unschedulable}
use Rattle.search.specs.Positions.{between, hp}
use Rattle.texts.specs.Numbers.{reason_number}
use Rattle.texts.specs.declared.refusals.Refusal.{Refusal}
use Rattle.table.specs.declared.tasks.Task.{Task}
use Rattle.table.specs.Tasks.{name_text, limit_of, blank}
use Rattle.table.specs.declared.accesses.Access.{Access}
use Rattle.table.specs.declared.Table.{Table}
use Rattle.table.specs.Tables.{tasks_of, accesses_of, at}
use Rattle.table.specs.Reading.{then_read, read_text}
use Rattle.table.specs.Accepted.{AcceptedTable}
use Rattle.table.proofs.AcceptedLaws.{accepted-table}
use Rattle.analysis.specs.declared.costs.Charge.{Charge}
use Rattle.analysis.specs.declared.costs.Charge.TheVariants.{Victim, NoVictim}
use Rattle.analysis.specs.declared.costs.Single.{Single}
use Rattle.analysis.specs.Costs.{reloads_in, charge_under}
use Rattle.analysis.specs.declared.Method.{Method}
use Rattle.analysis.specs.declared.need.Need.{Need}
use Rattle.analysis.specs.Needs.{need_of}
use Rattle.analysis.specs.Analysis.{response_of, numbered}
use Rattle.analysis.specs.Verdict.{verdict}
use Rattle.writing.specs.Text.{spelled, yes_no}
use Rattle.writing.specs.Error.{error_text}
use Rattle.report.specs.Report.{answer_text, response_line, report_of, report_in}
use Rattle.report.specs.Verdicts.{method_numbers, verdict_line}
use Rattle.report.specs.Explanation.{needed_text, method_number, need_line, activations_in, victim_text, reason_line, reason_lines, explanation_of}
use Rattle.table_text.specs.TableText.{ways_fields, head_fields, task_fields, access_fields, line_text, table_text}
use Rattle.table_text.proofs.RoundTrip.{read-then-written}
use Rattle.growth.specs.Growth.{growth_of}
use Rattle.growth.specs.Scaling.{scaled_by}
use Rattle.claims.specs.declared.finding.Finding.{Finding}
use Rattle.claims.specs.declared.finding.Finding.TheVariants.{Bad, Open, Fine}
use Rattle.claims.specs.Findings.{finding_of}
use Rattle.claims.specs.Lists.{claims_in}
use Rattle.claims.specs.Told.{finding_word, finding_line, claim_at, finding_at, findings_text}
use Rattle.edf.specs.declared.Verdict.{Verdict}
use Rattle.edf.specs.declared.Verdict.TheVariants.{Yes, No}
use Rattle.crpd.specs.Operations.{method_named, position_in, answer_to, explanation_to, growth_to, text_scaled_by, scaled_to, edf_to, replay_to, printed_of, printed}
use Rattle.crpd.proofs.Growths.{grown-readable}
use Rattle.answered.specs.declared.Question.{Question}
use Rattle.answered.specs.declared.Question.TheVariants.{Report, Answer, Explain, Growth, Scaled, Edf, Replay}
use Rattle.answered.specs.Answered.{as_line, told_response, told_end, told_yes, bytes_for, bytes_checked}
use Rattle.writing.specs.Printable.{is_printable_byte}
use Rattle.endings.specs.Answered.{unless_refused}
use Rattle.endings.proofs.Written.{each-printable, then-printable}
use Rattle.writing.proofs.Printable.{Printable, append-printable, ended-printable, AllPrintable, flat_map-printable, map-printable, line-printable, joined-printable, number-printable, marks-printable, useful-printable, name-at-printable}

-- ---- what stands in a line

answer-printable : (a : Response) → Printable (answer_text a)
answer-printable (Within t) = number-printable t.0
answer-printable Unschedulable = refl

needed-printable : (a : Response) → Printable (needed_text a)
needed-printable (Within t) = number-printable t.0
needed-printable Unschedulable = refl

yes-no-printable : (b : Bool) → Printable (yes_no b)
yes-no-printable true = refl
yes-no-printable false = refl

word-printable : (f : Finding) → Printable (finding_word f)
word-printable Fine = refl
word-printable Open = refl
word-printable Bad = refl

error-printable : (e : Refusal) → Printable (error_text e)
unfolding error_text
error-printable e = line-printable (codes "E") (spelled (reason_number e.reason) ∷ spelled e.line ∷ []) refl (number-printable (reason_number e.reason), (number-printable e.line, tt))

fields-line : (fields : List (List ℕ)) → AllPrintable fields → Printable (line_text fields)
fields-line fields p = ended-printable (join_with_byte 9 fields) (joined-printable fields p)

lines-printable : (one other : List (List (List ℕ))) → Printable (flat_map line_text one) → Printable (flat_map line_text other) → Printable (flat_map line_text (one ++ other))
lines-printable one other p q = rw (flat_map-append line_text one other) (append-printable (flat_map line_text one) (flat_map line_text other) p q)

module _ (table : Table) (accepted : AcceptedTable table) where
  -- ---- a report

  response-line-printable : (answers : ℕ → Response) (i : ℕ) → Printable (response_line (at table i) answers)
  unfolding response_line
  response-line-printable answers i =
      line-printable (codes "R") (name_text (at table i).name ∷ spelled (limit_of (at table i)) ∷ map (λ m. answer_text (answers m)) method_numbers) refl
      (name-at-printable table accepted i, (number-printable (limit_of (at table i)), map-printable (λ m. answer_text (answers m)) (λ m. answer-printable (answers m)) method_numbers))

  verdict-line-printable : (answers : ℕ → ℕ → Response) → Printable (verdict_line table.count answers)
  unfolding verdict_line
  verdict-line-printable answers = line-printable (codes "V") (map (λ m. yes_no (verdict table.count (answers m))) method_numbers) refl
      (map-printable (λ m. yes_no (verdict table.count (answers m))) (λ m. yes-no-printable (verdict table.count (answers m))) method_numbers)

  report-printable : (answers : ℕ → ℕ → Response) → Printable (report_of table answers)
  unfolding report_of
  report-printable answers =
      append-printable (flat_map (λ i. response_line (at table i) (λ m. answers m i)) (between 0 table.count)) (verdict_line table.count answers)
      (flat_map-printable (λ i. response_line (at table i) (λ m. answers m i)) (λ i. response-line-printable (λ m. answers m i) i) (between 0 table.count)) (verdict-line-printable answers)

  -- ---- an explanation

  victim-printable : (charge : Charge) → Printable (victim_text table charge)
  victim-printable (Victim h) = name-at-printable table accepted h.victim
  victim-printable (NoVictim n) = refl

  need-line-printable : (i : ℕ) (need : Need) → Printable (need_line (at table i) need)
  unfolding need_line
  need-line-printable i need =
      line-printable (codes "X")
      (name_text (at table i).name
      ∷ spelled (method_number need.method)
      ∷ needed_text need.time
      ∷ spelled (limit_of (at table i))
      ∷ spelled (at table i).work.0
      ∷ spelled need.blocker.lasts.0
      ∷ []) refl (
        name-at-printable table accepted i,
        (
          number-printable (method_number need.method),
          (needed-printable need.time, (number-printable (limit_of (at table i)), (number-printable (at table i).work.0, (number-printable need.blocker.lasts.0, tt)))),
        ),
      )

  reason-line-printable : (R j : ℕ) (charge : Charge) → Printable (reason_line table R j charge)
  unfolding reason_line
  reason-line-printable R j charge =
      line-printable (codes "I") (name_text (at table j).name ∷ spelled (activations_in R (at table j)) ∷ spelled (reloads_in charge) ∷ victim_text table charge ∷ []) refl
      (name-at-printable table accepted j, (number-printable (activations_in R (at table j)), (number-printable (reloads_in charge), (victim-printable charge, tt))))

  reason-lines-printable : (a : Access) (m : Single) (i : ℕ) (time : Response) → Printable (reason_lines table a m i time)
  reason-lines-printable a m i (Within R) =
      flat_map-printable (λ j. reason_line table R.0 j (charge_under table a m i j)) (λ j. reason-line-printable R.0 j (charge_under table a m i j)) (hp i)
  reason-lines-printable a m i Unschedulable = refl

  explanation-printable : (m : Method) (i : ℕ) → Printable (explanation_of table m i)
  unfolding explanation_of
  explanation-printable m i =
      let need = need_of table m i in
      append-printable (need_line (at table i) need) (reason_lines table need.blocker need.method i need.time) (need-line-printable i need) (reason-lines-printable need.blocker need.method i need.time)

  -- ---- what is found of claims

  findings-printable : (m : Method) (claims : List Response) → Printable (findings_text table m claims)
  unfolding findings_text finding_line
  findings-printable m claims =
      flat_map-printable (finding_at table m claims)
      (λ i. line-printable (codes "C") (name_text (at table i).name ∷ finding_word (finding_of table m i (claim_at claims i)) ∷ []) refl
      (name-at-printable table accepted i, (word-printable (finding_of table m i (claim_at claims i)), tt))) (between 0 table.count)

  -- ---- the table's own text

  head-printable : AllPrintable (head_fields table.sets table.brt.0 table.form)
  head-printable = (refl, (number-printable table.sets, (number-printable table.brt.0, ways table.form)))
    where
      ways : (form : Form) → AllPrintable (ways_fields form)
      ways Hex = tt
      ways (Digits n) = (number-printable n, tt)

  task-line-printable : (t : Task) → Printable (name_text t.name) → Printable (line_text (task_fields table.form table.sets t))
  task-line-printable t named =
      fields-line (task_fields table.form table.sets t) (
        refl,
        (
          named,
          (
            number-printable t.work.0,
            (
              number-printable t.period.0,
              (
                number-printable t.deadline.0,
                (number-printable t.jitter.0, (number-printable 0, (useful-printable table.form accepted.ways.1 table.sets t.ucb, (marks-printable table.sets t.ecb, tt)))),
              ),
            ),
          ),
        ),
      )

  access-line-printable : (a : Access) → Printable (line_text (access_fields table.form table.sets (tasks_of table) a))
  unfolding at
  access-line-printable a =
      fields-line (access_fields table.form table.sets (tasks_of table) a)
      (refl, (name-at-printable table accepted a.task, (name-at-printable table accepted a.ceiling, (number-printable a.lasts.0, (useful-printable table.form accepted.ways.1 table.sets a.ucb, tt)))))

  tasks-named : ByRecursion (λ t. Printable (name_text t.name)) (tasks_of table)
  unfolding at
  tasks-named =
      recursion_from_All (λ (t : Task). Printable (name_text t.name)) (tasks_of table)
      (All-from_get_or (λ (t : Task). Printable (name_text t.name)) (tasks_of table) blank (λ i h. name-at-printable table accepted i))

  task-lines-printable : (ts : List Task) → ByRecursion (λ t. Printable (name_text t.name)) ts → Printable (flat_map line_text (map (task_fields table.form table.sets) ts))
  task-lines-printable [] p = refl
  task-lines-printable (t ∷ ts) p =
      append-printable (line_text (task_fields table.form table.sets t)) (flat_map line_text (map (task_fields table.form table.sets) ts)) (task-line-printable t p.0) (task-lines-printable ts p.1)

  access-lines-printable : (accesses : List Access) → Printable (flat_map line_text (map (access_fields table.form table.sets (tasks_of table)) accesses))
  access-lines-printable accesses =
      rw (flat_map-map line_text (access_fields table.form table.sets (tasks_of table)) accesses)
      (flat_map-printable (λ a. line_text (access_fields table.form table.sets (tasks_of table) a)) access-line-printable accesses)

  table-printable : Printable (table_text table)
  unfolding table_text
  table-printable =
      let heads = head_fields table.sets table.brt.0 table.form in
      let tasks = map (task_fields table.form table.sets) (tasks_of table) in
      let accesses = map (access_fields table.form table.sets (tasks_of table)) (accesses_of table) in
      append-printable (line_text heads) (flat_map line_text (tasks ++ accesses)) (fields-line heads head-printable)
      (lines-printable tasks accesses (task-lines-printable (tasks_of table) tasks-named) (access-lines-printable (accesses_of table)))

-- ---- what is written of a text

line-of-number : (n : ℕ) → Printable (as_line (spelled n))
line-of-number n = ended-printable (spelled n) (number-printable n)

response-printable : (a : Response) → Printable (told_response a)
response-printable (Within t) = line-of-number t.0
response-printable Unschedulable = refl

end-printable : (end : Option Ticks) → Printable (told_end end)
end-printable (Some t) = line-of-number t.0
end-printable None = refl

verdict-printable : (v : Verdict) → Printable (told_yes v)
verdict-printable Yes = refl
verdict-printable No = refl

printed-printable : (text : List ℕ) → Printable (printed text)
unfolding printed
printed-printable text = go (read_text text) refl
  where
    go : (read : Result Table Refusal) → read_text text ≡ read → Printable (printed_of (then_read read (λ table. Ok (report_in table))))
    go (Ok table) e = report-printable table (accepted-table text table e) (λ m. response_of table (numbered m))
    go (Err refusal) e = error-printable refusal

explained-printable : (text : List ℕ) (m p : ℕ) → Printable (unless_refused (λ lines. lines) (explanation_to text m p))
explained-printable text m p =
    then-printable (λ lines. lines) (method_named m) _ (λ method _.
    then-printable (λ lines. lines) (read_text text) _ (λ table read.
    then-printable (λ lines. lines) (position_in table p) _ (λ i _. explanation-printable table (accepted-table text table read) method i)))

-- a text that is read is that of its table
read-printable : (text : List ℕ) (table : Table) → read_text text ≡ Ok table → Printable text
read-printable text table read = rw (read-then-written text table read) (table-printable table (accepted-table text table read))

scaled-by-printable : (text : List ℕ) (table : Table) → read_text text ≡ Ok table → (m : Method) (k : ℕ) → k ≡ growth_of m table → Printable (text_scaled_by k table text)
scaled-by-printable text table read m zero e = read-printable text table read
scaled-by-printable text table read m (suc k) e =
    let grown = grown-readable table (text, read) m (suc k) e (λ z. omega arith) in
    table-printable (scaled_by (suc k) table) (accepted-table grown.0 (scaled_by (suc k) table) grown.1)

scaled-printable : (text : List ℕ) (m : ℕ) → Printable (unless_refused (λ table. table) (scaled_to text m))
unfolding scaled_to
scaled-printable text m =
    then-printable (λ lines. lines) (method_named m) _ (λ method _.
    then-printable (λ lines. lines) (read_text text) _ (λ table read. scaled-by-printable text table read method (growth_of method table) refl))

bytes-printable : (question : Question) (text : List ℕ) → Printable (bytes_for question text)
unfolding bytes_for
bytes-printable Report text = printed-printable text
bytes-printable (Answer m p) text = each-printable told_response response-printable (answer_to text m p)
bytes-printable (Explain m p) text = explained-printable text m p
bytes-printable (Growth m) text = each-printable (λ k. as_line (spelled k)) line-of-number (growth_to text m)
bytes-printable (Scaled m) text = scaled-printable text m
bytes-printable Edf text = each-printable told_yes verdict-printable (edf_to text)
bytes-printable (Replay p) text = each-printable told_end end-printable (replay_to text p)

checked-printable : (text list : List ℕ) (m : ℕ) → Printable (bytes_checked text list m)
checked-printable text list m =
    then-printable (λ lines. lines) (method_named m) _ (λ method _.
    then-printable (λ lines. lines) (read_text text) _ (λ table read.
    then-printable (λ lines. lines) (claims_in table list) _ (λ claims _. findings-printable table (accepted-table text table read) method claims)))

-- ---- so it passes the test, byte by byte

pub answer_passes : (question : Question) (text : List ℕ) → AllPass is_printable_byte (bytes_for question text)
answer_passes question text = AllPass-from_list_all is_printable_byte (bytes_for question text) (bytes-printable question text)

pub check_passes : (text list : List ℕ) (m : ℕ) → AllPass is_printable_byte (bytes_checked text list m)
check_passes text list m = AllPass-from_list_all is_printable_byte (bytes_checked text list m) (checked-printable text list m)
