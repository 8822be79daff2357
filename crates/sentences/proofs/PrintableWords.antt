-- Each byte of an explanation in words is printable: phrase by phrase, sentence by sentence, and part by part of the sum.
use Rattle.std.proofs.Common.{ℕ, zero, suc, Bool, true, false, cond, ◌==◌, List, [], ◌++◌, length, flat_map, replicate, refl, codes}
use Rattle.std.proofs.lemmas.List.Folds.{list_all-append, flat_map-map}
use Rattle.std.proofs.lemmas.List.Sums.{AllPass-from_list_all}
use Rattle.std.specs.List.{AllPass}
use Rattle.cache.specs.declared.units.TheConstants.Ticks.{LONGEST}
use Rattle.search.specs.declared.demand.Response.{Response}
use Rattle.search.specs.declared.demand.Response.TheVariants.{Within, Unschedulable}
use Rattle.search.specs.Positions.{hp}
use Rattle.table.specs.Tasks.{limit_of}
use Rattle.table.specs.declared.Table.{Table}
use Rattle.table.specs.Tables.{at}
use Rattle.table.specs.Reading.{read_text}
use Rattle.table.specs.Accepted.{AcceptedTable}
use Rattle.table.proofs.AcceptedLaws.{accepted-table}
use Rattle.analysis.specs.declared.costs.Charge.{Charge}
use Rattle.analysis.specs.declared.costs.Charge.TheVariants.{Victim, NoVictim}
use Rattle.analysis.specs.declared.costs.Single.{Single}
use Rattle.analysis.specs.declared.costs.Single.TheVariants.{None, EcbOnly, UcbOnly, UcbUnion, EcbUnion}
use Rattle.analysis.specs.Costs.{reloads_in, charge_under}
use Rattle.analysis.specs.declared.Method.{Method}
use Rattle.analysis.specs.declared.Method.TheVariants.{Of, Combined}
use Rattle.analysis.specs.Analysis.{response_of}
use Rattle.analysis.specs.declared.need.Need.{Need}
use Rattle.analysis.specs.Needs.{need_of}
use Rattle.writing.specs.Text.{spelled}
use Rattle.report.specs.Explanation.{name_at}
use Rattle.methods.specs.Methods.{single_name, method_name}
use Rattle.crpd.specs.Operations.{method_named, position_in}
use Rattle.writing.specs.Printable.{is_printable_byte}
use Rattle.writing.proofs.Printable.{Printable, append-printable, flat_map-printable, number-printable, spaces-printable, name-at-printable}
use Rattle.endings.specs.Answered.{unless_refused}
use Rattle.endings.proofs.Written.{then-printable}
use Rattle.sentences.specs.declared.sums.Widths.{Widths}
use Rattle.sentences.specs.Phrases.{counted_words, ticks_words}
use Rattle.sentences.specs.Sentences.{response_sentence, need_words, no_response_sentence, answer_sentence, union_sentence, blocking_sentence, times_words, hit_words, reload_words, task_sentence, reason_sentences, sentences_of}
use Rattle.sentences.specs.Sums.{Told, sum_line, part_line, sum_text_in, sum_widths}
use Rattle.sentences.specs.Explained.{product_words, task_part, need_parts, need_sum_text, explanation_words, words_to}

-- ---- phrases

either-printable : (b : Bool) (s t : List ℕ) → Printable s → Printable t → Printable (cond b s t)
either-printable true s t p q = p
either-printable false s t p q = q

single-printable : (m : Single) → Printable (single_name m)
single-printable None = refl
single-printable EcbOnly = refl
single-printable UcbOnly = refl
single-printable UcbUnion = refl
single-printable EcbUnion = refl

method-printable : (m : Method) → Printable (method_name m)
method-printable (Of m) = single-printable m
method-printable Combined = refl

counted-printable : (n : ℕ) (what : List ℕ) → Printable what → Printable (counted_words n what)
unfolding counted_words
counted-printable n what p =
    append-printable (spelled n ++ what) (cond (n == 1) [] (codes "s")) (append-printable (spelled n) what (number-printable n) p) (either-printable (n == 1) [] (codes "s") refl refl)

ticks-printable : (n : ℕ) → Printable (ticks_words n)
ticks-printable n = counted-printable n (codes " tick") refl

need-printable : (needed : Response) → Printable (need_words needed)
need-printable (Within R) = ticks-printable R.0
need-printable Unschedulable = ticks-printable LONGEST

-- ---- sentences

module _ (m : Method) (name : List ℕ) (p : Printable name) where
  response-printable : (response limit : ℕ) → Printable (response_sentence m name response limit)
  unfolding response_sentence
  response-printable response limit = simp (list_all-append is_printable_byte, method-printable, p, ticks-printable) refl

  no-response-printable : (needed : Response) (limit : ℕ) → Printable (no_response_sentence m name needed limit)
  unfolding no_response_sentence
  no-response-printable needed limit = simp (list_all-append is_printable_byte, method-printable, p, need-printable needed, ticks-printable) refl

  answer-printable : (needed response : Response) (limit : ℕ) → Printable (answer_sentence m name needed response limit)
  answer-printable needed (Within R) limit = response-printable R.0 limit
  answer-printable needed Unschedulable limit = no-response-printable needed limit

union-printable : (m : Method) (union : Single) → Printable (union_sentence m union)
union-printable (Of m) union = refl
union-printable Combined union = simp (list_all-append is_printable_byte, single-printable union) refl

blocking-printable : (lasts : ℕ) → Printable (blocking_sentence lasts)
blocking-printable lasts = either-printable (lasts == 0) [] _ refl (simp (list_all-append is_printable_byte, ticks-printable lasts) refl)

times-printable : (n : ℕ) → Printable (times_words n)
unfolding times_words
times-printable n = either-printable (n == 1) _ _ refl (either-printable (n == 2) _ _ refl (simp (list_all-append is_printable_byte, number-printable n) refl))

module _ (table : Table) (accepted : AcceptedTable table) where
  hit-printable : (charge : Charge) → Printable (hit_words table charge)
  hit-printable (Victim h) = name-at-printable table accepted h.victim
  hit-printable (NoVictim n) = refl

  reload-printable : (charge : Charge) → Printable (reload_words table charge)
  unfolding reload_words
  reload-printable charge =
      either-printable (reloads_in charge == 0) [] _ refl (simp (
        list_all-append is_printable_byte,
        counted-printable (reloads_in charge) (codes " block reload") refl,
        hit-printable charge,
        ticks-printable,
        either-printable (reloads_in charge == 1) [] (codes " each") refl refl,
      ) refl)

  task-printable : (r j : ℕ) (charge : Charge) → Printable (task_sentence table r j charge)
  unfolding task_sentence
  task-printable r j charge = simp (list_all-append is_printable_byte, name-at-printable table accepted j, times-printable, ticks-printable, reload-printable) refl

  reasons-printable : (need : Need) (i : ℕ) (time : Response) → Printable (reason_sentences table need i time)
  reasons-printable need i (Within R) =
      append-printable (blocking_sentence need.blocker.lasts.0) _ (blocking-printable need.blocker.lasts.0)
      (flat_map-printable (λ j. task_sentence table R.0 j (charge_under table need.blocker need.method i j)) (λ j. task-printable R.0 j (charge_under table need.blocker need.method i j)) (hp i))
  reasons-printable need i Unschedulable = refl

  sentences-printable : (m : Method) (i : ℕ) → Printable (sentences_of table m i)
  sentences-printable m i =
      let need = need_of table m i in
      simp (
        list_all-append is_printable_byte,
        answer-printable m (name_at table i) (name-at-printable table accepted i) need.time (response_of table m i) (limit_of (at table i)),
        union-printable m need.method,
        reasons-printable need i need.time,
      ) refl

-- ---- sums

dashes-printable : (n : ℕ) → Printable (replicate n 45)
dashes-printable zero = refl
dashes-printable (suc n) = dashes-printable n

line-printable : (widths : Widths) (name words ticks : List ℕ) → Printable name → Printable words → Printable ticks → Printable (sum_line widths name words ticks)
unfolding sum_line
line-printable widths name words ticks p q r = simp (list_all-append is_printable_byte, p, q, r, spaces-printable) refl

sum-printable : (widths : Widths) (parts : List Told) (whole : ℕ) → Printable (flat_map (part_line widths) parts) → Printable (sum_text_in widths parts whole)
sum-printable widths parts whole p =
    simp (
      list_all-append is_printable_byte,
      p,
      line-printable widths [] [] (replicate (length (spelled whole)) 45) refl refl (dashes-printable (length (spelled whole))),
      line-printable widths (codes "together") [] (spelled whole) refl refl (number-printable whole),
    ) refl

module _ (table : Table) (accepted : AcceptedTable table) where
  product-printable : (r j : ℕ) (charge : Charge) → Printable (product_words table r j charge)
  unfolding product_words
  product-printable r j charge = simp (list_all-append is_printable_byte, number-printable) refl

  parts-printable : (widths : Widths) (need : Need) (i r : ℕ) → Printable (flat_map (part_line widths) (need_parts table need i r))
  parts-printable widths need i r =
      append-printable (line (name_at table i) (codes "its own execution") (at table i).work.0) _
      (line-printable widths (name_at table i) (codes "its own execution") (spelled (at table i).work.0) (name-at-printable table accepted i) refl (number-printable (at table i).work.0))
      (append-printable (line [] (codes "blocking") need.blocker.lasts.0) _
      (line-printable widths [] (codes "blocking") (spelled need.blocker.lasts.0) refl refl (number-printable need.blocker.lasts.0))
      (rw (flat_map-map (part_line widths) (task_part table need i r) (hp i)) (flat_map-printable (λ j. part_line widths (task_part table need i r j)) each (hp i))))
    where
      line : List ℕ → List ℕ → ℕ → List ℕ
      line name words ticks = sum_line widths name words (spelled ticks)

      each : (j : ℕ) → Printable (part_line widths (task_part table need i r j))
      each j =
          let part = task_part table need i r j in
          line-printable widths part.name part.words (spelled part.ticks) (name-at-printable table accepted j)
          (product-printable r j (charge_under table need.blocker need.method i j)) (number-printable part.ticks)

  need-sum-printable : (need : Need) (i : ℕ) (time : Response) → Printable (need_sum_text table need i time)
  need-sum-printable need i (Within R) =
      let parts = need_parts table need i R.0 in
      sum-printable (sum_widths parts R.0) parts R.0 (parts-printable (sum_widths parts R.0) need i R.0)
  need-sum-printable need i Unschedulable = refl

  explanation-printable : (m : Method) (i : ℕ) → Printable (explanation_words table m i)
  explanation-printable m i =
      let need = need_of table m i in
      append-printable (sentences_of table m i) (need_sum_text table need i need.time) (sentences-printable table accepted m i) (need-sum-printable need i need.time)

-- ---- all words that are meant

words-printable : (text : List ℕ) (m p : ℕ) → Printable (unless_refused (λ words. words) (words_to text m p))
unfolding words_to
words-printable text m p =
    then-printable (λ words. words) (method_named m) _ (λ method _.
    then-printable (λ words. words) (read_text text) _ (λ table read.
    then-printable (λ words. words) (position_in table p) _ (λ i _. explanation-printable table (accepted-table text table read) method i)))

pub words_pass : (text : List ℕ) (m p : ℕ) → AllPass is_printable_byte (unless_refused (λ words. words) (words_to text m p))
words_pass text m p = AllPass-from_list_all is_printable_byte (unless_refused (λ words. words) (words_to text m p)) (words-printable text m p)
