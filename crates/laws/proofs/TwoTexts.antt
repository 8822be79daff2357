-- What is told of two texts whose tables are the same as far as a task, or of which the second has a task line more.
use Rattle.std.proofs.Common.{ℕ, ◌+◌, min, ◌≤◌, ◌<◌, arith, ◌≡◌, refl, sym, ap, subst, ◌∙◌, Bool, true, false, cond, ltb, leb, lt-ltb, le-ltb, leb-false, le-leb, List, Result, Ok, Err}
use Rattle.std.proofs.Math.Decide.{dec_lt}
use Rattle.std.proofs.lemmas.Bool.{false≢true, lt-leb}
use Rattle.std.proofs.lemmas.List.{length-take, get_or_past}
use Rattle.search.specs.declared.demand.Response.{Response}
use Rattle.search.specs.Least.{NoLater}
use Rattle.texts.specs.declared.refusals.Reason.TheVariants as reason
use Rattle.texts.specs.declared.refusals.Refusal.{Refusal}
use Rattle.texts.specs.Numbers.{untold}
use Rattle.table.specs.declared.tasks.Task.{Task}
use Rattle.table.specs.Tasks.{blank}
use Rattle.table.specs.declared.Table.{Table}
use Rattle.table.specs.Tables.{tasks_of, at}
use Rattle.table.specs.Reading.{then_read, read_text}
use Rattle.table.specs.Accepted.{AcceptedTable}
use Rattle.table.proofs.AcceptedLaws.{accepted-table}
use Rattle.analysis.specs.declared.Method.{Method}
use Rattle.analysis.specs.Same.{SameDownTo, SameNamesDownTo}
use Rattle.analysis.specs.Analysis.{response_of}
use Rattle.analysis.proofs.SameLaws.{response-same}
use Rattle.report.specs.Explanation.{explanation_of}
use Rattle.crpd.specs.Operations.{method_named, position_in, answer_to, explanation_to}
use Rattle.crpd.specs.Meanings.{ReadsAs}
use Rattle.laws.specs.Added.{place_after, LineAdded, NoSoonerWithMore}
use Rattle.laws.specs.declared.any_text.TwoAnswers.{TwoAnswers}
use Rattle.laws.proofs.AddedTables.{added-no-sooner, added-same, place-below, place-from, place-most, one-more}
use Rattle.laws.proofs.AddedTexts.{text-added}
use Rattle.laws.proofs.SameExplained.{explanation-same}

pub no-other : {A : Type 0} {x : A} {e : Refusal} → ◌≡◌ {A = Result A Refusal} (Ok x) (Err e) → ⊥
no-other e = let z : ◌≡◌ {A = ℕ} 0 1 = cc in omega arith

-- ---- what is asked of a text, whatever it is

abbrev asked : {X : Type 0} → List ℕ → (Table → Method → ℕ → X) → ℕ → ℕ → Result X Refusal
asked text F m i =
    then_read (method_named m)
    (λ method. then_read (read_text text)
    (λ table. then_read (position_in table i)
    (λ i. Ok (F table method i))))

-- of an accepted text
asked-of : {X : Type 0} (text : List ℕ) (table : Table) (F : Table → Method → ℕ → X) (m i : ℕ) → ReadsAs text table
    → asked text F m i ≡ then_read (method_named m) (λ method. then_read (position_in table i) (λ i. Ok (F table method i)))
asked-of text table F m i e =
    ap (λ (r : Result Table Refusal). then_read (method_named m) (λ method. then_read r (λ table. then_read (position_in table i) (λ i. Ok (F table method i))))) e

-- ---- the same as far as a task

-- an accepted table has a task just where one with work stands
held-or-not : (table : Table) → AcceptedTable table → (i : ℕ) → leb table.count i ≡ ltb (at table i).work.0 1
unfolding at
held-or-not table accepted i = elim (dec_lt i table.count) [
  | yes l ↦ lt-leb table.count i l ∙ sym (le-ltb (at table i).work.0 1 (accepted.tasks i l).work.0)
  | no l ↦
      (let none : (at table i).work.0 ≡ 0 = ap (λ (t : Task). t.work.0) (get_or_past (tasks_of table) i blank (omega (arith, length-take table.count table.tasks))) in
      le-leb table.count i (omega arith) ∙ sym (lt-ltb (at table i).work.0 1 (omega arith)))
]

module _ (first second : List ℕ) (a b : Table) (p : ReadsAs first a) (q : ReadsAs second b) (m i : ℕ) where
  asked-same : {X : Type 0} (F : Table → Method → ℕ → X) → at a i ≡ at b i → ((method : Method) → F a method i ≡ F b method i) → asked first F m i ≡ asked second F m i
  asked-same {X} F tasks same = asked-of first a F m i p ∙ by-method (method_named m) ∙ sym (asked-of second b F m i q)
    where
      counts : leb a.count i ≡ leb b.count i
      counts =
          held-or-not a (accepted-table first a p) i ∙ ap (λ (t : Task). ltb t.work.0 1) tasks ∙ sym (held-or-not b (accepted-table second b q) i)

      by-position : (method : Method) (t u : Bool) → t ≡ u
          → then_read (cond t (Err (untold reason.Position)) (Ok i)) (λ i. Ok (F a method i)) ≡ then_read (cond u (Err (untold reason.Position)) (Ok i)) (λ i. Ok (F b method i))
      by-position method true true e = refl
      by-position method false false e = ap Ok (same method)
      by-position method true false e = absurd (false≢true (sym e))
      by-position method false true e = absurd (false≢true e)

      by-method : (r : Result Method Refusal)
          → then_read r (λ method. then_read (position_in a i) (λ i. Ok (F a method i))) ≡ then_read r (λ method. then_read (position_in b i) (λ i. Ok (F b method i)))
      by-method (Ok method) = by-position method (leb a.count i) (leb b.count i) counts
      by-method (Err refusal) = refl

  pub answers-same : SameDownTo i a b → answer_to first m i ≡ answer_to second m i
  unfolding answer_to
  answers-same same = asked-same (λ table method i. response_of table method i) (same.tasks i (omega arith)) (λ method. response-same i a b same method)

  pub explanations-same : SameNamesDownTo i a b → explanation_to first m i ≡ explanation_to second m i
  explanations-same same =
      asked-same (λ table method i. explanation_of table method i) (same.same.tasks i (omega arith)) (λ method. explanation-same i a b same method)

  -- ---- with a task line more

  module _ (n : ℕ) (added : LineAdded n first second) where
    pub added-names : i < n → SameNamesDownTo i a b
    added-names above = let task = text-added n first second a b p q added in added-same n task.0 a b task.1 (accepted-table first a p) (accepted-table second b q) i above

    pub answers-no-sooner : (R : Response) → answer_to first m i ≡ Ok R → (S : Response) × (answer_to second m (place_after n i) ≡ Ok S) × NoLater R S
    unfolding answer_to
    answers-no-sooner R e = by-method (method_named m) refl (sym (asked-of first a F m i p) ∙ e)
      where
        F : Table → Method → ℕ → Response
        F table method i = response_of table method i

        there : ℕ
        there = place_after n i

        by-position : (method : Method) → method_named m ≡ Ok method → (t : Bool) → leb a.count i ≡ t
            → then_read (cond t (Err (untold reason.Position)) (Ok i)) (λ i. Ok (F a method i)) ≡ Ok R
            → (S : Response) × (answer_to second m there ≡ Ok S) × NoLater R S
        by-position method named true l f = absurd (no-other (sym f))
        by-position method named false l f =
            let held = leb-false a.count i l in
            let is : response_of a method i ≡ R = cc in
            let task = text-added n first second a b p q added in
            let within : there < b.count = omega (arith, place-most n i, one-more n task.0 a b task.1 (accepted-table first a p) (accepted-table second b q), held) in (
              response_of b method there,
              asked-of second b F m there q ∙ ap (λ (r : Result Method Refusal). then_read r (λ method. then_read (position_in b there) (λ i. Ok (F b method i)))) named
                  ∙ ap (λ (t : Bool). then_read (cond t (Err (untold reason.Position)) (Ok there)) (λ i. Ok (F b method i))) (lt-leb b.count there within),
              subst (λ (x : Response). NoLater x (response_of b method there)) is
                  (added-no-sooner n task.0 a b task.1 (accepted-table first a p) (accepted-table second b q) i held method),
            )

        by-method : (r : Result Method Refusal) → method_named m ≡ r → then_read r (λ method. then_read (position_in a i) (λ i. Ok (F a method i))) ≡ Ok R
            → (S : Response) × (answer_to second m there ≡ Ok S) × NoLater R S
        by-method (Ok method) named f = by-position method named (leb a.count i) refl f
        by-method (Err refusal) named f = absurd (no-other (sym f))

-- ---- past all tasks

-- no table has a task at 32 or below it, so that all such positions are refused alike
answers-past : (text : List ℕ) (m i k : ℕ) → 32 ≤ i → 32 ≤ k → answer_to text m i ≡ answer_to text m k
unfolding answer_to
answers-past text m i k h l = by-method (method_named m)
  where
    at-position : (table : Table) (method : Method) → AcceptedTable table → (n : ℕ) → 32 ≤ n
        → then_read (position_in table n) (λ n. Ok (response_of table method n)) ≡ Err (untold reason.Position)
    at-position table method accepted n past =
        ap (λ (t : Bool). then_read (cond t (Err (untold reason.Position)) (Ok n)) (λ n. Ok (response_of table method n))) (le-leb table.count n (omega (arith, accepted.few)))

    by-text : (method : Method) (r : Result Table Refusal) → read_text text ≡ r
        → then_read r (λ table. then_read (position_in table i) (λ i. Ok (response_of table method i)))
        ≡ then_read r (λ table. then_read (position_in table k) (λ i. Ok (response_of table method i)))
    by-text method (Ok table) e =
        let accepted = accepted-table text table e in
        at-position table method accepted i h ∙ sym (at-position table method accepted k l)
    by-text method (Err refusal) e = refl

    by-method : (r : Result Method Refusal)
        → then_read r (λ method. then_read (read_text text) (λ table. then_read (position_in table i) (λ i. Ok (response_of table method i))))
        ≡ then_read r (λ method. then_read (read_text text) (λ table. then_read (position_in table k) (λ i. Ok (response_of table method i))))
    by-method (Ok method) = by-text method (read_text text) refl
    by-method (Err refusal) = refl

-- ---- the answers around a line that is put in

module _ (first second : List ℕ) (p m i : ℕ) where
  pub with-more : (r : TwoAnswers) → r.first ≡ answer_to first m i → r.second ≡ answer_to second m (place_after p i) → NoSoonerWithMore first second p m i r
  with-more r f s = record {
    first_is = f;
    second_is = s;
    no_sooner = λ a b x y added R e. let w = answers-no-sooner first second a b x y m i p added R (sym f ∙ e) in (w.0, s ∙ w.1, w.2);
    above = λ a b x y added above.
        f ∙ answers-same first second a b x y m i (added-names first second a b x y m i p added above).same
        ∙ ap (answer_to second m) (sym (place-below p i above)) ∙ sym s;
  }

  -- where the task stands, as it is worked out: above, or one further down, but past the largest number there is no task
  pub told-above : (place : ℕ) → i < p → place ≡ i → answer_to second m place ≡ answer_to second m (place_after p i)
  told-above place l e = ap (answer_to second m) (e ∙ sym (place-below p i l))

  pub told-below : (place most : ℕ) → p ≤ i → 32 ≤ most → place ≡ min (i + 1) most → answer_to second m place ≡ answer_to second m (place_after p i)
  told-below place most l large e = elim (dec_lt (i + 1) most) [
    | yes few ↦ (let is : place ≡ i + 1 = omega arith in ap (answer_to second m) (is ∙ sym (place-from p i l)))
    | no many ↦ answers-past second m place (place_after p i) (omega arith) (omega (arith, place-from p i l))
  ]
