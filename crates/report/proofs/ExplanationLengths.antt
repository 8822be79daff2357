-- How long an explanation can be. C, the length of the access and the activations add up to no more than the need, so not all of them can be long.
use Rattle.std.proofs.Common.{ℕ, zero, suc, ◌+◌, ◌*◌, ◌≤◌, ◌<◌, zero-le, mul-le-mul_left, add-one, arith, ◌≡◌, refl, sym, ap, ◌∙◌, length, length-append}
use Rattle.std.proofs.Math.Decide.{dec_lt}
use Rattle.std.specs.Prelude.{List, [], ◌++◌, flat_map}
use Rattle.search.specs.declared.demand.Response.{Response}
use Rattle.search.specs.declared.demand.Response.TheVariants.{Within, Unschedulable}
use Rattle.search.specs.Positions.{run, hp, fold_by}
use Rattle.search.proofs.PositionLaws.{fold-none, fold_next}
use Rattle.search.proofs.DemandLaws.{ceil-most, sum-le}
use Rattle.table.specs.declared.tasks.Task.{Task}
use Rattle.table.specs.Tasks.{name_text, limit_of}
use Rattle.table.proofs.Names.{name-short}
use Rattle.table.specs.declared.accesses.Access.{Access}
use Rattle.table.specs.Accesses.{added_by}
use Rattle.table.specs.declared.Table.{Table}
use Rattle.table.specs.Tables.{ways_in, at}
use Rattle.table.specs.Accepted.{AcceptedTable}
use Rattle.analysis.specs.declared.costs.Charge.{Charge}
use Rattle.analysis.specs.declared.costs.Charge.TheVariants.{Victim, NoVictim}
use Rattle.analysis.specs.Costs.{reloads_in, reloads_with, ucb_of, ecb_of, charge_under}
use Rattle.analysis.proofs.CostLaws.{under-most}
use Rattle.analysis.specs.declared.costs.Single.{Single}
use Rattle.analysis.specs.declared.costs.Single.TheVariants.{None, EcbOnly, UcbOnly, UcbUnion, EcbUnion}
use Rattle.analysis.specs.declared.Method.{Method}
use Rattle.analysis.specs.declared.need.Need.{Need}
use Rattle.analysis.specs.Needs.{need_of}
use Rattle.writing.specs.Text.{spelled}
use Rattle.writing.proofs.Spelling.{spelled_short}
use Rattle.report.proofs.Lists.{flat_map-more}
use Rattle.report.specs.Explanation.{method_number, needed_text, need_line, activations_in, name_at, victim_text, reason_line, reason_lines, explanation_of}
use Rattle.report.specs.Explained.{adds_at, NeedInRange, IsBlocker, VictimBelow}
use Rattle.report.proofs.ExplanationParts.{nine-digits, needed-short, victim-below}
use Rattle.report.proofs.Ranges.{Needed, needed}
use Rattle.report.proofs.Truth.{explanation-adds-up}

-- how many digits a number can have, as it grows: seven cost a million, and each further one at least nine million
digits-cost : (n : ℕ) → n < 1000000000 → 9000000 * length (spelled n) ≤ 62000000 + n
digits-cost n h =
    elim (dec_lt n 1000000) [
      | yes l ↦ omega (arith, spelled_short 5 n l)
      | no l ↦
          elim (dec_lt n 10000000) [
            | yes k ↦ omega (arith, spelled_short 6 n k)
            | no k ↦
                elim (dec_lt n 100000000) [
                  | yes q ↦ omega (arith, spelled_short 7 n q)
                  | no q ↦ omega (arith, spelled_short 8 n h)
                ]
          ]
    ]

-- ---- one line

number-short : (m : Single) → method_number m < 10
number-short None = omega arith
number-short EcbOnly = omega arith
number-short UcbOnly = omega arith
number-short UcbUnion = omega arith
number-short EcbUnion = omega arith

need-length : (t : Task) (need : Need)
    → length (need_line t need)
    ≡ 8 + length (name_text t.name) + length (spelled (method_number need.method)) + length (needed_text need.time) + length (spelled (limit_of t))
    + length (spelled t.work.0) + length (spelled need.blocker.lasts.0)
unfolding need_line
need-length t need = simp length-append (omega arith)

reason-length : (table : Table) (R j : ℕ) (charge : Charge)
    → length (reason_line table R j charge)
    ≡ 6 + length (name_at table j) + length (spelled (activations_in R (at table j))) + length (spelled (reloads_in charge)) + length (victim_text table charge)
unfolding reason_line
reason-length table R j charge = simp length-append (omega arith)

-- ---- the lines of an accepted table

module _ (table : Table) (accepted : AcceptedTable table) (i : ℕ) (held : i < table.count) where
  named-short : (k : ℕ) → k < table.count → length (name_at table k) ≤ 12
  named-short k l = name-short (name_at table k) (accepted.tasks k l).name

  victim-short : (charge : Charge) → VictimBelow table.count charge → length (victim_text table charge) ≤ 12
  victim-short (Victim h) below = named-short h.victim below
  victim-short (NoVictim n) below = omega arith

  first-cost : (need : Need) → NeedInRange need → 9000000 * length (need_line (at table i) need) ≤ 475000000 + ((at table i).work.0 + need.blocker.lasts.0)
  first-cost need p =
      let t = at table i in
      let q = accepted.tasks i held in
      omega (
        arith,
        need-length t need,
        named-short i held,
        spelled_short 0 (method_number need.method) (number-short need.method),
        needed-short need.time p.time,
        nine-digits (limit_of t) (omega (arith, q.deadline, q.period)),
        digits-cost t.work.0 (omega (arith, q.work)),
        digits-cost need.blocker.lasts.0 (omega (arith, p.lasts)),
      )

  module _ (a : Access) (blocker : IsBlocker table i a) (m : Single) (R : ℕ) (soon : R ≤ 250000000) where
    line-cost : (j : ℕ) → j < i → 9000000 * length (reason_line table R j (charge_under table a m i j)) ≤ 368000000 + activations_in R (at table j)
    unfolding reloads_with
    line-cost j l =
        let t = at table j in
        let q = accepted.tasks j (omega arith) in
        let charge = charge_under table a m i j in
        let few : activations_in R t ≤ 500000000 = ceil-most (R + t.jitter.0) 500000000 t.period.0 q.period.0 (omega (arith, q.jitter, q.deadline, q.period)) in
        omega (
          arith,
          reason-length table R j charge,
          named-short j (omega arith),
          digits-cost (activations_in R t) (omega arith),
          spelled_short 3 (reloads_in charge) (omega (arith, under-most table a m i j accepted)),
          victim-short charge (victim-below (ways_in table) (ucb_of table) (ecb_of table) (added_by (ways_in table) a j) a.task table.count m i j l held blocker.task),
        )

    abbrev lines : ℕ → List ℕ
    lines n = flat_map (λ j. reason_line table R j (charge_under table a m i j)) (hp n)

    abbrev activated : ℕ → ℕ → ℕ
    activated own n = fold_by ◌+◌ own (λ j. activations_in R (at table j)) (hp n)

    lines_next : (n : ℕ) → length (lines (n + 1)) ≡ length (lines n) + length (reason_line table R n (charge_under table a m i n))
    lines_next n =
        ap length (sym (flat_map-more (λ j. reason_line table R j (charge_under table a m i j)) n)) ∙ length-append (lines n) _

    activated-next : (own n : ℕ) → activated own (n + 1) ≡ activated own n + activations_in R (at table n)
    activated-next own n = sym (fold_next ◌+◌ own (λ j. activations_in R (at table j)) 0 n _ _ zero-le refl refl)

    lines-cost : (own n : ℕ) → n ≤ i → 9000000 * length (lines n) + own ≤ 368000000 * n + activated own n
    unfolding run
    lines-cost own zero h = omega (arith, fold-none ◌+◌ own (λ j. activations_in R (at table j)) 0)
    lines-cost own (suc n) h =
        omega (arith, rw (add-one n) at (lines_next n), rw (add-one n) at (activated-next own n), lines-cost own n (omega arith), line-cost n (omega arith))

    -- an activation asks for a tick at least, so there are no more of them than what they add
    activated-most : (own : ℕ) → activated own i ≤ fold_by ◌+◌ own (adds_at table a m i R) (hp i)
    activated-most own =
        sum-le own (λ j. activations_in R (at table j)) (adds_at table a m i R) i
        (λ j l. omega (arith, mul-le-mul_left (activations_in R (at table j)) (work j l)))
      where
        work : (j : ℕ) → j < i → 1 ≤ (at table j).work.0 + table.brt.0 * reloads_in (charge_under table a m i j)
        work j l = omega (arith, (accepted.tasks j (omega arith)).work)

  -- no explanation is longer than 1,348 bytes
  pub explanation-short : (m : Method) → length (explanation_of table m i) ≤ 1348
  unfolding explanation_of
  explanation-short m = go (need_of table m i).time refl
    where
      need : Need
      need = need_of table m i

      of-need : Needed table i need
      of-need = needed table accepted i held m

      go : (r : Response) → need.time ≡ r → length (need_line (at table i) need ++ reason_lines table need.blocker need.method i r) ≤ 1348
      go (Within R) e =
          let own = (at table i).work.0 + need.blocker.lasts.0 in
          let soon : R.0 ≤ 250000000 = rw e at of-need.ranged.time in
          let sum = explanation-adds-up table accepted i held m R e in
          omega (
            arith,
            length-append (need_line (at table i) need) (lines need.blocker of-need.blocker need.method R.0 soon i),
            first-cost need of-need.ranged,
            lines-cost need.blocker of-need.blocker need.method R.0 soon own i (omega arith),
            activated-most need.blocker of-need.blocker need.method R.0 soon own,
            sum,
            accepted.few,
          )
      go Unschedulable e = omega (arith, length-append (need_line (at table i) need) [], first-cost need of-need.ranged, (accepted.tasks i held).work, of-need.ranged.lasts)
