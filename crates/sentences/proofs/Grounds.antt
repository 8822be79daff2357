-- What a need that is found gives: the grounds of its explanation, and a sum that adds up.
use Rattle.std.proofs.Common.{◌≡◌, ℕ, ◌+◌, ◌<◌, ◌≤◌, List, [], ◌∷◌, map, codes, ap, sym, subst, ◌∙◌, arith}
use Rattle.std.specs.Prelude.{sum_by}
use Rattle.std.proofs.lemmas.List.Sums.{sum_by-cons}
use Rattle.cache.specs.declared.units.Ticks.{Ticks}
use Rattle.search.specs.declared.demand.Response.TheVariants.{Within}
use Rattle.search.specs.Positions.{hp}
use Rattle.table.specs.declared.Table.{Table}
use Rattle.table.specs.Tables.{at}
use Rattle.table.specs.Accepted.{AcceptedTable}
use Rattle.analysis.specs.declared.costs.Charge.{Charge}
use Rattle.analysis.specs.BlockedRow.{ChargedUnder}
use Rattle.analysis.specs.declared.Method.{Method}
use Rattle.analysis.specs.declared.need.Need.{Need}
use Rattle.analysis.specs.Needs.{need_of}
use Rattle.report.specs.Explained.{sum_of}
use Rattle.report.proofs.Ranges.{Needed, needed}
use Rattle.report.proofs.Truth.{adds-up}
use Rattle.sentences.specs.declared.sums.Sum.{Sum}
use Rattle.sentences.specs.Sums.{Told, told_parts}
use Rattle.report.specs.Explanation.{name_at}
use Rattle.sentences.specs.Explained.{sum_part, task_part, need_parts, AddsUpTo, Grounds}
use Rattle.sentences.proofs.NeedParts.{ticks-told, folded}

module _ (table : Table) (accepted : AcceptedTable table) (i : ℕ) (held : i < table.count) (m : Method) (need : Need) (e : need ≡ need_of table m i) where
  pub of-need : Needed table i need
  of-need = subst (Needed table i) (sym e) (needed table accepted i held m)

  pub grounds : (time : Ticks) → need.time ≡ Within time → (row : List Charge) → ChargedUnder table need.blocker need.method i 0 row → Grounds table need i time.0 row
  grounds time within row charged =
      let soon : time.0 ≤ 250000000 = rw within at of-need.ranged.time in
      record { soon = soon; blocker = of-need.blocker; charged = charged }

  need-within : (time : Ticks) → need.time ≡ Within time → (need_of table m i).time ≡ Within time
  need-within time within = subst (λ (n : Need). n.time ≡ Within time) e within

  -- the parts come to the need
  together : (time : Ticks) → need.time ≡ Within time → sum_by (λ t. t.ticks) (need_parts table need i time.0) ≡ time.0
  together time within =
      let whole : sum_of table need i time.0 ≡ time.0 =
      subst (λ (n : Need). sum_of table n i time.0 ≡ time.0) (sym e) ((adds-up table accepted i held m).sum time (need-within time within)) in
      let own = sum_part (name_at table i) (codes "its own execution") (at table i).work.0 in
      let blocking = sum_part [] (codes "blocking") need.blocker.lasts.0 in
      let others = map (task_part table need i time.0) (hp i) in
      omega (
        arith,
        whole,
        folded ((at table i).work.0 + need.blocker.lasts.0) (task_part table need i time.0) (hp i),
        sum_by-cons (λ (t : Told). t.ticks) blocking others,
        sum_by-cons (λ (t : Told). t.ticks) own (blocking ∷ others),
      )

  pub adds-up-to : (time : Ticks) → need.time ≡ Within time → (shown : Sum) → told_parts shown.parts.items ≡ need_parts table need i time.0 → shown.whole ≡ time.0 → AddsUpTo table m i shown
  adds-up-to time within shown parts whole = record {
    together = ticks-told shown.parts.items ∙ ap (sum_by (λ (t : Told). t.ticks)) parts ∙ together time within ∙ sym whole;
    need = need-within time within ∙ ap (λ (n : ℕ). Within (record { 0 = n })) (sym whole);
    response = λ R answered.
        let same : Within R ≡ Within time = sym ((adds-up table accepted i held m).response R answered) ∙ need-within time within in
        let ticks : R ≡ time = cc in
        ap (λ (t : Ticks). t.0) ticks ∙ sym whole;
  }
