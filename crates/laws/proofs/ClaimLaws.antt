-- What is found of claimed responses, beside our own.
use Rattle.std.proofs.Common.{ℕ, ◌≡◌, refl, sym, ap, ◌∙◌, arith}
use Rattle.search.specs.declared.demand.Response.{Response}
use Rattle.search.specs.declared.demand.Response.TheVariants.{Within, Unschedulable}
use Rattle.table.specs.declared.Table.{Table}
use Rattle.analysis.specs.declared.Method.{Method}
use Rattle.analysis.specs.Analysis.{response_of}
use Rattle.claims.specs.declared.finding.Finding.{Finding}
use Rattle.claims.specs.Findings.{finding_of, FindingMeans}
use Rattle.claims.proofs.FindingLaws.{none-open}
use Rattle.laws.specs.Claimed.{JudgedBesideOurs, FoundOfOurs}

pub judged-beside-ours : (table : Table) (m : Method) (i : ℕ) (claim : Response) (f : Finding) (ours : Response) → f ≡ finding_of table m i claim → ours ≡ response_of table m i
    → FindingMeans table m i claim f → JudgedBesideOurs table m i claim (record { found = f; ours = ours })
judged-beside-ours table m i claim f ours e is means = record {
  found_is = e;
  ours_is = is;
  fine-is-safe = λ R c g. let w = means.fine-is-safe R c g in (w.0, is ∙ w.1, w.2);
}

pub found-of-ours : (table : Table) (m : Method) (i : ℕ) (ours : Response) (f : Finding) → ours ≡ response_of table m i → f ≡ finding_of table m i ours
    → FindingMeans table m i ours f → FoundOfOurs table m i f
found-of-ours table m i (Within R) f is e means = record {
  found_is = e ∙ ap (finding_of table m i) is;
  not-bad = means.own-not-bad R refl (sym is);
  fine = λ Q q few. means.own-fine R refl (sym is) few;
}
found-of-ours table m i Unschedulable f is e means = record {
  found_is = e ∙ ap (finding_of table m i) is;
  not-bad = λ b. none-open table m i (sym e ∙ b);
  fine = λ Q q few. let z : ◌≡◌ {A = ℕ} 0 1 = cc in absurd (omega arith);
}
