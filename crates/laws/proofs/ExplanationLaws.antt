-- The need is the response where it is within the limit, and what explains it rests on nothing below its task.
use Rattle.std.proofs.Common.{ℕ, ◌<◌, List, ◌≡◌, sym, subst, ◌∙◌, Result}
use Rattle.table.specs.declared.Table.{Table}
use Rattle.table.specs.Accepted.{AcceptedTable}
use Rattle.analysis.specs.declared.Method.{Method}
use Rattle.analysis.specs.Analysis.{response_of}
use Rattle.analysis.specs.Needs.{need_of}
use Rattle.analysis.proofs.NeedLaws.{response-needed, need-responds}
use Rattle.laws.specs.declared.explanations.NeedAndResponse.{NeedAndResponse}
use Rattle.laws.specs.declared.explanations.TwoNeeds.{TwoNeeds}
use Rattle.laws.specs.declared.explanations.TwoExplanations.{TwoExplanations}
use Rattle.laws.specs.Calls.{CallsAgree, SameRoom}
use Rattle.crpd.specs.Meanings.{ReadsAs}
use Rattle.laws.specs.Explanations.{IsNeededAsAnswered, NeededAlike, ExplainedAlike}
use Rattle.laws.proofs.AnyWorker.{written-calls-agree}
use Rattle.laws.proofs.AddedTables.{added-same}
use Rattle.laws.proofs.SameExplained.{unowned-needs}
use Rattle.laws.proofs.TwoTexts.{explanations-same, added-names}
use Rattle.analysis.specs.Same.{SameNamesDownTo}
use Rattle.texts.specs.declared.refusals.Refusal.{Refusal}
use Rattle.crpd.specs.Operations.{WritesText, explanation_to}

-- ---- of one table

module _ (table : Table) (accepted : AcceptedTable table) (i : ℕ) (held : i < table.count) (m : Method) where
  pub needed-as-answered : (r : NeedAndResponse) → r.need ≡ need_of table m i → r.response ≡ response_of table m i → IsNeededAsAnswered table m i r
  needed-as-answered r e f = record {
    need_is = e;
    response_is = f;
    needed = λ R q. rw e (response-needed table accepted i held m R (sym f ∙ q));
    answered = λ R q h. f ∙ need-responds table accepted i held m R (rw e at q) h;
  }

-- ---- of two tables, and of two texts

pub needed-alike : (first second : Table) (m : Method) (i : ℕ) (r : TwoNeeds) → AcceptedTable first → AcceptedTable second → r.first ≡ need_of first m i → r.second ≡ need_of second m i
    → NeededAlike first second m i r
needed-alike first second m i r p q f s = record {
  first_is = f;
  second_is = s;
  same = λ h. rw (f, s) (unowned-needs i first second h m);
  above = λ n t h l. rw (f, s) (unowned-needs i first second (added-same n t first second h p q i l).same m);
}

pub explained-alike : (first second : List ℕ) (m i : ℕ) (before after before' after' : List ℕ) (r : TwoExplanations) → WritesText 1348 (explanation_to first m i) before r.first after
    → WritesText 1348 (explanation_to second m i) before' r.second after' → ExplainedAlike first second m i before after before' after' r
explained-alike first second m i before after before' after' r f s = record {
  first_is = f;
  second_is = s;
  same = λ a b p q h room. agree a b p q h room;
  above = λ n a b p q added l room. agree a b p q (added-names first second a b p q m i n added l) room;
}
  where
    agree : (a b : Table) → ReadsAs first a → ReadsAs second b → SameNamesDownTo i a b → SameRoom 1348 before before' → CallsAgree r.first r.second before after before' after'
    agree a b p q h room =
        written-calls-agree f
        (subst (λ (made : Result (List ℕ) Refusal). WritesText 1348 made before' r.second after') (sym (explanations-same first second a b p q m i h)) s) room
