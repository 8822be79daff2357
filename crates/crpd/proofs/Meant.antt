-- What the answers of the operations mean follows from which they are.
use Rattle.std.proofs.Common.{ℕ, List, ◌≡◌, refl, ◌∙◌, Option, Result}
use Rattle.std.proofs.lemmas.Bool.{le-ltb, lt-leb}
use Rattle.search.specs.declared.demand.Response.{Response}
use Rattle.texts.specs.declared.refusals.Refusal.{Refusal}
use Rattle.analysis.specs.Analysis.{response_of, numbered}
use Rattle.analysis.proofs.ResponseLaws.{response-promised}
use Rattle.growth.specs.Growth.{growth_of}
use Rattle.growth.proofs.BoundaryLaws.{is-growth}
use Rattle.cache.specs.declared.units.Ticks.{Ticks}
use Rattle.table.specs.Tables.{tasks_of, at}
use Rattle.table.proofs.AcceptedLaws.{accepted-table}
use Rattle.replay.specs.Replay.{first_end}
use Rattle.replay.proofs.MachineLaws.{first-means}
use Rattle.crpd.proofs.PlainLaws.{plain-passes}
use Rattle.crpd.specs.Operations.{answer_to, growth_to, replay_to}
use Rattle.crpd.specs.Meanings.{IsTextResponse, IsTextGrowth, IsTextReplay}
use Rattle.crpd.proofs.ReplayLaws.{replay-is-response}

pub text_response : (text : List ℕ) (m i : ℕ) (r : Result Response Refusal) → r ≡ answer_to text m i → IsTextResponse text m i r
unfolding answer_to
text_response text m i r e table reads h held =
    let a = response_of table (numbered m) i in
    (a, e ∙ rw (le-ltb _ _ h, reads, lt-leb _ _ held), (response-promised table (numbered m) i a refl).means)

pub text_growth : (text : List ℕ) (m : ℕ) (r : Result ℕ Refusal) → r ≡ growth_to text m → IsTextGrowth text m r
unfolding growth_to
text_growth text m r e table reads h =
    let k = growth_of (numbered m) table in
    (k, e ∙ rw (le-ltb _ _ h, reads), is-growth table (text, reads) (numbered m) k refl)

pub text_replay : (text : List ℕ) (i : ℕ) (r : Result (Option Ticks) Refusal) → r ≡ replay_to text i → IsTextReplay text i r
unfolding replay_to
text_replay text i r e table reads plain held near =
    let a = first_end (tasks_of table) i (at table i).deadline.0 in
    let accepted = accepted-table text table reads in (
      a,
      e ∙ rw (reads, plain-passes table accepted plain, lt-leb _ _ held, le-ltb _ _ near),
      record { first = first-means _ _ _ a refl; response = replay-is-response table accepted plain i held },
    )
