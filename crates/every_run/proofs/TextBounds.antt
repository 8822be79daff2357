-- And so does every answer to a text.
use Rattle.std.proofs.Common.{ℕ, ◌<◌, arith, ◌≡◌, refl, sym, ◌∙◌, Bool, true, false, cond, ltb, leb, leb-false, List, Result, Ok, Err}
use Rattle.search.specs.declared.demand.Response.{Response}
use Rattle.search.specs.declared.demand.Response.TheVariants.{Within}
use Rattle.texts.specs.declared.refusals.Reason.TheVariants as reason
use Rattle.texts.specs.declared.refusals.Refusal.{Refusal}
use Rattle.texts.specs.Numbers.{untold}
use Rattle.table.specs.declared.Table.{Table}
use Rattle.table.specs.Reading.{then_read}
use Rattle.table.proofs.AcceptedLaws.{accepted-table}
use Rattle.analysis.specs.Analysis.{response_of, numbered}
use Rattle.crpd.specs.Operations.{answer_to}
use Rattle.crpd.specs.Meanings.{ReadsAs}
use Rattle.every_run.specs.Texts.{BoundsEveryRun}
use Rattle.every_run.proofs.TableBounds.{bounded}

-- a text that is answered has the task, and the answer is its response
answered : (text : List ℕ) (m i : ℕ) (table : Table) → ReadsAs text table → (a : Response) → answer_to text m i ≡ Ok a
    → (i < table.count) × (a ≡ response_of table (numbered m) i)
unfolding answer_to
answered text m i table reads a e = go (ltb 5 m) (leb table.count i) refl (rw reads at e)
  where
    go : (t u : Bool) → leb table.count i ≡ u
        → then_read (cond t (Err (untold reason.Method)) (Ok (numbered m)))
        (λ method. then_read (cond u (Err (untold reason.Position)) (Ok i)) (λ i. Ok (response_of table method i)))
        ≡ Ok a
        → (i < table.count) × (a ≡ response_of table (numbered m) i)
    go false false f e = let same : response_of table (numbered m) i ≡ a = cc in (leb-false table.count i f, sym same)
    go false true f e = let z : ◌≡◌ {A = ℕ} 0 1 = cc in absurd (omega arith)
    go true u f e = let z : ◌≡◌ {A = ℕ} 0 1 = cc in absurd (omega arith)

pub bounds_every_run : (text : List ℕ) (m i : ℕ) (r : Result Response Refusal) → r ≡ answer_to text m i → BoundsEveryRun text m i r
unfolding BoundsEveryRun
bounds_every_run text m i r e table reads R f =
    let w = answered text m i table reads (Within R) (sym e ∙ f) in bounded table (accepted-table text table reads) (numbered m) i w.0 R w.1
