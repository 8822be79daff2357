-- `carried::weigh_access` meets its contract: above its ceiling the terms are those with the access.
use Rattle.std.proofs.Common.{ℕ, ◌≡◌, ◌<◌, subst, arith}
use Rattle.cache.specs.Words.{members}
use Rattle.cache.specs.Levels.{counts}
use Rattle.table.specs.declared.tasks.Task.{Task}
use Rattle.analysis.specs.declared.costs.Single.{Single}
use Rattle.analysis.specs.Costs.{ecb_of}
use Rattle.analysis.specs.Carried.{count_told, count_with, column_in}
use Rattle.analysis.proofs.ColumnLaws.{column-small, under-term}
use Rattle.analysis.proofs.TermLaws.{put-long, has-none, has-next, has-rest, joined}
use Rattle.analysis.proofs.carried.weigh_access.Goals as goal

pub loop-j-init : goal.loop-j-init
loop-j-init c = record { long = c.requires.2.long; under = has-none _ _; rest = c.requires.2.terms }

pub counted_with-counted-requires-clause-small : goal.counted_with-counted-requires-clause-small
counted_with-counted-requires-clause-small c = column-small c.args.pending.table.now c.loop-j.j _ _ c.args.pending.accepted (c.requires.1.columns c.loop-j.j (omega arith))

pub loop-j-preserved : goal.loop-j-preserved
loop-j-preserved c =
    let a = c.args in
    let h = c.loop-j.invariant in
    let j = c.loop-j.j in
    let here : j < a.pending.i = omega arith in
    let past : j < a.access.now.ceiling = omega arith in
    let column = c.requires.1.columns j (omega arith) in
    let each = subst (λ (w : ℕ). (m : Single) → count_told c.counted_with-counted.result m ≡ count_with w (ecb_of a.pending.table.now j) (column_in a.ledger.now j) (counts w a.access.now.ucb) a.access.now.task m)
    c.ways-ways.ensures
    (subst (λ (t : Task). (m : Single) → count_told c.counted_with-counted.result m ≡ count_with c.ways-ways.result (members t.ecb) (column_in a.ledger.now j) (counts c.ways-ways.result a.access.now.ucb) a.access.now.task m)
    c.task.ensures c.counted_with-counted.ensures.each) in
    record {
      long = put-long c.put.ensures h.long;
      under = has-next c.put.ensures h.long (omega arith) (under-term a.pending.table.now j a.pending.i here _ column a.access.now _ each past) h.under;
      rest = has-rest c.put.ensures h.rest;
    }

pub returns : goal.returns
returns c =
    let h = c.loop-j.invariant in
    let e : c.loop-j.j ≡ c.args.access.now.ceiling = omega arith in
    joined c.args.pending.table.now c.args.access.now c.args.pending.i c.loop-j.j _ (omega arith) h.long h.under h.rest
