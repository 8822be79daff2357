-- `carried::weigh_row` meets its contract: the columns before j are carried past row i, and their terms are put in.
use Rattle.std.proofs.Common.{ℕ, ◌≡◌, ◌<◌, length, get_or, set, get_or-set_same, subst, sym, ap, ◌∙◌, arith}
use Rattle.cache.specs.Words.{members}
use Rattle.cache.specs.Levels.{counts}
use Rattle.table.specs.Tables.{ways_in}
use Rattle.table.specs.declared.tasks.Task.{Task}
use Rattle.analysis.specs.declared.costs.Single.{Single}
use Rattle.analysis.specs.declared.carried.Column.{Column}
use Rattle.analysis.specs.Costs.{ecb_of, term_with}
use Rattle.analysis.specs.Carried.{Small, count_told, count_of, no_column}
use Rattle.analysis.proofs.ColumnLaws.{column-next, column-small, column-term, passing-next}
use Rattle.analysis.proofs.TermLaws.{put-long, has-next}
use Rattle.analysis.proofs.carried.weigh_row.Goals as goal

pub counted-counted-requires-clause-small : goal.counted-counted-requires-clause-small
counted-counted-requires-clause-small c =
    let a = c.args in
    let j = c.loop-j.j in
    let here : j < a.pending.i = omega arith in
    let few : j < length c.loop-j.ledger = omega (arith, c.loop-j.invariant.passing.long, c.args.pending.accepted.few, c.args.pending.held) in
    let next = column-next a.pending.table.now j a.pending.i here _ _ _ (ap (λ (t : Task). counts (ways_in a.pending.table.now) t.ucb) c.task.ensures)
    (c.loop-j.invariant.passing.ahead j (omega arith) here) (rw c.ways-ways.ensures at c.gather.ensures) in
    let same : get_or (set c.loop-j.ledger j c.gather.new.self) j no_column ≡ c.gather.new.self = get_or-set_same c.loop-j.ledger j c.gather.new.self no_column few in
    subst Small (sym same) (column-small a.pending.table.now j _ _ c.args.pending.accepted next)

pub loop-j-preserved : goal.loop-j-preserved
loop-j-preserved c =
    let a = c.args in
    let h = c.loop-j.invariant in
    let j = c.loop-j.j in
    let here : j < a.pending.i = omega arith in
    let few = c.args.pending.accepted.few in let held = c.args.pending.held in
    let listed : j < length c.loop-j.ledger = omega (arith, h.passing.long) in
    let next = column-next a.pending.table.now j a.pending.i here _ _ _ (ap (λ (t : Task). counts (ways_in a.pending.table.now) t.ucb) c.task.ensures)
    (h.passing.ahead j (omega arith) here) (rw c.ways-ways.ensures at c.gather.ensures) in
    let same : get_or (set c.loop-j.ledger j c.gather.new.self) j no_column ≡ c.gather.new.self = get_or-set_same c.loop-j.ledger j c.gather.new.self no_column listed in
    let each = subst (λ (x : Column). (m : Single) → count_told c.counted-counted.result m ≡ count_of (ways_in a.pending.table.now) (ecb_of a.pending.table.now j) x m) same
    (subst (λ (w : ℕ). (m : Single) → count_told c.counted-counted.result m ≡ count_of w (ecb_of a.pending.table.now j) (get_or (set c.loop-j.ledger j c.gather.new.self) j no_column) m)
    c.ways-ways.ensures
    (subst (λ (t : Task). (m : Single) → count_told c.counted-counted.result m ≡ count_of c.ways-ways.result (members t.ecb) (get_or (set c.loop-j.ledger j c.gather.new.self) j no_column) m)
    c.task-in-loop-j.ensures c.counted-counted.ensures.each)) in
    record {
      passing = passing-next a.pending.table.now _ a.pending.i j _ (omega arith) h.passing next;
      long = put-long c.put.ensures h.long;
      terms = has-next c.put.ensures h.long (omega arith)
          (λ (m : Single). ap (term_with a.pending.table.now j) (each m) ∙ column-term a.pending.table.now j a.pending.i here _ next m)
          h.terms;
    }
