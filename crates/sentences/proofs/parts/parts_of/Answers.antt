-- Two parts, and then a task more each time.
use Rattle.std.proofs.Common.{◌≡◌, ◌++◌, ◌∷◌, [], ap, ◌∙◌, codes, rules}
use Rattle.search.specs.Positions.{run}
use Rattle.search.specs.Demand.{work_of}
use Rattle.table.specs.declared.tasks.Task.{Task}
use Rattle.table.specs.Tasks.{name_text}
use Rattle.analysis.specs.declared.costs.Charge.{Charge}
use Rattle.analysis.specs.Costs.{reloads_in, term_with}
use Rattle.report.specs.Explanation.{name_at}
use Rattle.sentences.specs.Explained.{sum_part, product_words, task_part}
use Rattle.sentences.proofs.Above.{charge-is, told-above}
use Rattle.sentences.proofs.NeedParts.{two-parts, parts-more}
use Rattle.sentences.proofs.parts.parts_of.Goals as goal

pub loop-j-init : goal.loop-j-init
unfolding run
loop-j-init c =
    let pushed : c.push-2.new.self.items ≡ ([] ++ c.in_ok-part.field-0 ∷ []) ++ c.in_ok-part-2.field-0 ∷ [] = search rules in
    two-parts c.push-2.new.self.items c.in_ok-part.field-0 c.in_ok-part-2.field-0 _ _ pushed
    (c.in_ok-part.ensures ∙ rw (c.text.ensures) (ap (λ (t : Task). sum_part (name_text t.name) (codes "its own execution") t.work.0) c.task-task.ensures))
    c.in_ok-part-2.ensures

pub task_part-requires : goal.task_part-requires
task_part-requires c =
    told-above c.args.pending.table.now c.args.pending.accepted c.args.need.now c.args.pending.i c.args.pending.held c.args.r.0 c.args.row.now c.requires c.loop-j.j c.loop-j-test.true

pub loop-j-preserved : goal.loop-j-preserved
loop-j-preserved c =
    let table = c.args.pending.table.now in
    let need = c.args.need.now in
    let i = c.args.pending.i in
    let j = c.loop-j.j in
    let r = c.args.r.0 in
    let pushed : c.push-in-loop-j.new.self.items ≡ c.loop-j.parts.items ++ c.in_ok-task_part.field-0 ∷ [] = search rules in
    parts-more c.loop-j.parts.items c.push-in-loop-j.new.self.items c.in_ok-task_part.field-0 _ _ (task_part table need i r) j pushed
    (c.in_ok-task_part.ensures ∙ ap (λ (charge : Charge). sum_part (name_at table j) (product_words table r j charge) (work_of r (term_with table j (reloads_in charge))))
    (charge-is table c.args.pending.accepted need i c.args.pending.held r c.args.row.now c.requires j c.loop-j-test.true))
    c.loop-j.invariant
