-- One task more.
use Rattle.std.proofs.Common.{◌≡◌, ℕ, ◌++◌, flat_map, ap, sym, subst, ◌∙◌, append_assoc, append-nil, arith}
use Rattle.search.specs.Positions.{run, between}
use Rattle.analysis.specs.Costs.{charge_under}
use Rattle.report.proofs.Lists.{flat_map-more}
use Rattle.sentences.specs.Sentences.{task_sentence}
use Rattle.sentences.proofs.Above.{charge-is, told-above}
use Rattle.sentences.proofs.told.add_reasons.Goals as goal

pub loop-j-init : goal.loop-j-init
unfolding run
loop-j-init c = sym (append-nil _)

pub add_task-requires : goal.add_task-requires
add_task-requires c =
    told-above c.args.pending.table.now c.args.pending.accepted c.args.need.now c.args.pending.i c.args.pending.held c.args.r.0 c.args.row.now c.requires c.loop-j.j c.loop-j-test.true

pub loop-j-preserved : goal.loop-j-preserved
loop-j-preserved c =
    let table = c.args.pending.table.now in
    let need = c.args.need.now in
    let i = c.args.pending.i in
    let j = c.loop-j.j in
    let line =
    ap (task_sentence table c.args.r.0 j) (charge-is table c.args.pending.accepted need i c.args.pending.held c.args.r.0 c.args.row.now c.requires j c.loop-j-test.true) in
    rw (c.in_ok-add_task.ensures, line, c.loop-j.invariant, append_assoc, flat_map-more (λ k. task_sentence table c.args.r.0 k (charge_under table need.blocker need.method i k)) j)

pub returns : goal.returns
returns c =
    let table = c.args.pending.table.now in
    let need = c.args.need.now in
    let i = c.args.pending.i in
    let all : c.loop-j.j ≡ i = omega arith in
    let told = subst (λ (n : ℕ). c.loop-j.out.items ≡ c.add_blocking.new.out.items ++ flat_map (λ k. task_sentence table c.args.r.0 k (charge_under table need.blocker need.method i k)) (between 0 n)) all c.loop-j.invariant in
    told ∙ rw (c.in_ok-add_blocking.ensures, append_assoc)
