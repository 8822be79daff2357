-- A place more at each k and each n, and at 32 all of them.
use Rattle.std.proofs.Common.{◌≡◌, ℕ, ◌+◌, ◌*◌, List, map, length, take, refl, sym, ap, ◌∙◌, arith}
use Rattle.std.proofs.Math.ListN.{length-set}
use Rattle.std.proofs.Math.Seq.{take_all}
use Rattle.search.specs.Positions.{run, between}
use Rattle.report.proofs.Lists.{filled_more}
use Rattle.test_values.specs.Values.{task_from, access_from, table_from}
use Rattle.test_values.proofs.Rest.{rest_of}
use Rattle.test_values.proofs.table_from.Invariants.{place_from, access_place_from}
use Rattle.test_values.proofs.table_from.Goals as goal

-- all of 32 places
all_of : {X : Type 0} (l : List X) (n : ℕ) (f : ℕ → X) → length l ≡ 32 → n ≡ 32 → take n l ≡ map f (between 0 n) → l ≡ map f (between 0 32)
all_of l n f long all e = sym (take_all 32 l (omega arith)) ∙ (rw all at e)

pub loop-k-init : goal.loop-k-init
unfolding run
loop-k-init c = (refl, refl)

pub loop-k-preserved : goal.loop-k-preserved
loop-k-preserved c =
    let ns = c.args.numbers.now in
    let at = c.loop-k in (
      filled_more (place_from ns) at.tasks at.k _ (omega arith) (c.task_from-task.ensures ∙ ap task_from (rest_of ns (4 + 52 * at.k))) at.invariant.0,
      length-set at.tasks at.k _ ∙ at.invariant.1,
    )

pub loop-n-init : goal.loop-n-init
unfolding run
loop-n-init c = (refl, refl)

pub loop-n-preserved : goal.loop-n-preserved
loop-n-preserved c =
    let ns = c.args.numbers.now in
    let at = c.loop-n in (
      filled_more (access_place_from ns) at.accesses at.n _ (omega arith) (c.access_from-access.ensures ∙ ap access_from (rest_of ns (1669 + 35 * at.n))) at.invariant.0,
      length-set at.accesses at.n _ ∙ at.invariant.1,
    )

pub returns : goal.returns
unfolding table_from
returns c =
    let ns = c.args.numbers.now in
    let k = c.loop-k in
    let n = c.loop-n in
    let tasks = all_of k.tasks k.k (place_from ns) k.invariant.1 (omega arith) k.invariant.0 in
    let accesses = all_of n.accesses n.n (access_place_from ns) n.invariant.1 (omega arith) n.invariant.0 in
    cc (tasks, accesses)
