-- The product is one of numbers that are no larger than the longest time.
use Rattle.std.proofs.Common.{◌*◌, ◌≤◌, arith, mul-le-mul}
use Rattle.edf.proofs.BoundLaws.{jobs-most}
use Rattle.edf.proofs.bound.asked.Goals as goal

pub overflow_mul-asked : goal.overflow_mul-asked
overflow_mul-asked c =
    let j : c.jobs-jobs.result ≤ 250000000 = omega (arith, c.jobs-jobs.ensures.is, jobs-most c.args.x c.args.task.now c.requires.0, c.requires.1) in
    let m : c.jobs-jobs.result * c.args.task.now.time.0 ≤ 250000000 * 250000000 = mul-le-mul {m₂ = 250000000} j (omega (arith, c.if-x-task.false, c.requires.1)) in
    omega (arith, m)
