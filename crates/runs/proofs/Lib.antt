-- The argument, in the order in which to read; what belongs to no one function.

-- sums, and the first or the largest that has a property
pub mod SumLaws
pub mod SearchLaws
-- jobs: what they are given, and how many are released; when all released before is complete; who overtakes whom; and that a job that has begun is never
-- blocked, so that in a busy window at most one access of a task below runs
pub mod JobLaws
pub mod QuietLaws
pub mod OvertakingLaws
pub mod BlockingLaws
-- a cache set by the ages of its blocks; a block that is lost was lost to another job's use
pub mod LruLaws
pub mod LostLaws
-- whom a reload is charged to, how many one job is charged, and what that has to do with useful blocks
pub mod ChargeLaws
pub mod VictimLaws
pub mod ReloadLaws
-- a busy window holds no more than the demand, so it ends, and each job with it: the theorem
pub mod WindowLaws
pub mod EndLaws
pub mod Theorem
-- what the model says of itself
pub mod ModelLaws
-- the machine keeps the rules, and its runs are legal
pub mod ChooserLaws
pub mod MachineLaws
pub mod ProgramLaws
-- what the functions promise
pub mod PromiseLaws
-- figures
mod Figures
mod AccessFigures
