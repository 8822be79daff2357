-- What the tests on a task's numbers say.
use Rattle.std.proofs.Common.{◌≡◌, ℕ, ◌≤◌, Bool, true, ◌&&◌, leb-true, leb}
use Rattle.std.proofs.Math.Bool.{and-eq-true_iff}
use Rattle.texts.specs.Fields.{is_within}
use Rattle.table.specs.declared.tasks.Task.{Task}
use Rattle.table.specs.TaskLine.{times_in_range, times_in_order}

pub both : (a b : Bool) → (a && b) ≡ true → (a ≡ true) × (b ≡ true)
both a b e = (and-eq-true_iff a b).0 e

pub lies : (low high n : ℕ) → is_within low high n ≡ true → (low ≤ n) × (n ≤ high)
lies low high n e =
    let p = both (leb low n) (leb n high) e in
    (leb-true low n p.0, leb-true n high p.1)

-- what the tests on a task's numbers say
pub record Ranges (t : Task) : Type 0 where
  pub work : (1 ≤ t.work.0) × (t.work.0 ≤ 250000000)
  pub period : (1 ≤ t.period.0) × (t.period.0 ≤ 250000000)
  pub deadline : (1 ≤ t.deadline.0) × (t.deadline.0 ≤ 250000000)

pub ranges : (t : Task) → times_in_range t ≡ true → Ranges t
unfolding times_in_range
ranges t e4 =
    let c = is_within 1 250000000 t.work.0 in
    let p = is_within 1 250000000 t.period.0 in
    let d = is_within 1 250000000 t.deadline.0 in
    let j = is_within 0 250000000 t.jitter.0 in
    let e3 = both (c && p && d) j e4 in
    let e2 = both (c && p) d e3.0 in
    let e1 = both c p e2.0 in
    record {
      work = lies 1 250000000 _ e1.0;
      period = lies 1 250000000 _ e1.1;
      deadline = lies 1 250000000 _ e2.1;
    }

pub order : (t : Task) → times_in_order t ≡ true → (t.jitter.0 ≤ t.deadline.0) × (t.deadline.0 ≤ t.period.0)
unfolding times_in_order
order t e =
    let p = both (leb t.jitter.0 t.deadline.0) (leb t.deadline.0 t.period.0) e in
    (leb-true _ _ p.0, leb-true _ _ p.1)
