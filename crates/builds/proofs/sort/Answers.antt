-- The comparison is that of the names.
use Rattle.std.proofs.Common.{rules}
use Rattle.std.proofs.lemmas.List.Sorted.{answers_always}
use Rattle.lists.proofs.Orders.{sorted-by, by-lines}
use Rattle.builds.specs.declared.Build.{Build}
use Rattle.builds.proofs.sort.Goals as goal

pub returns-clause-in_order : goal.returns-clause-in_order
returns-clause-in_order c =
    sorted-by (λ (b : Build). b.name.items) _ _ c.in_ok-sort_by.ensures.permutation
    (c.in_ok-sort_by.ensures.sorted _ (by-lines (λ (b : Build). b.name.items)) (answers_always _ _ _ (λ f a r g called. search rules)))
