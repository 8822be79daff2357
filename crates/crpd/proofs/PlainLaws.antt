-- A plain table passes.
use Rattle.std.proofs.Common.{◌≡◌, ℕ, suc, ◌+◌, ◌<◌, Bool, false, List, [], ◌∷◌, length, get_or, position, None, option_map, Ok, arith, refl, ap, ◌∙◌, ltb, le-ltb}
use Rattle.table.specs.declared.tasks.Task.{Task}
use Rattle.table.specs.Tasks.{blank}
use Rattle.table.specs.declared.Table.{Table}
use Rattle.table.specs.Tables.{tasks_of, at}
use Rattle.table.specs.Accepted.{AcceptedTable}
use Rattle.crpd.specs.Plain.{Plain, plain_checked}
use Rattle.replay.proofs.TallyLaws.{position-no}
use Rattle.replay.proofs.LoopLaws.{tasks-long}

none-passes : {X : Type 0} (p : X → Bool) (xs : List X) (d : X) → ((k : ℕ) → k < length xs → p (get_or xs k d) ≡ false) → position p xs ≡ None
none-passes p [] d h = refl
none-passes p (x ∷ xs) d h = position-no p x xs (h 0 (omega arith)) ∙ ap (option_map (λ (k : ℕ). k + 1)) (none-passes p xs d (λ k l. h (suc k) (omega arith)))

pub plain-passes : (table : Table) → AcceptedTable table → Plain table → plain_checked table ≡ Ok tt
unfolding plain_checked at
plain-passes table accepted plain =
    let none = none-passes (λ (task : Task). ltb 0 task.jitter.0) (tasks_of table) blank
    (λ k l. le-ltb 0 (at table k).jitter.0 (omega (arith, plain.jitter k (omega (arith, tasks-long table accepted))))) in
    rw (none, plain.access) refl
