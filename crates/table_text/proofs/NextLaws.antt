-- Tasks that are tested one after the other: those that are left, below those that are passed.
use Rattle.std.proofs.Common.{◌≡◌, ℕ, ◌+◌, ◌<◌, ◌≤◌, true, false, ◌&&◌, List, length, take, drop, get_or, add-one}
use Rattle.std.proofs.Math.ListN.{drop_of_length-le}
use Rattle.std.proofs.Math.Seq.{take-suc, drop-cons}
use Rattle.cache.specs.declared.useful.Form.{Form}
use Rattle.table.specs.declared.tasks.Task.{Task}
use Rattle.table.specs.Tasks.{blank}
use Rattle.table_text.specs.Tests.{is_next, are_next}

module _ (form : Form) (sets : ℕ) (ts : List Task) (k : ℕ) where
  module _ (h : k < length ts) where
    pub opened : are_next form sets (take k ts) (drop k ts) ≡ (is_next form sets (take k ts) (get_or ts k blank) && are_next form sets (take (k + 1) ts) (drop (k + 1) ts))
    unfolding are_next
    opened = rw (drop-cons ts k blank h, add-one k, take-suc ts k blank h)

    pub next-passes : is_next form sets (take k ts) (get_or ts k blank) ≡ true → are_next form sets (take (k + 1) ts) (drop (k + 1) ts) ≡ are_next form sets (take k ts) (drop k ts)
    next-passes e = rw (opened, e)

    pub next-fails : is_next form sets (take k ts) (get_or ts k blank) ≡ false → are_next form sets (take k ts) (drop k ts) ≡ false
    next-fails e = rw (opened, e)

  pub none-left : length ts ≤ k → are_next form sets (take k ts) (drop k ts) ≡ true
  unfolding are_next
  none-left h = rw (drop_of_length-le ts {i = k} h)
