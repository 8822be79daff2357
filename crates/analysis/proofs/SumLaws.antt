-- A sum that is capped, over one position more, at either end.
use Rattle.std.proofs.Common.{ℕ, ◌+◌, ◌≤◌, ◌<◌, arith, ◌≡◌, refl, sym, ap, ◌∙◌}
use Rattle.std.proofs.Math.Path.{fun_ext}
use Rattle.cache.specs.Counts.{Counts, nothing, ◌⊕◌, capped}
use Rattle.cache.proofs.CountLaws.{capped_left, add_comm, add_assoc}
use Rattle.search.specs.Positions.{between}
use Rattle.search.proofs.PositionLaws.{fold-none, fold_next, fold-front}
use Rattle.analysis.specs.Gather.{counts_over}

module _ (ways : ℕ) where
  capped-nothing : nothing ≡ capped ways nothing
  unfolding capped nothing
  capped-nothing = fun_ext (λ s. omega arith)

  module _ (F : ℕ → Counts) where
    -- over none
    pub sum-none : (from : ℕ) → nothing ≡ capped ways (counts_over F (between from from))
    sum-none from = capped-nothing ∙ ap (capped ways) (sym (fold-none ◌⊕◌ nothing F from))

    -- one more at the end
    pub sum-next : (from k : ℕ) (so_far it : Counts) → from ≤ k → so_far ≡ capped ways (counts_over F (between from k)) → it ≡ F k
        → capped ways (so_far ⊕ it) ≡ capped ways (counts_over F (between from (k + 1)))
    sum-next from k so_far it h e f =
        ap (λ (U : Counts). capped ways (U ⊕ it)) e
        ∙ capped_left ways (counts_over F (between from k)) it
        ∙ ap (capped ways) (fold_next ◌⊕◌ nothing F from k (counts_over F (between from k)) it h refl f)

    -- one more in front
    pub sum-front : (k to : ℕ) (below it : Counts) → k < to → it ≡ F k → below ≡ capped ways (counts_over F (between (k + 1) to))
        → capped ways (below ⊕ it) ≡ capped ways (counts_over F (between k to))
    sum-front k to below it h f e =
        ap (λ (U : Counts). capped ways (U ⊕ it)) e
        ∙ capped_left ways (counts_over F (between (k + 1) to)) it
        ∙ ap (capped ways) (add_comm (counts_over F (between (k + 1) to)) it
        ∙ fold-front ◌⊕◌ add_assoc nothing nothing F k to it (counts_over F (between (k + 1) to)) h (add_comm nothing (F k)) f refl)
