-- `useful::Useful::joined_size_in` meets its contract.
use Rattle.std.proofs.Common.{◌≡◌, ℕ, sym, ap, ap₂, ◌∙◌}
use Rattle.cache.specs.Sets.{Set, ◌∪◌, ◌∩◌, size}
use Rattle.cache.specs.Words.{members}
use Rattle.cache.specs.Counts.{Counts, ◌⊕◌, capped, ◌on◌, total}
use Rattle.cache.specs.Levels.{heights, level}
use Rattle.cache.specs.declared.useful.Useful.{Useful}
use Rattle.cache.proofs.CountLaws.{one-way-union, one-way-shared}
use Rattle.cache.proofs.LevelLaws.{one-level}
use Rattle.cache.proofs.useful.Useful.joined_size_in.Goals as goal

-- with 1 way it is what the union shares
one-way : (u w : Useful) (E : Set)
    → total (capped 1 (heights 1 u.levels ⊕ heights 1 w.levels) on E) ≡ size ((level u.levels 0 ∪ level w.levels 0) ∩ E)
one-way u w E =
    ap₂ (λ (U W : Counts). total (capped 1 (U ⊕ W) on E)) (one-level u.levels) (one-level w.levels)
    ∙ ap (λ (U : Counts). total (U on E)) (one-way-union (level u.levels 0) (level w.levels 0))
    ∙ one-way-shared (level u.levels 0 ∪ level w.levels 0) E

pub returns-then-ways-eq1-clause-count : goal.returns-then-ways-eq1-clause-count
returns-then-ways-eq1-clause-count c =
    let a = c.args in
    c.size.ensures.count
    ∙ ap size c.intersection.ensures
    ∙ ap (λ (A : Set). size (A ∩ members a.evicting)) c.union-both.ensures
    ∙ sym (one-way a.self.now a.other.now (members a.evicting))
    ∙ ap (λ (w : ℕ). total (capped w (heights w a.self.now.levels ⊕ heights w a.other.now.levels) on members a.evicting)) (sym c.if-ways-eq1.true)
