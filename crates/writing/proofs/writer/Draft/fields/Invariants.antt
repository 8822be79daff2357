-- The items so far are written.
use Rattle.std.proofs.Common.{◌≡◌, ◌++◌, take, flat_map}
use Rattle.writing.specs.Text.{after_tab}
use Rattle.writing.proofs.writer.Draft.fields.Given as goal

abbrev pub invariant-loop-item : goal.invariant-loop-item
invariant-loop-item g l = l.self ≡ l.initial.self ++ flat_map (λ x. after_tab (g.T.Text.text x)) (take l.item-index l.items)
