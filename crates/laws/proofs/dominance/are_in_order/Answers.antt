-- `laws::dominance::are_in_order` meets its contract.
use Rattle.std.proofs.Common.{◌≡◌, ◌∙◌, refl, false}
use Rattle.laws.proofs.DominanceLaws.{none-exceeds}
use Rattle.laws.proofs.dominance.are_in_order.Goals as goal

pub returns : goal.returns
returns c =
    let p = c.under_all-six.ensures in
    let first : c.exceeds.result ≡ false = c.exceeds.ensures ∙ none-exceeds _ _ p.ucb-union_least in
    let second : c.exceeds-2.result ≡ false = c.exceeds-2.ensures ∙ none-exceeds _ _ p.ecb-union_least in
    let third : c.exceeds-3.result ≡ false = c.exceeds-3.ensures ∙ none-exceeds _ _ p.combined_first in
    let fourth : c.exceeds-4.result ≡ false = c.exceeds-4.ensures ∙ none-exceeds _ _ p.combined_second in
    rw (first, second, third, fourth) refl
