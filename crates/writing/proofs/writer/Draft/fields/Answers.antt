use Rattle.std.proofs.Common.{ℕ, arith, ap, length, length-append}
use Rattle.writing.specs.Text.{after_tab}
use Rattle.writing.proofs.Room.{room_for_next}
use Rattle.writing.proofs.writer.Draft.fields.Goals as goal

pub field-requires : goal.field-requires
field-requires g c =
    let room = room_for_next (λ x. after_tab (g.T.Text.text x)) c.args.items.now c.loop-item.item-index c.item-item.result c.loop-item-test.true c.item-item.is in
    omega (arith, room, ap length c.loop-item.invariant, length-append {A = ℕ})
