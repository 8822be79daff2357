-- The lines of all lists, sorted.
use Rattle.std.proofs.Common.{◌≡◌, ◌∙◌, arith}
use Rattle.lists.specs.Together.{texts_of, together}
use Rattle.lists.proofs.Lists.{put-together, together-permutation, together-parts}
use Rattle.lists.proofs.put_together.Goals as goal

pub returns : goal.returns
returns c =
    let list : c.loop-line.list.items ≡ together (texts_of c.args.lists.now) =
    put-together c.args.lists.now c.loop-list.found.items c.sort.new.self.items c.deref-line-items.result.now c.loop-list.list-index c.loop-line.line-index c.loop-line.list.items (omega arith)
    c.loop-list.invariant c.sort.ensures.permutation c.in_ok-sort.ensures.sorted c.deref-line-items.ensures.value (omega arith) c.loop-line.invariant in record {
      list = list;
      any_order = λ shuffled p. list ∙ together-permutation _ shuffled p;
      of_parts = λ all parts p e. list ∙ together-parts _ all parts p e;
    }
