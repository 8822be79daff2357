-- `any_order::shared_sizes` meets its contract: the law of sizes.
use Rattle.std.proofs.Common.{◌≡◌, arith}
use Rattle.cache.specs.Sets.{◌∪◌, ◌∩◌}
use Rattle.cache.specs.Words.{members}
use Rattle.cache.specs.Counts.{◌on◌, total}
use Rattle.cache.specs.Levels.{counts}
use Rattle.laws.proofs.AnyOrder.{sizes-add-up}
use Rattle.laws.proofs.any_order.shared_sizes.Goals as goal

pub returns : goal.returns
returns c =
    let U = counts c.args.ways c.args.useful.now in
    let A = members c.args.a in
    let B = members c.args.b in
    let of_either : c.size_in.result.0 ≡ total (U on (A ∪ B)) = rw (c.size_in.ensures.count, c.union-union.ensures) in
    let of-both : c.size_in-2.result.0 ≡ total (U on (A ∩ B)) = rw (c.size_in-2.ensures.count, c.intersection-intersection.ensures) in
    record {
      either = of_either;
      both = of-both;
      first = c.size_in-3.ensures.count;
      second = c.size_in-4.ensures.count;
      law = omega (arith, of_either, of-both, c.size_in-3.ensures.count, c.size_in-4.ensures.count, sizes-add-up U A B);
    }
