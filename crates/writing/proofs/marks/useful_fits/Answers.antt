-- `marks::useful_fits` meets its contract.
use Rattle.std.proofs.Common.{refl, eq-eqb}
use Rattle.writing.specs.Marks.{useful_fits}
use Rattle.writing.proofs.marks.useful_fits.Goals as goal

pub returns : goal.returns
unfolding useful_fits
returns c =
    rw (
      c.level_fits.ensures.test,
      c.level_fits-2.ensures.test,
      c.level_fits-3.ensures.test,
      c.level_fits-4.ensures.test,
      c.level_fits-5.ensures.test,
      c.level_fits-6.ensures.test,
      c.level_fits-7.ensures.test,
      c.level_fits-8.ensures.test,
      c.ways-ways.ensures,
      eq-eqb _ _ c.level_fits.ensures.long,
    )
    refl
