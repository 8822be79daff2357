-- `hasten::part_of` meets its contract.
use Rattle.search.proofs.HastenLaws.{part-counted, part-shared}
use Rattle.search.proofs.hasten.part_of.Goals as goal

pub returns-then-share-left : goal.returns-then-share-left
returns-then-share-left c = part-shared _ _ _ _ c.requires.1 c.work-work.ensures.0 c.work-work.ensures.1 _ c.requires.5 c.if-share-left.true

pub returns-else-share-left : goal.returns-else-share-left
returns-else-share-left c = part-counted _ _ _ _ c.requires.1 c.work-work.ensures.0 c.work-work.ensures.1 c.requires.3

pub returns-else-release-reach : goal.returns-else-release-reach
returns-else-release-reach c = part-counted _ _ _ _ c.requires.1 c.work-work.ensures.0 c.work-work.ensures.1 c.requires.3
