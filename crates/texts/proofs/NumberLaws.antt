-- The number of a refusal is at most 25.
use Rattle.std.proofs.Common.{◌≤◌, arith}
use Rattle.texts.specs.declared.refusals.Reason.{Reason}
use Rattle.texts.specs.declared.refusals.Reason.TheVariants.{TooLong, NotEnded, Shape, Name, Number, Range, Marks, Order, KnownName, TooManyTasks, NoTask, Method, Position, ShortBuffer, OtherTask, TooManyAccesses, Blocking, TooManyBlocks, ListLine, ListName, HasJitter, HasAccess, LongHyperperiod, LongDeadline, NoText}
use Rattle.texts.specs.Numbers.{reason_number}

pub number-small : (reason : Reason) → reason_number reason ≤ 25
number-small TooLong = omega arith
number-small NotEnded = omega arith
number-small Shape = omega arith
number-small Name = omega arith
number-small Number = omega arith
number-small Range = omega arith
number-small Marks = omega arith
number-small Order = omega arith
number-small KnownName = omega arith
number-small TooManyTasks = omega arith
number-small NoTask = omega arith
number-small Method = omega arith
number-small Position = omega arith
number-small ShortBuffer = omega arith
number-small OtherTask = omega arith
number-small TooManyAccesses = omega arith
number-small Blocking = omega arith
number-small TooManyBlocks = omega arith
number-small ListLine = omega arith
number-small ListName = omega arith
number-small HasJitter = omega arith
number-small HasAccess = omega arith
number-small LongHyperperiod = omega arith
number-small LongDeadline = omega arith
number-small NoText = omega arith
