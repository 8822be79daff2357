-- The number of each refusal, and refusals that tell no line.
use Rattle.std.specs.Prelude.{ℕ}
use Rattle.texts.specs.declared.refusals.Reason.{Reason}
use Rattle.texts.specs.declared.refusals.Refusal.{Refusal}
use Rattle.texts.specs.Faults.{no_field, on_line}
use Rattle.texts.specs.declared.refusals.Reason.TheVariants.{TooLong, NotEnded, Shape, Name, Number, Range, Marks, Order, KnownName, TooManyTasks, NoTask, Method, Position, ShortBuffer, OtherTask, TooManyAccesses, Blocking, TooManyBlocks, ListLine, ListName, HasJitter, HasAccess, LongHyperperiod, LongDeadline, NoText}

abbrev pub reason_number : Reason → ℕ
reason_number TooLong = 1
reason_number NotEnded = 2
reason_number Shape = 3
reason_number Name = 4
reason_number Number = 5
reason_number Range = 6
reason_number Marks = 7
reason_number Order = 8
reason_number KnownName = 9
reason_number TooManyTasks = 10
reason_number NoTask = 11
reason_number Method = 12
reason_number Position = 13
reason_number ShortBuffer = 14
reason_number OtherTask = 15
reason_number TooManyAccesses = 16
reason_number Blocking = 17
reason_number TooManyBlocks = 18
reason_number ListLine = 19
reason_number ListName = 20
reason_number HasJitter = 21
reason_number HasAccess = 22
reason_number LongHyperperiod = 23
reason_number LongDeadline = 24
reason_number NoText = 25

abbrev pub untold : Reason → Refusal
untold reason = on_line 0 (no_field reason)
