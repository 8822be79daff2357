use Rattle.std.proofs.Common.{◌≡◌, ◌<◌, length, rules}
use Rattle.std.proofs.lemmas.List.{places}
use Rattle.streams.proofs.Streams.{more_came, none_came, all_came, full_came, on_error, less_came}
use Rattle.streams.proofs.read_input.Goals as goal

pub loop-len-preserved : goal.loop-len-preserved
loop-len-preserved g c =
    (search rules, more_came _ _ _ c.loop-len.buf c.read_some.new.buf _ c.loop-len.len c.in_ok-more.more c.loop-len.invariant.0 c.in_ok-more.ensures.bound.0 c.loop-len.invariant.1 c.in_ok-more.ensures.bytes.0)

pub returns-then-more-eq0 : goal.returns-then-more-eq0
returns-then-more-eq0 g c =
    let room : 0 < length c.read_some.new.buf = search (rules, places) in
    let consumed = none_came _ _ _ c.loop-len.buf c.read_some.new.buf _ c.loop-len.len c.in_ok-more.more c.loop-len.invariant.0 c.if-more-eq0.true c.loop-len.invariant.1 c.in_ok-more.ensures.bytes.0 in
    record {
      within = search (rules, places);
      bytes = all_came _ _ _ _ consumed (c.in_ok-more.ensures.bytes.1 c.if-more-eq0.true room);
      consumed = consumed;
      failed = tt;
    }

pub returns : goal.returns
returns g c = record {
  within = c.loop-len.invariant.0;
  bytes = full_came _ _ _ _ c.loop-len-test.false c.loop-len.invariant.1;
  consumed = c.loop-len.invariant.1;
  failed = tt;
}

pub returns-in_err-more-clause-failed : goal.returns-in_err-more-clause-failed
returns-in_err-more-clause-failed g c =
    let same : length c.loop-len.buf ≡ length c.args.buf.now = search rules in
    on_error _ _ (less_came _ _ _ c.loop-len.buf c.loop-len.len _ (rw same at c.loop-len-test.true) c.loop-len.invariant.1 c.in_err-more.ensures.bytes)
