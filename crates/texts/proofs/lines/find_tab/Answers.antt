-- A turn of the first loop passes its four bytes one by one.
use Rattle.std.proofs.Common.{ℕ, List, ◌≡◌, ◌+◌, ◌≤◌, length, get_or, refl, arith}
use Rattle.texts.proofs.Scan.{Scanned, step, stop, end}
use Rattle.texts.proofs.lines.find_tab.Goals as goal

-- one, two and three bytes of a turn passed
module _ {c : ℕ} {s : List ℕ} {i : ℕ} (p : Scanned c s i) (h : i + 4 ≤ length s) (a : get_or s i 0 ≡ c → ⊥) where
  one : Scanned c s (i + 1)
  one = step p refl (omega arith) a

  module _ (b : get_or s (i + 1) 0 ≡ c → ⊥) where
    two : Scanned c s (i + 2)
    two = step one (omega arith) (omega arith) b

    three : (get_or s (i + 2) 0 ≡ c → ⊥) → Scanned c s (i + 3)
    three d = step two (omega arith) (omega arith) d

pub returns-then-s-i-eq9 : goal.returns-then-s-i-eq9
returns-then-s-i-eq9 c = stop c.loop-i.invariant (omega arith) c.if-s-i-eq9.true

pub returns-then-s-i-eq9-2 : goal.returns-then-s-i-eq9-2
returns-then-s-i-eq9-2 c = stop (one c.loop-i.invariant (omega arith) c.if-s-i-eq9.false) (omega arith) c.if-s-i-eq9-2.true

pub returns-then-s-i-eq9-3 : goal.returns-then-s-i-eq9-3
returns-then-s-i-eq9-3 c =
    stop (two c.loop-i.invariant (omega arith) c.if-s-i-eq9.false c.if-s-i-eq9-2.false) (omega arith) c.if-s-i-eq9-3.true

pub returns-then-s-i-eq9-4 : goal.returns-then-s-i-eq9-4
returns-then-s-i-eq9-4 c =
    stop (three c.loop-i.invariant (omega arith) c.if-s-i-eq9.false c.if-s-i-eq9-2.false c.if-s-i-eq9-3.false) (omega arith) c.if-s-i-eq9-4.true

pub loop-i-preserved : goal.loop-i-preserved
loop-i-preserved c =
    step (three c.loop-i.invariant (omega arith) c.if-s-i-eq9.false c.if-s-i-eq9-2.false c.if-s-i-eq9-3.false) (omega arith) (omega arith) c.if-s-i-eq9-4.false

pub returns-then-s-k-eq9 : goal.returns-then-s-k-eq9
returns-then-s-k-eq9 c = grind (arith, stop)

pub loop-k-preserved : goal.loop-k-preserved
loop-k-preserved c = grind (arith, step)

pub returns : goal.returns
returns c = grind (arith, end)
