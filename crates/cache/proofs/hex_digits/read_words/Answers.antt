-- Word by word, reading on from the number so far gives what the whole field gives.
use Rattle.std.proofs.Common.{◌≡◌, ℕ, ◌-◌, ◌≤◌, List, Some, arith, drop, length, subst, sym, take}
use Rattle.cache.specs.Hex.{read_hex}
use Rattle.cache.proofs.HexLaws.{Reading, begin, ended, no_word, word_more}
use Rattle.cache.proofs.hex_digits.read_words.Goals as goal

-- the first word has no number before it
first : (f : List ℕ) (w j : ℕ) → 0 ≡ j - 16 → j ≤ length f → read_hex 0 (take (j - 0) (drop 0 f)) ≡ Some w → Reading f w j
first f w j from to e = subst (λ (n : ℕ). Reading f n j) (omega arith) (word_more (begin f) from to w e)

pub returns-in_err-w3 : goal.returns-in_err-w3
returns-in_err-w3 c = rw c.from_residual.ensures (sym (no_word (begin c.args.field.now) (omega arith) (omega arith) (sym c.in_err-w3.ensures)))

pub returns-in_err-w2 : goal.returns-in_err-w2
returns-in_err-w2 c =
    let w3 = first _ _ _ (omega arith) (omega arith) (sym c.in_ok-w3.ensures) in
    rw c.from_residual-in_err-w2.ensures (sym (no_word w3 (omega arith) (omega arith) (sym c.in_err-w2.ensures)))

pub returns-in_err-w1 : goal.returns-in_err-w1
returns-in_err-w1 c =
    let w3 = first _ _ _ (omega arith) (omega arith) (sym c.in_ok-w3.ensures) in
    let w2 = word_more w3 (omega arith) (omega arith) _ (sym c.in_ok-w2.ensures) in
    rw c.from_residual-in_err-w1.ensures (sym (no_word w2 (omega arith) (omega arith) (sym c.in_err-w1.ensures)))

pub returns-in_err-w0 : goal.returns-in_err-w0
returns-in_err-w0 c =
    let w3 = first _ _ _ (omega arith) (omega arith) (sym c.in_ok-w3.ensures) in
    let w2 = word_more w3 (omega arith) (omega arith) _ (sym c.in_ok-w2.ensures) in
    let w1 = word_more w2 (omega arith) (omega arith) _ (sym c.in_ok-w1.ensures) in
    rw c.from_residual-in_err-w0.ensures (sym (no_word w1 (omega arith) (omega arith) (sym c.in_err-w0.ensures)))

pub returns : goal.returns
returns c =
    let w3 = first _ _ _ (omega arith) (omega arith) (sym c.in_ok-w3.ensures) in
    let w2 = word_more w3 (omega arith) (omega arith) _ (sym c.in_ok-w2.ensures) in
    let w1 = word_more w2 (omega arith) (omega arith) _ (sym c.in_ok-w1.ensures) in
    let w0 = word_more w1 (omega arith) (omega arith) _ (sym c.in_ok-w0.ensures) in
    sym (ended w0 (omega arith))
