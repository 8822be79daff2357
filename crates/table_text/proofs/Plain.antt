-- No field that is written holds a tab or an LF.
use Rattle.std.proofs.Common.{◌≡◌, ℕ, zero, suc, ◌+◌, ◌/◌, ◌%◌, ◌≤◌, Bool, true, false, ◌&&◌, cond, List, [], ◌∷◌, length, refl, arith, ne_eqb, lt-ltb, leb, ltb}
use Rattle.std.proofs.Math.Bool.{and-eq-true_iff}
use Rattle.std.proofs.lemmas.Bool.{false≢true, lt-leb}
use Rattle.std.specs.List.{list_all}
use Rattle.std.proofs.Math.Decide.{dec_lt}
use Rattle.texts.specs.Bytes.{is_name_byte}
use Rattle.texts.specs.Fields.{is_name}
use Rattle.cache.specs.declared.sets.CacheSet.{CacheSet}
use Rattle.cache.specs.Words.{number_of}
use Rattle.writing.specs.Text.{digit_byte, spelled, hex_byte, hex_digits}
use Rattle.writing.proofs.Spelling.{spelled_low, spelled_high, by_digits}
use Rattle.cache.specs.declared.useful.Form.{Form}
use Rattle.cache.specs.declared.useful.Form.TheVariants.{Hex, Digits}
use Rattle.cache.specs.declared.useful.Useful.{Useful}
use Rattle.cache.specs.Counts.{Counts}
use Rattle.cache.specs.Levels.{set_at, counts}
use Rattle.writing.specs.Marks.{marks_text, count_digits, useful_text}
use Rattle.table_text.proofs.Lines.{Plain, plain-append}

pub number-plain : (n : ℕ) → Plain (spelled n)
number-plain =
    by_digits (λ n. Plain (spelled n))
    (λ n l. rw (spelled_low n l, lt-ltb 10 (48 + n) (omega arith)))
    (λ n l ih. rw (spelled_high n l) (plain-append (spelled (n / 10)) (digit_byte (n % 10) ∷ []) ih (rw (lt-ltb 10 (48 + n % 10) (omega arith)))))

hex-byte-plain : (d : ℕ) → ltb 10 (hex_byte d) ≡ true
unfolding hex_byte
hex-byte-plain d = go (ltb d 10)
  where
    go : (t : Bool) → ltb 10 (cond t (48 + d) (87 + d)) ≡ true
    go true = lt-ltb 10 (48 + d) (omega arith)
    go false = lt-ltb 10 (87 + d) (omega arith)

digits-plain : (k n : ℕ) → Plain (hex_digits k n)
unfolding hex_digits
digits-plain zero n = refl
digits-plain (suc k) n = plain-append (hex_digits k (n / 16)) (hex_byte (n % 16) ∷ []) (digits-plain k (n / 16)) (rw (hex-byte-plain (n % 16)))

pub marks-plain : (sets : ℕ) (c : CacheSet) → Plain (marks_text sets c)
unfolding marks_text
marks-plain sets c = digits-plain (sets / 4) (number_of c)

counts-plain : (n : ℕ) (U : Counts) → Plain (count_digits n U)
unfolding count_digits
counts-plain zero U = refl
counts-plain (suc n) U = rw (lt-ltb 10 (48 + U n) (omega arith)) (counts-plain n U)

pub useful-plain : (form : Form) (sets : ℕ) (u : Useful) → Plain (useful_text form sets u)
unfolding useful_text
useful-plain Hex sets u = marks-plain sets (set_at u.levels 0)
useful-plain (Digits ways) sets u = counts-plain sets (counts ways u)

name-byte-plain : (b : ℕ) → is_name_byte b ≡ true → ltb 10 b ≡ true
name-byte-plain b e = elim (dec_lt 10 b) [ yes l ↦ lt-ltb 10 b l | no l ↦ absurd (none (omega arith)) ]
  where
    none : b ≤ 10 → ⊥
    none l = false≢true (rw (lt-leb 97 b (omega arith), lt-leb 48 b (omega arith), ne_eqb b 45 (λ q. omega arith)) at e)

bytes-plain : (s : List ℕ) → list_all is_name_byte s ≡ true → Plain s
bytes-plain [] e = refl
bytes-plain (b ∷ s) e =
    let p = (and-eq-true_iff (is_name_byte b) (list_all is_name_byte s)).0 e in
    rw (name-byte-plain b p.0) (bytes-plain s p.1)

pub name-plain : (s : List ℕ) → is_name s ≡ true → Plain s
unfolding is_name
name-plain s e = bytes-plain s ((and-eq-true_iff (leb 1 (length s) && leb (length s) 12) (list_all is_name_byte s)).0 e).1
