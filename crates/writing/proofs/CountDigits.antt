-- The digits that count useful blocks, and their reading.
use Rattle.std.proofs.Common.{◌≡◌, refl, sym, ap, ap₂, ◌∙◌, true, List, [], ◌∷◌, ℕ, zero, suc, ◌+◌, ◌-◌, ◌≤◌, ◌<◌, arith, length, leb, le-leb, leb-true}
use Rattle.std.proofs.Math.Bool.{and-eq-true_iff}
use Rattle.std.proofs.Math.Decide.{dec_lt}
use Rattle.std.proofs.Math.Path.{fun_ext}
use Rattle.std.specs.List.{list_all}
use Rattle.cache.specs.Counts.{Counts, nothing}
use Rattle.std.specs.Char.{is_ascii_digit}
use Rattle.cache.specs.UsefulField.{push, read_counts, counts_of}
use Rattle.cache.proofs.UsefulLaws.{read_past, past}
use Rattle.writing.specs.Marks.{count_digits}

pub counts-long : (n : ℕ) (U : Counts) → length (count_digits n U) ≡ n
unfolding count_digits
counts-long zero U = refl
counts-long (suc n) U = ap suc (counts-long n U)

pub digits-none : (U : Counts) → count_digits 0 U ≡ []
unfolding count_digits
digits-none U = refl

-- the first of them
pub digit-front : (n m : ℕ) (U : Counts) → m ≡ n + 1 → count_digits m U ≡ (48 + U n) ∷ count_digits n U
unfolding count_digits
digit-front n m U e = let f : m ≡ suc n = omega arith in rw f refl

-- ---- what is written is read

written-at : (n : ℕ) (W U : Counts) (s : ℕ) → s < n → read_counts W (count_digits n U) s ≡ U s
unfolding count_digits read_counts push
written-at zero W U s h = absurd (omega arith)
written-at (suc n) W U s h = elim (dec_lt s n) [
  | yes l ↦ written-at n (push (48 + U n - 48) W) U s l
  | no l ↦ last (omega arith)
]
  where
    last : s ≡ n → read_counts (push (48 + U n - 48) W) (count_digits n U) s ≡ U s
    last e =
        let f : n ≡ length (count_digits n U) + 0 = omega (arith, counts-long n U) in
        rw e (ap (read_counts (push (48 + U n - 48) W) (count_digits n U)) f ∙ read_past (push (48 + U n - 48) W) (count_digits n U) 0 ∙ omega arith)

pub written-counts : (sets : ℕ) (U : Counts) → ((s : ℕ) → sets ≤ s → U s ≡ 0) → counts_of (count_digits sets U) ≡ U
written-counts sets U none =
    fun_ext (λ s. elim (dec_lt s sets) [
      | yes l ↦ written-at sets nothing U s l
      | no l ↦ past (count_digits sets U) s (omega (arith, counts-long sets U)) ∙ sym (none s (omega arith))
    ])

pub digits-are : (n : ℕ) (U : Counts) → ((s : ℕ) → U s ≤ 9) → list_all is_ascii_digit (count_digits n U) ≡ true
unfolding count_digits
digits-are zero U h = refl
digits-are (suc n) U h = rw (le-leb 48 (48 + U n) (omega arith), le-leb (48 + U n) 57 (omega (arith, h n))) (digits-are n U h)

pub digits-within : (ways n : ℕ) (U : Counts) → ((s : ℕ) → U s ≤ ways) → list_all (λ b. leb (b - 48) ways) (count_digits n U) ≡ true
unfolding count_digits
digits-within ways zero U h = refl
digits-within ways (suc n) U h = rw (le-leb (48 + U n - 48) ways (omega (arith, h n))) (digits-within ways n U h)

-- ---- and what is read is what is written of it

pub read-written : (f : List ℕ) (W : Counts) → list_all is_ascii_digit f ≡ true → count_digits (length f) (read_counts W f) ≡ f
unfolding count_digits read_counts push
read-written [] W e = refl
read-written (b ∷ f) W e =
    let p = (and-eq-true_iff (is_ascii_digit b) (list_all is_ascii_digit f)).0 e in
    let q = (and-eq-true_iff (leb 48 b) (leb b 57)).0 p.0 in
    let least = leb-true 48 b q.0 in
    let n : length f ≡ length f + 0 = omega arith in
    let last : read_counts (push (b - 48) W) f (length f) ≡ b - 48 = ap (read_counts (push (b - 48) W) f) n ∙ read_past (push (b - 48) W) f 0 in
    ap₂ (λ (x : ℕ) (xs : List ℕ). x ∷ xs) (omega arith) (read-written f (push (b - 48) W) p.1)
