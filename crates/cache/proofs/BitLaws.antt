-- One bit of one word.
use Rattle.std.proofs.Common.{◌≡◌, sym, ap, ◌∙◌, ℕ, zero, suc, ◌+◌, ◌-◌, ◌*◌, ◌/◌, ◌%◌, ◌^◌, ◌<◌, zero-add, arith, shr-shr, eqb}
use Rattle.std.proofs.Math.Pow.{low, high}
use lib.Pow.{field, mod-mod-pow}
use Rattle.cache.specs.declared.sets.CacheSet.{CacheSet}
use Rattle.cache.specs.Words.{number_of, members, word_of}
use Rattle.cache.proofs.WordLaws.{WordsInRange}

low-bit-of : (h w r : ℕ) → w < 2 ^ 64 → r < 64 → (h * 2 ^ 64 + w) / 2 ^ r % 2 ≡ w / 2 ^ r % 2
low-bit-of h w r l m =
    sym (field (h * 2 ^ 64 + w) 1 r)
    ∙ ap (λ (x : ℕ). x / 2 ^ r) (sym (cut (h * 2 ^ 64 + w)) ∙ ap (λ (x : ℕ). x % 2 ^ (1 + r)) (low h 64 l))
    ∙ field w 1 r
  where
    places : 63 - r + (1 + r) ≡ 64
    places = omega arith

    cut : (n : ℕ) → n % 2 ^ 64 % 2 ^ (1 + r) ≡ n % 2 ^ (1 + r)
    cut n = ap (λ (e : ℕ). n % 2 ^ e % 2 ^ (1 + r)) (sym places) ∙ mod-mod-pow n (63 - r) (1 + r)

higher : (h w r : ℕ) → w < 2 ^ 64 → (h * 2 ^ 64 + w) / 2 ^ (64 + r) ≡ h / 2 ^ r
higher h w r l = sym (shr-shr (h * 2 ^ 64 + w) 64 r) ∙ ap (λ (x : ℕ). x / 2 ^ r) (high h 64 l)

bit_at : (c : CacheSet) (n r : ℕ) → WordsInRange c → n < 4 → r < 64 → number_of c / 2 ^ (n * 64 + r) % 2 ≡ word_of c n / 2 ^ r % 2
unfolding number_of word_of
bit_at c zero r p h l = ap (λ (x : ℕ). number_of c / 2 ^ x % 2) (zero-add r) ∙ low-bit-of _ c.w0 r p.in0 l
bit_at c (suc zero) r p h l = ap (λ (x : ℕ). x % 2) (higher _ c.w0 r p.in0) ∙ low-bit-of _ c.w1 r p.in1 l
bit_at c (suc (suc zero)) r p h l =
    let e : 128 + r ≡ 64 + (64 + r) = omega arith in
    ap (λ (x : ℕ). number_of c / 2 ^ x % 2) e
    ∙ ap (λ (x : ℕ). x % 2) (higher _ c.w0 (64 + r) p.in0 ∙ higher _ c.w1 r p.in1) ∙ low-bit-of c.w3 c.w2 r p.in2 l
bit_at c (suc (suc (suc zero))) r p h l =
    let e : 192 + r ≡ 64 + (64 + (64 + r)) = omega arith in
    ap (λ (x : ℕ). number_of c / 2 ^ x % 2) e
    ∙ ap (λ (x : ℕ). x % 2) (higher _ c.w0 (64 + (64 + r)) p.in0 ∙ higher _ c.w1 (64 + r) p.in1 ∙ higher c.w3 c.w2 r p.in2)
bit_at c (suc (suc (suc (suc n)))) r p h l = absurd (omega arith)

pub member-at : (c : CacheSet) (s : ℕ) → WordsInRange c → s < 256 → eqb (word_of c (s / 64) / 2 ^ (s % 64) % 2) 1 ≡ members c s
unfolding members
member-at c s p h =
    let e : s / 64 * 64 + s % 64 ≡ s = omega arith in
    ap (λ (x : ℕ). eqb x 1) (sym (bit_at c (s / 64) (s % 64) p (omega arith) (omega arith)) ∙ ap (λ (k : ℕ). number_of c / 2 ^ k % 2) e)
