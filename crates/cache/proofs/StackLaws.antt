-- Levels of which each stands on the one below it: they are the levels of what they count, and there are no others.
use Rattle.std.proofs.Common.{◌≡◌, refl, sym, ap, ◌∙◌, Bool, true, false, cond, List, [], ◌∷◌, map, ℕ, zero, suc, ◌+◌, ◌-◌, ◌%◌, ◌^◌, ◌≤◌, ◌<◌, le_refl, arith, lit<, length, get_or, ext_get_or, ltb, eqb, lt-ltb, le-ltb}
use Rattle.std.proofs.Math.Decide.{dec_lt}
use Rattle.std.proofs.Math.Nat.{zero-div}
use Rattle.std.proofs.Math.Path.{fun_ext}
use Rattle.cache.specs.declared.sets.CacheSet.{CacheSet}
use Rattle.cache.specs.declared.useful.Useful.{Useful}
use Rattle.cache.specs.Words.{number_of, members}
use Rattle.cache.specs.Counts.{Counts, nothing, of_set, ◌⊕◌}
use Rattle.cache.specs.Levels.{set_at, level, heights, counts, above, set_of, leveled}
use Rattle.cache.proofs.WordLaws.{WordsInRange, number_lt}
use Rattle.cache.proofs.LevelLaws.{heights-le}
use Rattle.cache.proofs.DigitLaws.{set-of-bits}

abbrev blank : CacheSet
blank = record { w0 = 0; w1 = 0; w2 = 0; w3 = 0 }

abbrev one : Bool → ℕ
one b = cond b 1 0

pub record Stacked (ways : ℕ) (levels : List CacheSet) : Type 0 where
  pub long : length levels ≡ 8
  pub ranged : (l : ℕ) → WordsInRange (set_at levels l)
  pub down : (l s : ℕ) → level levels (suc l) s ≡ true → level levels l s ≡ true
  pub top : (l : ℕ) → ways ≤ l → l < 8 → set_at levels l ≡ blank

-- ---- what is counted is above l just where level l has it

height-next : (n : ℕ) (levels : List CacheSet) (s : ℕ) → heights (suc n) levels s ≡ heights n levels s + one (level levels n s)
unfolding heights ◌⊕◌ of_set
height-next n levels s = refl

height-none : (levels : List CacheSet) (s : ℕ) → heights 0 levels s ≡ 0
unfolding heights nothing
height-none levels s = refl

module _ {ways : ℕ} {levels : List CacheSet} (p : Stacked ways levels) (s : ℕ) where
  -- a level that has it stands on as many
  full : (l : ℕ) → level levels l s ≡ true → heights (suc l) levels s ≡ suc l
  full zero e = omega (arith, height-next 0 levels s, height-none levels s, ap one e)
  full (suc l) e = omega (arith, height-next (suc l) levels s, full l (p.down l s e), ap one e)

  grows : (n k : ℕ) → heights n levels s ≤ heights (n + k) levels s
  grows n zero = let e : n + 0 ≡ n = omega arith in rw e (le_refl _)
  grows n (suc k) =
      let e : n + suc k ≡ suc (n + k) = omega arith in
      rw e (omega (arith, grows n k, height-next (n + k) levels s))

  -- above one that has it not, none has
  none : (l k : ℕ) → level levels l s ≡ false → level levels (l + k) s ≡ false
  none l zero e = let f : l + 0 ≡ l = omega arith in rw f e
  none l (suc k) e =
      let f : l + suc k ≡ suc (l + k) = omega arith in
      rw f (at (level levels (suc (l + k)) s) refl (none l k e))
    where
      at : (b : Bool) → level levels (suc (l + k)) s ≡ b → level levels (l + k) s ≡ false → b ≡ false
      at false q e = refl
      at true q e = sym (p.down (l + k) s q) ∙ e

  stays : (l k : ℕ) → level levels l s ≡ false → heights (l + k) levels s ≡ heights l levels s
  stays l zero e = let f : l + 0 ≡ l = omega arith in rw f refl
  stays l (suc k) e =
      let f : l + suc k ≡ suc (l + k) = omega arith in
      rw f (omega (arith, height-next (l + k) levels s, stays l k e, ap one (none l k e)))

  counted : (n l : ℕ) → l < n → ltb l (heights n levels s) ≡ level levels l s
  counted n l h = at (level levels l s) refl
    where
      at : (b : Bool) → level levels l s ≡ b → ltb l (heights n levels s) ≡ b
      at true e =
          let f : suc l + (n - suc l) ≡ n = omega arith in
          lt-ltb l (heights n levels s) (omega (arith, full l e, rw f at (grows (suc l) (n - suc l))))
      at false e =
          let f : l + (n - l) ≡ n = omega arith in
          le-ltb l (heights n levels s) (omega (arith, rw f at (stays l (n - l) e), heights-le l levels s))

-- ---- so they are its levels

pub set-of-members : (c : CacheSet) → WordsInRange c → set_of (members c) ≡ c
unfolding members
set-of-members c p = set-of-bits c (number_of c) p refl (number_lt c p)

blank-in-range : WordsInRange blank
blank-in-range = record { in0 = lit< tt; in1 = lit< tt; in2 = lit< tt; in3 = lit< tt }

-- where nothing is above l, the level is empty
nothing-above : (l : ℕ) (U : Counts) → ((s : ℕ) → U s ≤ l) → set_of (above l U) ≡ blank
unfolding above number_of
nothing-above l U h =
    ap set_of (fun_ext (λ s. le-ltb l (U s) (h s) ∙ sym (ap (λ (x : ℕ). eqb (x % 2) 1) (zero-div (2 ^ s)))))
    ∙ set-of-bits blank 0 blank-in-range refl (lit< tt)

level-back : (ways : ℕ) (levels : List CacheSet) → Stacked ways levels → (l : ℕ) → l < 8 → set_at levels l ≡ set_of (above l (heights ways levels))
unfolding above
level-back ways levels p l h =
    elim (dec_lt l ways) [
      | yes m ↦ sym (ap set_of (fun_ext (λ s. counted p s ways l m)) ∙ set-of-members (set_at levels l) (p.ranged l))
      | no m ↦ p.top l (omega arith) h ∙ sym (nothing-above l (heights ways levels) (λ s. omega (arith, heights-le ways levels s)))
    ]

pub leveled-back : (ways : ℕ) (u : Useful) → Stacked ways u.levels → u ≡ leveled (counts ways u)
leveled-back ways u p =
    ap (λ (l : List CacheSet). record { levels = l })
    (ext_get_or blank u.levels _ p.long (λ k h. let few : k < 8 = omega (arith, p.long) in level-back ways u.levels p k few ∙ at k few))
  where
    F : ℕ → CacheSet
    F l = set_of (above l (counts ways u))

    at : (k : ℕ) → k < 8 → F k ≡ get_or (map F (0 ∷ 1 ∷ 2 ∷ 3 ∷ 4 ∷ 5 ∷ 6 ∷ 7 ∷ [])) k blank
    at zero h = refl
    at (suc zero) h = refl
    at (suc (suc zero)) h = refl
    at (suc (suc (suc zero))) h = refl
    at (suc (suc (suc (suc zero)))) h = refl
    at (suc (suc (suc (suc (suc zero))))) h = refl
    at (suc (suc (suc (suc (suc (suc zero)))))) h = refl
    at (suc (suc (suc (suc (suc (suc (suc zero))))))) h = refl
    at (suc (suc (suc (suc (suc (suc (suc (suc k)))))))) h = absurd (omega arith)
