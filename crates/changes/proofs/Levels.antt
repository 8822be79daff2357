-- Levels that another value has, too: then no cache set has more blocks.
use Rattle.std.proofs.Common.{◌≡◌, ℕ, ◌+◌, ◌≤◌, Bool, true, false, not, ◌&&◌, ◌||◌, cond, List, refl, sym, ap, arith, leb, le-leb, add-one}
use Rattle.cache.specs.declared.sets.CacheSet.{CacheSet}
use Rattle.cache.specs.declared.useful.Useful.{Useful}
use Rattle.cache.specs.Sets.{Set, ◌∩◌}
use Rattle.cache.specs.Counts.{nothing, of_set, ◌⊕◌}
use Rattle.cache.specs.Levels.{level, heights, counts}
use Rattle.changes.specs.Relations.{no_more, all_in}
use Rattle.changes.proofs.Below.{each-below}

-- of one level
part-more : (a b : Bool) → (a && b) ≡ a → cond a 1 0 ≤ cond b 1 0
part-more true true e = omega arith
part-more true false e = absurd (let z : ◌≡◌ {A = ℕ} 0 1 = ap (λ t. cond t 0 1) (sym e) in omega arith)
part-more false b e = omega arith

-- of the first levels
abbrev pub NoMoreTo : ℕ → List CacheSet → List CacheSet → Type 0
NoMoreTo n a b = (s : ℕ) → heights n a s ≤ heights n b s

pub no_level : (a b : List CacheSet) → NoMoreTo 0 a b
unfolding heights nothing
no_level a b s = omega arith

pub level_more : (n : ℕ) (a b : List CacheSet) → NoMoreTo n a b → level a n ∩ level b n ≡ level a n → NoMoreTo (n + 1) a b
unfolding heights ◌⊕◌ of_set ◌∩◌
level_more n a b h e s = rw add-one (omega (arith, h s, part-more (level a n s) (level b n s) (ap (λ A. A s) e)))

pub counts_more : (ways : ℕ) (u w : Useful) → NoMoreTo ways u.levels w.levels → no_more (counts ways u) (counts ways w) ≡ true
counts_more ways u w h = each-below 256 (λ s. leb (counts ways u s) (counts ways w s)) (λ s l. le-leb _ _ (h s))

-- of sets
or-more : (a b : Bool) → (a && b) ≡ a → (not a || b) ≡ true
or-more true b e = e
or-more false b e = refl

pub sets_in : (A B : Set) → A ∩ B ≡ A → all_in A B ≡ true
unfolding ◌∩◌
sets_in A B e = each-below 256 (λ s. not (A s) || B s) (λ s l. or-more (A s) (B s) (ap (λ C. C s) e))
