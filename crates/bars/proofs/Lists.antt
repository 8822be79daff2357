-- The methods, one by one, and the tasks.
use Rattle.std.proofs.Common.{◌≡◌, ℕ, zero, suc, ◌+◌, ◌<◌, Bool, false, List, [], ◌∷◌, ◌++◌, drop, sym, ap, refl, ◌∙◌, append_assoc, append-nil, arith}
use Rattle.std.specs.Prelude.{flat_map, fold, slice_index_or}
use Rattle.search.specs.Positions.{between, run}
use Rattle.report.specs.Verdicts.{method_numbers}
use Rattle.report.proofs.Lists.{flat_map-more}
use Rattle.methods.specs.Methods.{name_by_number}
use Rattle.bars.specs.Bars.{listed_if, passing_list}

number-next : (k : ℕ) → k < 6 → drop k method_numbers ≡ k ∷ drop (k + 1) method_numbers
number-next zero h = refl
number-next (suc zero) h = refl
number-next (suc (suc zero)) h = refl
number-next (suc (suc (suc zero))) h = refl
number-next (suc (suc (suc (suc zero)))) h = refl
number-next (suc (suc (suc (suc (suc zero))))) h = refl
number-next (suc (suc (suc (suc (suc (suc k)))))) h = absurd (omega arith)

-- ---- what was drawn, and what is drawn of the methods from k on, are all

module _ (F : ℕ → List ℕ) (before out : List ℕ) (k : ℕ) where
  abbrev pub DrawnTo : Type 0
  DrawnTo = out ++ flat_map F (drop k method_numbers) ≡ before ++ flat_map F method_numbers

  pub drawn-done : k ≡ 6 → DrawnTo → out ≡ before ++ flat_map F method_numbers
  drawn-done six w =
      let none : flat_map F (drop k method_numbers) ≡ [] = ap (λ (n : ℕ). flat_map F (drop n method_numbers)) six in
      sym (append-nil out) ∙ ap (λ (l : List ℕ). out ++ l) (sym none) ∙ w

pub drawn-more : (F : ℕ → List ℕ) (before out after : List ℕ) (k : ℕ) → k < 6 → after ≡ out ++ F k → DrawnTo F before out k → DrawnTo F before after (k + 1)
drawn-more F before out after k few e w = rw (e, append_assoc out (F k) (flat_map F (drop (k + 1) method_numbers))) (rw (number-next k few) at w)

-- ---- the names so far, and those from k on, are the list

module _ (passes : List Bool) (names : List ℕ) (k : ℕ) where
  abbrev pub ListedTo : Type 0
  ListedTo = fold (λ names m. listed_if (slice_index_or passes m false) names (name_by_number m)) names (drop k method_numbers) ≡ passing_list passes

  pub listed-done : k ≡ 6 → ListedTo → names ≡ passing_list passes
  listed-done six w =
      let F = λ (names : List ℕ) (m : ℕ). listed_if (slice_index_or passes m false) names (name_by_number m) in
      let none : fold F names (drop k method_numbers) ≡ names = ap (λ (n : ℕ). fold F names (drop n method_numbers)) six in
      sym none ∙ w

pub listed-more : (passes : List Bool) (names after : List ℕ) (k : ℕ) → k < 6 → after ≡ listed_if (slice_index_or passes k false) names (name_by_number k) → ListedTo passes names k
    → ListedTo passes after (k + 1)
listed-more passes names after k few e w = rw e (rw (number-next k few) at w)

-- ---- the tasks

pub tasks-none : (f : ℕ → List ℕ) (before : List ℕ) → before ≡ before ++ flat_map f (between 0 0)
unfolding run
tasks-none f before = sym (append-nil before)

pub tasks-more : (f : ℕ → List ℕ) (before out after : List ℕ) (i : ℕ) → after ≡ out ++ f i → out ≡ before ++ flat_map f (between 0 i) → after ≡ before ++ flat_map f (between 0 (i + 1))
tasks-more f before out after i e w =
    e ∙ ap (λ (l : List ℕ). l ++ f i) w ∙ append_assoc before (flat_map f (between 0 i)) (f i) ∙ ap (λ (l : List ℕ). before ++ l) (flat_map-more f i)
