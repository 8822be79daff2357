-- Lists over positions and over the numbers of the methods: one position more, and functions that agree.
use Rattle.std.proofs.Common.{◌≡◌, refl, sym, ap, ◌∙◌, ℕ, zero, suc, ◌+◌, ◌<◌, ◌≤◌, eq-or-lt_of_le, arith, inl, inr, add-one, length, take, set, length-append, take-suc-set}
use Rattle.std.specs.Prelude.{List, ◌++◌, map, flat_map}
use Rattle.search.specs.Positions.{run, between}
use Rattle.search.proofs.PositionLaws.{map_next, map_same}
use Rattle.std.proofs.lemmas.List.Folds.{flat_map-map}
use Rattle.writing.proofs.Room.{flat_map-snoc}
use Rattle.report.specs.Verdicts.{method_numbers}

-- ---- one position more

pub flat_map-more : (f : ℕ → List ℕ) (n : ℕ) → flat_map f (between 0 n) ++ f n ≡ flat_map f (between 0 (n + 1))
flat_map-more f n =
    rw (← flat_map-map (λ t. t) f (between 0 n), ← flat_map-map (λ t. t) f (between 0 (n + 1)), map_next f n) (sym (flat_map-snoc (λ t. t) (map f (between 0 n)) (f n)))

-- the texts of the first positions, and of the next, are no longer than those of all
pub room_below : (f : ℕ → List ℕ) (i n : ℕ) → i < n → length (flat_map f (between 0 i)) + length (f i) ≤ length (flat_map f (between 0 n))
room_below f i zero h = absurd (omega arith)
room_below f i (suc n) h =
    let next = ap length (flat_map-more f n) in
    let next' = rw (add-one, length-append) at next in
    let below : i ≤ n = omega arith in
    elim (eq-or-lt_of_le below) [
      | inl e ↦ rw e (omega (arith, next'))
      | inr l ↦ omega (arith, next', room_below f i n l)
    ]

-- an array that is filled from the front, by a function of the index
pub filled_more : {A : Type 0} (f : ℕ → A) (xs : List A) (i : ℕ) (x : A) → i < length xs → x ≡ f i → take i xs ≡ map f (between 0 i) → take (i + 1) (set xs i x) ≡ map f (between 0 (i + 1))
filled_more f xs i x h v e = rw (map_next f i, add-one i, take-suc-set xs i x h, e, v)

-- ---- functions that agree

pub flat_map-same : (f g : ℕ → List ℕ) (n : ℕ) → ((i : ℕ) → i < n → f i ≡ g i) → flat_map f (between 0 n) ≡ flat_map g (between 0 n)
flat_map-same f g n h =
    sym (flat_map-map (λ t. t) f (between 0 n)) ∙ ap (flat_map (λ t. t)) (map_same f g n h) ∙ flat_map-map (λ t. t) g (between 0 n)

-- ---- the numbers of the methods

pub methods-are : between 0 6 ≡ method_numbers
unfolding run
methods-are = refl

module _ {A : Type 0} (f : ℕ → A) where
  pub methods-same : (g : ℕ → A) → ((m : ℕ) → m < 6 → f m ≡ g m) → map f method_numbers ≡ map g method_numbers
  methods-same g h = ap (map f) (sym methods-are) ∙ map_same f g 6 h ∙ ap (map g) methods-are
