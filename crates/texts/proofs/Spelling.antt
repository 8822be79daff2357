-- A number has one spelling: two fields that say the same number are the same bytes.
use Rattle.std.proofs.Common.{ℕ, ◌+◌, ◌-◌, ◌*◌, ◌^◌, ◌<◌, ◌≤◌, ◌≡◌, refl, ap₂, Bool, true, false, not, cond, ◌&&◌, ◌||◌, List, [], ◌∷◌, pow-suc, add-mul, mul_assoc, mul_right_comm, mul-le-mul_right, arith, leb-true, eqb-true, leb, eqb, lit<, length, get_or}
use Rattle.std.proofs.Math.Bool.{and-eq-true_iff}
use Rattle.std.proofs.Math.Nat.{pow-le-pow_right}
use Rattle.std.proofs.lemmas.Bool.{eqb-false, not-true}
use Rattle.std.specs.Prelude.{Option, Some, None}
use Rattle.std.specs.Char.{is_ascii_digit}
use Rattle.texts.specs.Fields.{read_digits, read_number}
use Rattle.texts.proofs.Numbers.{digit-bounds}

-- a test that lets a value through held
passed : (b : Bool) (n : Option ℕ) {v : ℕ} → cond b n None ≡ Some v → (b ≡ true) × (n ≡ Some v)
passed true n e = (refl, e)
passed false n {v} e = let z : ◌≡◌ {A = ℕ} 0 1 = cc in absurd (omega arith)

first-digit : (a b w : ℕ) (s : List ℕ) → read_digits a (b ∷ s) ≡ Some w → (48 ≤ b) × (b ≤ 57) × (read_digits (a * 10 + (b - 48)) s ≡ Some w)
unfolding read_digits
first-digit a b w s e =
    let p = passed (is_ascii_digit b) (read_digits (a * 10 + (b - 48)) s) e in
    let d = digit-bounds b p.0 in
    (d.0, d.1, p.1)

-- as many digits: the same digits
same_digits : (s t : List ℕ) (a b w : ℕ) → length s ≡ length t → read_digits a s ≡ Some w → read_digits b t ≡ Some w → (a ≡ b) × (s ≡ t)
unfolding read_digits
same_digits [] [] a b w l p q = (cc, refl)
same_digits [] (y ∷ t) a b w l p q = absurd (omega arith)
same_digits (x ∷ s) [] a b w l p q = absurd (omega arith)
same_digits (x ∷ s) (y ∷ t) a b w l p q =
    let d = first-digit a x w s p in
    let e = first-digit b y w t q in
    let r = same_digits s t (a * 10 + (x - 48)) (b * 10 + (y - 48)) w (omega arith) d.2 e.2 in
    let h : x ≡ y = omega arith in
    (omega arith, ap₂ (λ (c : ℕ) (u : List ℕ). c ∷ u) h r.1)

-- n digits after digits that say a: from a to a + 1, each n places up
digits_between : (s : List ℕ) (a w : ℕ) → read_digits a s ≡ Some w → (a * 10 ^ length s ≤ w) × (w < (a + 1) * 10 ^ length s)
unfolding read_digits
digits_between [] a w e = let h : a ≡ w = cc in omega arith
digits_between (x ∷ s) a w e =
    let d = first-digit a x w s e in
    let p = 10 ^ length s in
    let r = digits_between s (a * 10 + (x - 48)) w d.2 in
    let low : a * 10 * p + (x - 48) * p ≤ w = rw (← add-mul) r.0 in
    let high : w < a * 10 * p + (x - 48) * p + 1 * p = rw (← add-mul, ← add-mul) r.1 in
    let digit : (x - 48) * p ≤ 9 * p = mul-le-mul_right p (omega arith) in
    let move : a * 10 * p ≡ a * p * 10 = mul_right_comm a 10 p in
    rw (pow-suc, ← mul_assoc, ← mul_assoc, add-mul) (omega arith)

-- what a number field is: at least a digit, no leading 0 where there are more, and digits alone
pub record Spells (s : List ℕ) (v : ℕ) : Type 0 where
  pub some : 1 ≤ length s
  pub few : length s ≤ 9
  pub leads : 2 ≤ length s → get_or s 0 0 ≡ 48 → ⊥
  pub digits : read_digits 0 s ≡ Some v

pub is_number : (s : List ℕ) (v : ℕ) → read_number s ≡ Some v → Spells s v
unfolding read_number
is_number s v e =
    let p = passed (leb 1 (length s) && leb (length s) 9 && (eqb (length s) 1 || not (eqb (get_or s 0 0) 48))) (read_digits 0 s) e in
    let q = (and-eq-true_iff (leb 1 (length s) && leb (length s) 9) _).0 p.0 in
    let r = (and-eq-true_iff (leb 1 (length s)) (leb (length s) 9)).0 q.0 in
    record {
      some = leb-true 1 (length s) r.0;
      few = leb-true (length s) 9 r.1;
      leads = λ h. go (eqb (length s) 1) refl q.1 h;
      digits = p.1;
    }
  where
    go : (b : Bool) → eqb (length s) 1 ≡ b → (b || not (eqb (get_or s 0 0) 48)) ≡ true → 2 ≤ length s → get_or s 0 0 ≡ 48 → ⊥
    go true l t h z = let k : length s ≡ 1 = eqb-true (length s) 1 l in omega arith
    go false l t h z = eqb-false (get_or s 0 0) 48 (not-true _ t) z

-- of two spellings of a number neither is longer
not-longer : (s t : List ℕ) (v : ℕ) → Spells s v → Spells t v → length s < length t → ⊥
not-longer s [] v m n h = omega arith
not-longer s (y ∷ t) v m n h =
    let d = first-digit 0 y v t n.digits in
    let ne : y ≡ 48 → ⊥ = n.leads (omega (arith, m.some)) in
    let low = (digits_between t (0 * 10 + (y - 48)) v d.2).0 in
    let high = (digits_between s 0 v m.digits).1 in
    let one : 1 * 10 ^ length t ≤ (0 * 10 + (y - 48)) * 10 ^ length t = mul-le-mul_right (10 ^ length t) (omega arith) in
    let up : 10 ^ length s ≤ 10 ^ length t = pow-le-pow_right (lit< tt) (omega arith) in
    omega arith

pub number-unique : (s t : List ℕ) (v : ℕ) → read_number s ≡ Some v → read_number t ≡ Some v → s ≡ t
number-unique s t v p q =
    let m = is_number s v p in
    let n = is_number t v q in
    let h : ¬ (length s < length t) = not-longer s t v m n in
    let k : ¬ (length t < length s) = not-longer t s v n m in
    (same_digits s t 0 0 v (omega arith) m.digits n.digits).1
