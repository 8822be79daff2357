-- Facts about positions and what is gathered over them.
use Rattle.std.proofs.Common.{ℕ, zero, suc, ◌+◌, ◌-◌, ◌≤◌, ◌<◌, zero-le, eq-or-lt_of_le, add-one, arith, ◌≡◌, refl, sym, ap, ap₂, ◌∙◌, ◌⊎◌, inl, inr, List, [], ◌∷◌, ◌++◌, map, length, get_or, length-append}
use Rattle.std.proofs.Math.ListN.{get_or-append}
use Rattle.std.proofs.Math.Nat.{sub_self}
use Rattle.std.proofs.lemmas.List.{map-append, length-map, get_or_at}
use Rattle.search.specs.Positions.{run, between, hp, fold_by}

-- ---- one position more

between_next : (a k : ℕ) → a ≤ k → between a (k + 1) ≡ between a k ++ (k ∷ [])
unfolding run
between_next a k h =
    let e : k + 1 - a ≡ suc (k - a) = omega arith in
    let e' : a + (k - a) ≡ k = omega arith in
    ap (run a) e ∙ ap (λ (n : ℕ). run a (k - a) ++ (n ∷ [])) e'

pub map_next : {A : Type 0} (f : ℕ → A) (n : ℕ) → map f (hp (n + 1)) ≡ map f (hp n) ++ (f n ∷ [])
map_next f n = rw (between_next 0 n zero-le, map-append)

pub run_long : (a n : ℕ) → length (run a n) ≡ n
unfolding run
run_long a zero = refl
run_long a (suc n) = length-append (run a n) ((a + n) ∷ []) ∙ omega (arith, run_long a n)

pub map_at : {A : Type 0} (f : ℕ → A) (n j : ℕ) (d : A) → j < n → get_or (map f (hp n)) j d ≡ f j
map_at f zero j d h = absurd (omega arith)
map_at {A} f (suc n) j d h =
    ap (λ (k : ℕ). get_or (map f (hp k)) j d) (sym (add-one n)) ∙ ap (λ (xs : List A). get_or xs j d) (map_next f n)
    ∙ go (eq-or-lt_of_le (omega arith)) (map_at f n j d)
  where
    long : length (map f (hp n)) ≡ n
    long = length-map (hp n) f ∙ run_long 0 (n - 0) ∙ omega arith

    go : (j ≡ n) ⊎ (j < n) → (j < n → get_or (map f (hp n)) j d ≡ f j) → get_or (map f (hp n) ++ (f n ∷ [])) j d ≡ f j
    go (inl e) rest = rw e (get_or_at (map f (hp n)) (f n) [] d n long)
    go (inr l) rest = get_or-append (map f (hp n)) (f n ∷ []) d j (omega (arith, long)) ∙ rest l

-- two maps that agree below n
pub map_same : {A : Type 0} (f g : ℕ → A) (n : ℕ) → ((k : ℕ) → k < n → f k ≡ g k) → map f (hp n) ≡ map g (hp n)
unfolding run
map_same f g zero h = refl
map_same f g (suc n) h =
    ap (λ (k : ℕ). map f (hp k)) (sym (add-one n))
    ∙ map_next f n
    ∙ ap₂ (λ (xs : List _) (x : _). xs ++ (x ∷ [])) (map_same f g n (λ k l. h k (omega arith))) (h n (omega arith))
    ∙ sym (map_next g n)
    ∙ ap (λ (k : ℕ). map g (hp k)) (add-one n)

-- the first of them
run-first : (a n d : ℕ) → get_or (run a (suc n)) 0 d ≡ a
unfolding run
run-first a zero d = omega arith
run-first a (suc n) d = get_or-append (run a (suc n)) ((a + suc n) ∷ []) d 0 (omega (arith, run_long a (suc n))) ∙ run-first a n d

pub between_first : (a b d : ℕ) → a < b → get_or (between a b) 0 d ≡ a
between_first a b d h = let e : b - a ≡ suc (b - a - 1) = omega arith in rw e (run-first a (b - a - 1) d)

-- the first, and then the others
run-cons : (a n : ℕ) → run a (suc n) ≡ a ∷ run (a + 1) n
unfolding run
run-cons a zero = let e : a + 0 ≡ a = omega arith in rw e
run-cons a (suc n) =
    let e : a + suc n ≡ a + 1 + n = omega arith in
    ap₂ (λ (ks : List ℕ) (k : ℕ). ks ++ (k ∷ [])) (run-cons a n) e

between-front : (a b : ℕ) → a < b → between a b ≡ a ∷ between (a + 1) b
between-front a b h =
    let e : b - a ≡ suc (b - (a + 1)) = omega arith in
    ap (run a) e ∙ run-cons a (b - (a + 1))

module _ {B : Type 0} (op : B → B → B) where
  fold-snoc : (z : B) (F : ℕ → B) (ks : List ℕ) (k : ℕ) → fold_by op z F (ks ++ (k ∷ [])) ≡ op (fold_by op z F ks) (F k)
  unfolding fold_by
  fold-snoc z F [] k = refl
  fold-snoc z F (l ∷ ks) k = fold-snoc (op z (F l)) F ks k

  fold-suc : (z : B) (F : ℕ → B) (a n : ℕ) → fold_by op z F (run a (suc n)) ≡ op (fold_by op z F (run a n)) (F (a + n))
  unfolding run
  fold-suc z F a n = fold-snoc z F (run a n) (a + n)

-- a loop that gathers over the positions from `from` on: before the first, and at one more
module _ {B : Type 0} (op : B → B → B) (z : B) (F : ℕ → B) (from : ℕ) where
  pub fold-none : fold_by op z F (between from from) ≡ z
  unfolding run fold_by
  fold-none = ap (λ (n : ℕ). fold_by op z F (run from n)) (sub_self from)

  pub fold_next : (k : ℕ) (so_far it : B) → from ≤ k → so_far ≡ fold_by op z F (between from k) → it ≡ F k
      → op so_far it ≡ fold_by op z F (between from (k + 1))
  fold_next k so_far it h e f =
      ap₂ op e f ∙ sym (ap (fold_by op z F) (between_next from k h) ∙ fold-snoc op z F (between from k) k)

-- a loop that gathers from the last position up to the first: one more in front, where the grouping does not matter. A start before the first is one after it
module _ {B : Type 0} (op : B → B → B) (assoc : (a b c : B) → op (op a b) c ≡ op a (op b c)) where
  fold-in-front : (x z : B) (F : ℕ → B) (ks : List ℕ) → fold_by op (op x z) F ks ≡ op x (fold_by op z F ks)
  unfolding fold_by
  fold-in-front x z F [] = refl
  fold-in-front x z F (k ∷ ks) = ap (λ (b : B). fold_by op b F ks) (assoc x z (F k)) ∙ fold-in-front x (op z (F k)) F ks

  pub fold-front : (y z : B) (F : ℕ → B) (k to : ℕ) (it below : B) → k < to → op z (F k) ≡ op (F k) y → it ≡ F k
      → below ≡ fold_by op y F (between (k + 1) to) → op it below ≡ fold_by op z F (between k to)
  unfolding fold_by
  fold-front y z F k to it below h e f g =
      ap₂ op f g
      ∙ sym (fold-in-front (F k) y F (between (k + 1) to))
      ∙ ap (λ (b : B). fold_by op b F (between (k + 1) to)) (sym e)
      ∙ ap (fold_by op z F) (sym (between-front k to h))

-- only what stands at the positions counts
pub fold_same : {B : Type 0} (op : B → B → B) (z : B) (F G : ℕ → B) (a n : ℕ) → ((k : ℕ) → a ≤ k → k < a + n → F k ≡ G k)
    → fold_by op z F (run a n) ≡ fold_by op z G (run a n)
unfolding run fold_by
fold_same op z F G a zero p = refl
fold_same op z F G a (suc n) p =
    fold-suc op z F a n
    ∙ ap₂ op (fold_same op z F G a n (λ k h l. p k h (omega arith))) (p (a + n) (omega arith) (omega arith))
    ∙ sym (fold-suc op z G a n)

-- what holds of the start, and is kept at each position, holds of what is gathered
pub fold-keeps : {B : Type 0} (op : B → B → B) (P : B → Type 0) (z : B) (F : ℕ → B) (ks : List ℕ) → P z
    → ((b : B) (k : ℕ) → P b → P (op b (F k))) → P (fold_by op z F ks)
unfolding fold_by
fold-keeps op P z F [] start step = start
fold-keeps op P z F (k ∷ ks) start step = fold-keeps op P (op z (F k)) F ks (step z k start) step

-- a part of what is gathered, where the part of two put together is that of the parts
pub fold-part : {B C : Type 0} (op : B → B → B) (op' : C → C → C) (part : B → C) → ((a b : B) → part (op a b) ≡ op' (part a) (part b))
    → (z : B) (F : ℕ → B) (ks : List ℕ) → part (fold_by op z F ks) ≡ fold_by op' (part z) (λ k. part (F k)) ks
unfolding fold_by
fold-part op op' part h z F [] = refl
fold-part {C = C} op op' part h z F (k ∷ ks) =
    fold-part op op' part h (op z (F k)) F ks ∙ ap (λ (c : C). fold_by op' c (λ l. part (F l)) ks) (h z (F k))

-- ---- gathering over more positions, where more stands

-- places in the same order, with room for others between them
abbrev pub Rising : (ℕ → ℕ) → Type 0
Rising place = (k : ℕ) → place k < place (suc k)

module _ (place : ℕ → ℕ) (rises : Rising place) where
  pub place-lt : (a b : ℕ) → a < b → place a < place b
  place-lt a zero h = absurd (omega arith)
  place-lt a (suc b) h = go (eq-or-lt_of_le (omega arith)) (place-lt a b)
    where
      go : (a ≡ b) ⊎ (a < b) → (a < b → place a < place b) → place a < place (suc b)
      go (inl e) rest = rw e (rises b)
      go (inr l) rest = omega (arith, rest l, rises b)

  pub place-le : (a b : ℕ) → a ≤ b → place a ≤ place b
  place-le a b h = go (eq-or-lt_of_le h)
    where
      go : (a ≡ b) ⊎ (a < b) → place a ≤ place b
      go (inl e) = rw e (omega arith)
      go (inr l) = omega (arith, place-lt a b l)

-- what is gathered by op grows with each position, and with what stands there
pub record Grows {B : Type 0} (op : B → B → B) (R : B → B → Type 0) : Type 0 where
  pub same : (x : B) → R x x
  pub trans : (x y w : B) → R x y → R y w → R x w
  pub more : (x y : B) → R x (op x y)
  pub both : (x y v w : B) → R x v → R y w → R (op x y) (op v w)

module _ {B : Type 0} {op : B → B → B} {R : B → B → Type 0} (grows : Grows op R) where
  longer : (z : B) (F : ℕ → B) (a m n : ℕ) → m ≤ n → R (fold_by op z F (run a m)) (fold_by op z F (run a n))
  longer z F a m zero h = let e : m ≡ 0 = omega arith in rw e (grows.same _)
  longer z F a m (suc n) h = go (eq-or-lt_of_le h) (longer z F a m n)
    where
      go : (m ≡ suc n) ⊎ (m < suc n) → (m ≤ n → R (fold_by op z F (run a m)) (fold_by op z F (run a n)))
          → R (fold_by op z F (run a m)) (fold_by op z F (run a (suc n)))
      go (inl e) rest = rw e (grows.same _)
      go (inr l) rest = rw (fold-suc op z F a n) (grows.trans _ _ _ (rest (omega arith)) (grows.more _ _))

  module _ (place : ℕ → ℕ) (rises : Rising place) (y z : B) (start : R y z) (F G : ℕ → B) (a c : ℕ) (first : c ≤ place a) where
    by_place : (n d : ℕ) → ((k : ℕ) → a ≤ k → k < a + n → (place k < d) × R (F k) (G (place k)))
        → R (fold_by op y F (run a n)) (fold_by op z G (between c d))
    unfolding run fold_by
    by_place zero d p = grows.trans _ _ _ start (longer z G c 0 (d - c) zero-le)
    by_place (suc n) d p =
        let k = a + n in
        let q = p k (omega arith) (omega arith) in
        let before =
        by_place n (place k) (λ l h m. (place-lt place rises l k m, (p l h (omega arith)).1)) in
        let at : c ≤ place k = omega (arith, place-le place rises a k (omega arith)) in
        rw (fold-suc op y F a n)
        (grows.trans _ _ _ (grows.both _ _ _ _ before q.1)
        (rw (fold_next op z G c (place k) _ _ at refl refl) (longer z G c (place k + 1 - c) (d - c) (omega (arith, q.0)))))

    -- what stands at each position from a on and below b stands, or more, at its place from c on and below d
    pub gathered : (b d : ℕ) → ((k : ℕ) → a ≤ k → k < b → (place k < d) × R (F k) (G (place k)))
        → R (fold_by op y F (between a b)) (fold_by op z G (between c d))
    gathered b d p = by_place (b - a) d (λ k h l. p k h (omega arith))
