-- How a need is found, and what it says of the response.
use Rattle.std.proofs.Common.{ℕ, ◌+◌, ◌-◌, max, ◌≤◌, ◌<◌, arith, ◌≡◌, refl, sym, ap, ap₂, ◌∙◌, Bool, true, false, cond, List, [], ◌∷◌, ◌++◌, map, append_assoc, append-nil, ltb, leb, length, get_or, take, drop, le-leb, le-ltb, lt-ltb, ltb-true, ltb-false, fold}
use Rattle.std.proofs.Math.Decide.{dec_le}
use Rattle.std.proofs.lemmas.Bool.{lt-leb}
use Rattle.std.proofs.lemmas.List.Elements.{filter_more}
use Rattle.cache.specs.declared.units.Ticks.{Ticks}
use Rattle.search.specs.declared.demand.Response.{Response}
use Rattle.search.specs.declared.demand.Response.TheVariants.{Within, Unschedulable}
use Rattle.search.specs.Least.{least_of, LeastWithin, sooner, later, latest_of}
use Rattle.search.proofs.LeastLaws.{least_of-least, least-is}
use Rattle.search.proofs.LaterLaws.{latest-front}
use Rattle.table.specs.Tasks.{limit_of}
use Rattle.table.specs.declared.accesses.Access.{Access}
use Rattle.table.specs.Accesses.{may_block, blocking, or_else, empty_access, blank_access}
use Rattle.table.proofs.BlockingLaws.{Every}
use Rattle.table.specs.declared.Table.{Table}
use Rattle.table.specs.Tables.{at, accesses_of, access_at}
use Rattle.table.specs.Accepted.{AcceptedTable}
use Rattle.analysis.specs.Analysis.{blockers_of, least_under, counted_response, response_of, MayBlock, MayBlockAt}
use Rattle.analysis.specs.declared.costs.Single.{Single}
use Rattle.analysis.specs.declared.costs.Single.TheVariants.{UcbUnion, EcbUnion}
use Rattle.analysis.specs.declared.Method.{Method}
use Rattle.analysis.specs.declared.Method.TheVariants.{Of, Combined}
use Rattle.analysis.specs.declared.need.Need.{Need}
use Rattle.analysis.specs.Needs.{is_sooner, need_with, larger_need, largest_need, needed_of, smaller_of, need_of, need_at, just_before}
use Rattle.analysis.proofs.BlockerLaws.{blockers-parts, behind-block}

-- what holds of what is needed under each method that counts holds of the need that is explained
pub need-by : (P : Need → Type 0) (table : Table) (i : ℕ) (m : Method) → ((k : Single) → P (needed_of table k i)) → P (need_of table m i)
unfolding need_of
need-by P table i (Of m) each = each m
need-by P table i Combined each = union (is_sooner (needed_of table UcbUnion i).time (needed_of table EcbUnion i).time)
  where
    union : (t : Bool) → P (cond t (needed_of table UcbUnion i) (needed_of table EcbUnion i))
    union true = each UcbUnion
    union false = each EcbUnion

-- ---- the largest need

larger-self : (a : Need) → larger_need a a ≡ a
larger-self a = pick (is_sooner a.time a.time)
  where
    pick : (t : Bool) → cond t a a ≡ a
    pick true = refl
    pick false = refl

pub largest-one : (W : Access → Need) (a : Access) → largest_need W (a ∷ []) ≡ W a
largest-one W a = larger-self (W a)

-- the order of times
sooner-than : (a t u : Response) → is_sooner a t ≡ true → is_sooner u t ≡ false → is_sooner a u ≡ true
sooner-than (Within x) (Within y) (Within z) p q = let l = ltb-true x.0 y.0 p in let k = ltb-false z.0 y.0 q in lt-ltb x.0 z.0 (omega arith)
sooner-than (Within x) Unschedulable (Within z) p q = cc
sooner-than (Within x) t Unschedulable p q = refl
sooner-than Unschedulable t u p q = cc

sooner-not : (a b : Response) → is_sooner a b ≡ true → is_sooner b a ≡ false
sooner-not (Within x) (Within y) p = let l = ltb-true x.0 y.0 p in le-ltb y.0 x.0 (omega arith)
sooner-not (Within x) Unschedulable p = refl
sooner-not Unschedulable b p = cc

no-sooner : (a b c : Response) → is_sooner a b ≡ false → is_sooner b c ≡ false → is_sooner a c ≡ false
no-sooner (Within x) (Within y) (Within z) p q = let l = ltb-false x.0 y.0 p in let k = ltb-false y.0 z.0 q in le-ltb x.0 z.0 (omega arith)
no-sooner (Within x) (Within y) Unschedulable p q = cc
no-sooner (Within x) Unschedulable c p q = cc
no-sooner Unschedulable b c p q = refl

larger-assoc : (a b c : Need) → larger_need (larger_need a b) c ≡ larger_need a (larger_need b c)
larger-assoc a b c = go (is_sooner a.time b.time) (is_sooner b.time c.time) refl refl
  where
    go : (t u : Bool) → is_sooner a.time b.time ≡ t → is_sooner b.time c.time ≡ u → larger_need (cond t b a) c ≡ larger_need a (cond u c b)
    go true true e f = rw (f, sooner-than a.time b.time c.time e (sooner-not b.time c.time f)) refl
    go true false e f = rw (f, e) refl
    go false true e f = refl
    go false false e f = rw (e, no-sooner a.time b.time c.time e f) refl

-- two that stand side by side may be one that is the larger of them
pub largest-two : (W : Access → Need) (xs ys : List Access) (a b c : Access) → W c ≡ larger_need (W a) (W b)
    → largest_need W (xs ++ (a ∷ b ∷ ys)) ≡ largest_need W (xs ++ (c ∷ ys))
largest-two W [] ys a b c e =
    ap (λ (z : Need). fold larger_need z (map W ys)) (ap (λ (z : Need). larger_need z (W b)) (larger-self (W a)) ∙ sym e ∙ sym (larger-self (W c)))
largest-two W (x ∷ xs) ys a b c e = go xs (larger_need (W x) (W x))
  where
    go : (l : List Access) (z : Need) → fold larger_need z (map W (l ++ (a ∷ b ∷ ys))) ≡ fold larger_need z (map W (l ++ (c ∷ ys)))
    go [] z = ap (λ (n : Need). fold larger_need n (map W ys)) (larger-assoc z (W a) (W b) ∙ ap (larger_need z) (sym e))
    go (y ∷ l) z = go l (larger_need z (W y))

pub largest-on : (W : Access → Need) (a : Access) (l : List Access) → largest_need W (a ∷ l) ≡ fold larger_need (W a) (map W l)
largest-on W a l = ap (λ (z : Need). fold larger_need z (map W l)) (larger-self (W a))

-- ---- one more that is asked

-- one that is asked whether it needs no less than the latest
no-less : (t w : Response) (known : Ticks) → is_sooner (later (just_before t known) w) t ≡ false → (later (just_before t known) w ≡ w) × (is_sooner w t ≡ false)
no-less (Within x) (Within y) known e =
    let l = ltb-false (max (x.0 - 1) y.0) x.0 e in (ap (λ (n : ℕ). Within (record { 0 = n })) (omega arith), le-ltb y.0 x.0 (omega arith))
no-less (Within x) Unschedulable known e = (refl, refl)
no-less Unschedulable (Within y) known e = cc
no-less Unschedulable Unschedulable known e = (refl, refl)

less : (t w : Response) (known : Ticks) → is_sooner (later (just_before t known) w) t ≡ true → is_sooner w t ≡ true
less (Within x) (Within y) known e = let l = ltb-true (max (x.0 - 1) y.0) x.0 e in lt-ltb y.0 x.0 (omega arith)
less (Within x) Unschedulable known e = cc
less Unschedulable (Within y) known e = refl
less Unschedulable Unschedulable known e = cc

-- and one that is asked whether it needs more
more : (t w : Response) → is_sooner t (later t w) ≡ true → (later t w ≡ w) × (is_sooner t w ≡ true)
more (Within x) (Within y) e =
    let l = ltb-true x.0 (max x.0 y.0) e in (ap (λ (n : ℕ). Within (record { 0 = n })) (omega arith), lt-ltb x.0 y.0 (omega arith))
more (Within x) Unschedulable e = (refl, refl)
more Unschedulable w e = cc

no-more : (t w : Response) → is_sooner t (later t w) ≡ false → is_sooner t w ≡ false
no-more (Within x) (Within y) e = let l = ltb-false x.0 (max x.0 y.0) e in le-ltb x.0 y.0 (omega arith)
no-more (Within x) Unschedulable e = cc
no-more Unschedulable w e = refl

-- what is found from one of them on
module _ (table : Table) (m : Single) (i : ℕ) where
  abbrev W : Access → Need
  W = need_with (λ a. least_under table a m i 250000000) m

  abbrev access : ℕ → Access
  access n = get_or (accesses_of table) n blank_access

  -- the largest of those that may block among the first n, of the one that was found, and of those that may behind the one at k, is the largest of all
  pub record Before (k n : ℕ) (found : Access) (time : Response) : Type 0 where
    pub is : time ≡ least_under table found m i 250000000
    pub all : largest_need W (blocking i (take n (accesses_of table)) ++ (found ∷ blocking i (drop (k + 1) (accesses_of table)))) ≡ needed_of table m i

  -- and the larger of the one that was found and of those that are left
  pub record Behind (found : Access) (time : Response) (rest : List Access) : Type 0 where
    pub is : time ≡ least_under table found m i 250000000
    pub all : fold larger_need (W found) (map W rest) ≡ needed_of table m i
    pub block : Every (λ a. MayBlock a i) rest

  pub before-begun : {k : ℕ} {time : Response} → MayBlockAt (accesses_of table) i k → time ≡ need_at table m i k → Before k k (access k) time
  unfolding needed_of access_at
  before-begun {k} h e = record { is = e; all = ap (largest_need W) (sym (blockers-parts table i k h)) }

  module _ {k n : ℕ} (few : n < length (accesses_of table)) {found : Access} {time : Response} (p : Before k (n + 1) found time) where
    abbrev rest : List Access
    rest = blocking i (drop (k + 1) (accesses_of table))

    next : blocking i (take (n + 1) (accesses_of table)) ≡ blocking i (take n (accesses_of table)) ++ cond (may_block i (access n)) (access n ∷ []) []
    next = filter_more (may_block i) (accesses_of table) n blank_access few

    pub before-none : may_block i (access n) ≡ false → Before k n found time
    before-none e = record {
      is = p.is;
      all = ap (λ (l : List Access). largest_need W (l ++ (found ∷ rest))) (sym (rw e at next ∙ append-nil (blocking i (take n (accesses_of table))))) ∙ p.all;
    }

    module _ (e : may_block i (access n) ≡ true) (known : Ticks) {own : Response} (is : own ≡ later (just_before time known) (least_under table (access n) m i 250000000)) where
      two : largest_need W (blocking i (take n (accesses_of table)) ++ (access n ∷ found ∷ rest)) ≡ needed_of table m i
      two =
          ap (largest_need W) (sym (append_assoc (blocking i (take n (accesses_of table))) (access n ∷ []) (found ∷ rest)) ∙ ap (λ (l : List Access). l ++ (found ∷ rest)) (sym (rw e at next)))
          ∙ p.all

      -- it needs no less, or less
      pub before-taken : is_sooner own time ≡ false → Before k n (access n) own
      before-taken f =
          let w = no-less time (least_under table (access n) m i 250000000) known (rw is at f) in
          let t : is_sooner (least_under table (access n) m i 250000000) (least_under table found m i 250000000) ≡ false = rw p.is at w.1 in
          record {
            is = is ∙ w.0;
            all = sym (largest-two W (blocking i (take n (accesses_of table))) rest (access n) found (access n) (rw t refl)) ∙ two;
          }

      pub before-kept : is_sooner own time ≡ true → Before k n found time
      before-kept f =
          let w = less time (least_under table (access n) m i 250000000) known (rw is at f) in
          let t : is_sooner (least_under table (access n) m i 250000000) (least_under table found m i 250000000) ≡ true = rw p.is at w in
          record {
            is = p.is;
            all = sym (largest-two W (blocking i (take n (accesses_of table))) rest (access n) found found (rw t refl)) ∙ two;
          }

  pub behind-begun : AcceptedTable table → {k : ℕ} → MayBlockAt (accesses_of table) i k → {found : Access} {time : Response} → Before k 0 found time
      → Behind found time (blocking i (drop (k + 1) (accesses_of table)))
  behind-begun accepted {k} h {found} p = record {
    is = p.is;
    all = sym (largest-on W found (blocking i (drop (k + 1) (accesses_of table)))) ∙ p.all;
    block = behind-block table i accepted k h;
  }

  module _ {found a : Access} {time : Response} {l : List Access} (p : Behind found time (a ∷ l)) {own : Response} (is : own ≡ later time (least_under table a m i 250000000)) where
    pub behind-taken : is_sooner time own ≡ true → Behind a own l
    behind-taken f =
        let w = more time (least_under table a m i 250000000) (rw is at f) in
        let t : is_sooner (least_under table found m i 250000000) (least_under table a m i 250000000) ≡ true = rw p.is at w.1 in
        record { is = is ∙ w.0; all = ap (λ (z : Need). fold larger_need z (map W l)) (sym (taken t)) ∙ p.all; block = p.block.1 }
      where
        taken : is_sooner (least_under table found m i 250000000) (least_under table a m i 250000000) ≡ true → larger_need (W found) (W a) ≡ W a
        taken t = rw t refl

    pub behind-kept : is_sooner time own ≡ false → Behind found time l
    behind-kept f =
        let w = no-more time (least_under table a m i 250000000) (rw is at f) in
        let t : is_sooner (least_under table found m i 250000000) (least_under table a m i 250000000) ≡ false = rw p.is at w in
        record { is = p.is; all = ap (λ (z : Need). fold larger_need z (map W l)) (sym (kept t)) ∙ p.all; block = p.block.1 }
      where
        kept : is_sooner (least_under table found m i 250000000) (least_under table a m i 250000000) ≡ false → larger_need (W found) (W a) ≡ W found
        kept t = rw t refl

  pub behind-all : {found : Access} {time : Response} → Behind found time [] → record { method = m; time = time; blocker = found } ≡ needed_of table m i
  behind-all {found} p = ap (λ (t : Response). record { method = m; time = t; blocker = found }) p.is ∙ p.all

  pub none-needed : blocking i (accesses_of table) ≡ [] → W empty_access ≡ needed_of table m i
  unfolding needed_of
  none-needed e = sym (largest-one W empty_access) ∙ ap (λ (l : List Access). largest_need W (or_else empty_access l)) (sym e)

-- what holds of each need holds of the largest
pub largest-by : (P : Need → Type 0) (W : Access → Need) (l : List Access) → 1 ≤ length l → Every (λ a. P (W a)) l → P (largest_need W l)
largest-by P W [] h p = absurd (omega arith)
largest-by P W (a ∷ l) h p = go l (larger_need (W a) (W a)) (either (W a) (W a) p.0 p.0) p.1
  where
    either : (x y : Need) → P x → P y → P (larger_need x y)
    either x y q r = pick (is_sooner x.time y.time)
      where
        pick : (t : Bool) → P (cond t y x)
        pick true = r
        pick false = q

    go : (r : List Access) (z : Need) → P z → Every (λ b. P (W b)) r → P (fold larger_need z (map W r))
    go [] z q e = q
    go (b ∷ r) z q e = go r (larger_need z (W b)) (either z (W b) q e.0) e.1

-- its time is the latest
larger-time : (a b : Need) → (larger_need a b).time ≡ later a.time b.time
larger-time a b = pick (is_sooner a.time b.time) ∙ time a.time b.time
  where
    pick : (t : Bool) → (cond t b a).time ≡ cond t b.time a.time
    pick true = refl
    pick false = refl

    within : (x y : Ticks) (t : Bool) → ltb x.0 y.0 ≡ t → cond t (Within y) (Within x) ≡ later (Within x) (Within y)
    within x y true e = let l = ltb-true x.0 y.0 e in ap (λ (n : ℕ). Within (record { 0 = n })) (omega arith)
    within x y false e = let l = ltb-false x.0 y.0 e in ap (λ (n : ℕ). Within (record { 0 = n })) (omega arith)

    time : (r s : Response) → cond (is_sooner r s) s r ≡ later r s
    time (Within x) (Within y) = within x y (ltb x.0 y.0) refl
    time (Within x) Unschedulable = refl
    time Unschedulable s = refl

later-self : (r : Response) → later r r ≡ r
later-self (Within x) = ap (λ (n : ℕ). Within (record { 0 = n })) (omega arith)
later-self Unschedulable = refl

largest-time : (W : Access → Need) (l : List Access) → 1 ≤ length l → (largest_need W l).time ≡ latest_of (map (λ a. (W a).time) l)
largest-time W [] h = absurd (omega arith)
largest-time W (a ∷ l) h =
    go l (larger_need (W a) (W a))
    ∙ ap (λ (r : Response). fold later r (map (λ a. (W a).time) l)) (larger-time (W a) (W a) ∙ later-self (W a).time ∙ sym (first (W a).time))
  where
    first : (r : Response) → later (Within (record { 0 = 0 })) r ≡ r
    first (Within x) = ap (λ (n : ℕ). Within (record { 0 = n })) (omega arith)
    first Unschedulable = refl

    go : (r : List Access) (z : Need) → (fold larger_need z (map W r)).time ≡ fold later z.time (map (λ a. (W a).time) r)
    go [] z = refl
    go (b ∷ r) z = go r (larger_need z (W b)) ∙ ap (λ (t : Response). fold later t (map (λ a. (W a).time) r)) (larger-time z (W b))

-- ---- a response is the need, where that is within the limit

abbrev within_limit : ℕ → Response → Response
within_limit limit (Within R) = cond (leb R.0 limit) (Within R) Unschedulable
within_limit limit Unschedulable = Unschedulable

within : (limit : ℕ) (R : Ticks) → R.0 ≤ limit → within_limit limit (Within R) ≡ Within R
within limit R h = simp (le-leb _ _ h)

past : (limit : ℕ) (R : Ticks) → limit < R.0 → within_limit limit (Within R) ≡ Unschedulable
past limit R h = simp (lt-leb _ _ h)

-- a search within a limit finds what one within a larger limit finds, where that is within the smaller
least-cut : (f : ℕ → ℕ) (limit most : ℕ) → limit ≤ most → within_limit limit (least_of f most) ≡ least_of f limit
unfolding LeastWithin
least-cut f limit most h = go (least_of f most) (least_of-least f most)
  where
    go : (a : Response) → LeastWithin f most a → within_limit limit a ≡ least_of f limit
    go (Within R) p =
        elim (dec_le R.0 limit) [
          | yes l ↦ within limit R l ∙ least-is f limit (Within R) (l, p.1, p.2)
          | no l ↦ past limit R (omega arith) ∙ least-is f limit Unschedulable (λ s e k. l (omega (arith, p.2 s e)))
        ]
    go Unschedulable p = least-is f limit Unschedulable (λ s e k. p s e (omega arith))

-- the sooner of two within a limit is the smaller, where that is within the limit
sooner-cut : (limit : ℕ) (a b : Response) → sooner (within_limit limit a) (within_limit limit b) ≡ within_limit limit (cond (is_sooner a b) a b)
sooner-cut limit (Within x) (Within y) = go (ltb x.0 y.0) refl
  where
    first : x.0 < y.0 → sooner (within_limit limit (Within x)) (within_limit limit (Within y)) ≡ within_limit limit (Within x)
    first h =
        elim (dec_le x.0 limit) [
          | yes l ↦
              elim (dec_le y.0 limit) [
                | yes k ↦ rw (within limit x l, within limit y k) (ap (λ (n : ℕ). Within (record { 0 = n })) (omega arith))
                | no k ↦ rw (within limit x l, past limit y (omega arith))
              ]
          | no l ↦ rw (past limit x (omega arith), past limit y (omega arith))
        ]

    second : y.0 ≤ x.0 → sooner (within_limit limit (Within x)) (within_limit limit (Within y)) ≡ within_limit limit (Within y)
    second h =
        elim (dec_le y.0 limit) [
          | yes l ↦
              elim (dec_le x.0 limit) [
                | yes k ↦ rw (within limit x k, within limit y l) (ap (λ (n : ℕ). Within (record { 0 = n })) (omega arith))
                | no k ↦ rw (past limit x (omega arith), within limit y l)
              ]
          | no l ↦ rw (past limit x (omega arith), past limit y (omega arith))
        ]

    go : (t : Bool) → ltb x.0 y.0 ≡ t → sooner (within_limit limit (Within x)) (within_limit limit (Within y)) ≡ within_limit limit (cond t (Within x) (Within y))
    go true e = first (ltb-true _ _ e)
    go false e = second (ltb-false _ _ e)
sooner-cut limit (Within x) Unschedulable = sooner-none (within_limit limit (Within x))
  where
    sooner-none : (a : Response) → sooner a Unschedulable ≡ a
    sooner-none (Within x) = refl
    sooner-none Unschedulable = refl
sooner-cut limit Unschedulable b = refl

-- what a limit lets pass is what was there, and within the limit
passed : (limit : ℕ) (a : Response) (R : Ticks) → within_limit limit a ≡ Within R → (a ≡ Within R) × (R.0 ≤ limit)
passed limit (Within x) R e =
    elim (dec_le x.0 limit) [
      | yes l ↦
          let same : Within x ≡ Within R = sym (within limit x l) ∙ e in
          let n : x.0 ≡ R.0 = cc in
          (same, omega arith)
      | no l ↦
          let none : Unschedulable ≡ Within R = sym (past limit x (omega arith)) ∙ e in
          let z : ◌≡◌ {A = ℕ} 0 1 = cc in
          absurd (omega arith)
    ]
passed limit Unschedulable R e = let z : ◌≡◌ {A = ℕ} 0 1 = cc in absurd (omega arith)

smaller-time : (a b : Need) → (smaller_of a b).time ≡ cond (is_sooner a.time b.time) a.time b.time
smaller-time a b = go (is_sooner a.time b.time)
  where
    go : (t : Bool) → (cond t a b).time ≡ cond t a.time b.time
    go true = refl
    go false = refl

-- the later of two within a limit is the later, where that is within the limit
later-cut : (limit : ℕ) (a b : Response) → later (within_limit limit a) (within_limit limit b) ≡ within_limit limit (later a b)
later-cut limit (Within x) (Within y) =
    elim (dec_le x.0 limit) [
      | yes l ↦
          elim (dec_le y.0 limit) [
            | yes k ↦ rw (within limit x l, within limit y k, within limit (record { 0 = max x.0 y.0 }) (omega arith))
            | no k ↦ rw (within limit x l, past limit y (omega arith), past limit (record { 0 = max x.0 y.0 }) (omega arith))
          ]
      | no l ↦ rw (past limit x (omega arith), past limit (record { 0 = max x.0 y.0 }) (omega arith))
    ]
later-cut limit (Within x) Unschedulable = none (within_limit limit (Within x))
  where
    none : (r : Response) → later r Unschedulable ≡ Unschedulable
    none (Within x) = refl
    none Unschedulable = refl
later-cut limit Unschedulable b = refl

latest-cut : (limit : ℕ) (A B : Access → Response) → ((a : Access) → within_limit limit (A a) ≡ B a) → (l : List Access)
    → within_limit limit (latest_of (map A l)) ≡ latest_of (map B l)
latest-cut limit A B e [] = within limit (record { 0 = 0 }) (omega arith)
latest-cut limit A B e (a ∷ l) =
    ap (within_limit limit) (latest-front (A a) (map A l))
    ∙ sym (later-cut limit (A a) (latest_of (map A l)))
    ∙ ap₂ later (e a) (latest-cut limit A B e l)
    ∙ sym (latest-front (B a) (map B l))

-- something may block each task
pub blockers-some : (table : Table) (i : ℕ) → 1 ≤ length (blockers_of table i)
blockers-some table i = go (blocking i (accesses_of table))
  where
    go : (l : List Access) → 1 ≤ length (or_else empty_access l)
    go [] = omega arith
    go (a ∷ l) = omega arith

module _ (table : Table) (accepted : AcceptedTable table) (i : ℕ) (held : i < table.count) where
  abbrev limit : ℕ
  limit = limit_of (at table i)

  abbrev needed : Single → Need
  needed m = needed_of table m i

  answer-cut : (m : Single) → within_limit limit (needed m).time ≡ counted_response table m i
  unfolding needed_of counted_response
  answer-cut m =
      let q = accepted.tasks i held in
      ap (within_limit limit) (largest-time _ (blockers_of table i) (blockers-some table i))
      ∙ latest-cut limit (λ a. least_under table a m i 250000000) (λ a. least_under table a m i limit)
      (λ a. least-cut _ limit 250000000 (omega (arith, q.deadline, q.period))) (blockers_of table i)

  response-cut : (m : Method) → within_limit limit (need_of table m i).time ≡ response_of table m i
  unfolding need_of response_of
  response-cut (Of m) = answer-cut m
  response-cut Combined =
      ap (within_limit limit) (smaller-time (needed UcbUnion) (needed EcbUnion))
      ∙ sym (sooner-cut limit (needed UcbUnion).time (needed EcbUnion).time)
      ∙ ap₂ sooner (answer-cut UcbUnion) (answer-cut EcbUnion)

  module _ (m : Method) (R : Ticks) where
    -- where the task has a response, under any method, the need is that response, and within the limit
    pub response-needed : response_of table m i ≡ Within R → ((need_of table m i).time ≡ Within R) × (R.0 ≤ limit)
    response-needed e = passed limit _ R (response-cut m ∙ e)

    -- and a need within the limit is the response
    pub need-responds : (need_of table m i).time ≡ Within R → R.0 ≤ limit → response_of table m i ≡ Within R
    need-responds e h = sym (response-cut m) ∙ rw e (within limit R h)
