-- What a response means.
use Rattle.std.proofs.Common.{ℕ, zero, suc, List, [], ◌∷◌, Some, None, length, map, ◌≡◌, ◌≤◌, ◌<◌, min, inl, inr, refl, sym, ap, subst, ◌∙◌, arith, get_or}
use Rattle.std.specs.List.{All, Any}
use Rattle.std.proofs.lemmas.List.{get_or-map, length-map, get_or_default}
use Rattle.std.proofs.Math.Decide.{dec_le}
use Rattle.std.proofs.Math.Nat.{le_antisymm}
use Rattle.search.specs.declared.demand.Response.{Response}
use Rattle.search.specs.declared.demand.Response.TheVariants.{Within, Unschedulable}
use Rattle.search.specs.Least.{NoLater, sooner, IsLatest}
use Rattle.search.specs.Positions.{front}
use Rattle.search.proofs.FrontLaws.{front_at}
use Rattle.search.proofs.LeastLaws.{least-unique}
use Rattle.table.specs.Tasks.{limit_of}
use Rattle.table.specs.declared.accesses.Access.{Access}
use Rattle.table.specs.Accesses.{blank_access}
use Rattle.table.specs.declared.Table.{Table}
use Rattle.table.specs.Tables.{at}
use Rattle.analysis.specs.declared.costs.Single.{Single}
use Rattle.analysis.specs.declared.costs.Single.TheVariants.{UcbUnion, EcbUnion}
use Rattle.analysis.specs.declared.Method.{Method}
use Rattle.analysis.specs.declared.Method.TheVariants.{Of, Combined}
use Rattle.analysis.specs.Analysis.{methods, blockers_of, least_under, counted_response, response_of}
use Rattle.analysis.specs.declared.rows.Row.{Row}
use Rattle.analysis.specs.Rows.{row_of, no_row, answer_at, AreResponses}
use Rattle.analysis.proofs.AnswerLaws.{answer-means, least-means}
use Rattle.analysis.specs.Responses.{demand_while, IsLeastWhile, IsLatestLeast, IsCounted, IsSooner, IsResponse}

-- two answers of which none is later are the same
no-later-both : (a b : Response) → NoLater a b → NoLater b a → a ≡ b
unfolding NoLater
no-later-both (Within x) (Within y) p q = ap (λ (n : ℕ). Within (record { 0 = n })) (le_antisymm p q)
no-later-both (Within x) Unschedulable p q = absurd q
no-later-both Unschedulable (Within y) p q = absurd p
no-later-both Unschedulable Unschedulable p q = refl

-- the latest of the answers of some accesses, in the words of what each answer is
module _ (A : Access → Response) (Least : Response → Access → Type 0) (least : (a : Access) → Least (A a) a)
    (unique : (a : Access) (x y : Response) → Least x a → Least y a → x ≡ y) (l : List Access) (r : Response) (p : IsLatest (map A l) r) where
  latest-each : All (λ a. (s : Response) → Least s a → NoLater s r) l
  latest-each k d h s q =
      let here : k < length (map A l) = rw (length-map l A) h in
      let is = sym (get_or-map A l k d Unschedulable h) in
      subst (λ (x : Response). NoLater x r) (sym is ∙ unique (get_or l k d) _ s (least (get_or l k d)) q) (p.each k here)

  latest-one : Any (Least r) l
  latest-one =
      let w = p.one in
      let h : w.0 < length l = rw (← length-map l A) w.1 in
      let a = get_or l w.0 blank_access in
      let is : A a ≡ r = sym (get_or-map A l w.0 blank_access Unschedulable h) ∙ w.2 in
      (w.0, a, h, get_or_default l w.0 a blank_access h, subst (λ (x : Response). Least x a) is (least a))

module _ (table : Table) (m : Single) (i : ℕ) where
  least : (a : Access) → IsLeastWhile table m i (least_under table a m i (limit_of (at table i))) a
  least a = least-means table a m i (limit_of (at table i))

  unique : (a : Access) (x y : Response) → IsLeastWhile table m i x a → IsLeastWhile table m i y a → x ≡ y
  unique a x y = least-unique (demand_while table m i a) (limit_of (at table i)) x y

  answer-latest : IsLatestLeast table m i (counted_response table m i)
  answer-latest =
      let A : Access → Response = λ a. least_under table a m i (limit_of (at table i)) in
      record {
        each = latest-each A (IsLeastWhile table m i) least unique (blockers_of table i) _ (answer-means table m i);
        one = latest-one A (IsLeastWhile table m i) least unique (blockers_of table i) _ (answer-means table m i);
      }

  -- it is no later than any other that is so
  latest-first : (r s : Response) → IsLatestLeast table m i r → IsLatestLeast table m i s → NoLater r s
  latest-first r s p q =
      let w = p.one in
      let Q : Access → Type 0 = λ a. (x : Response) → IsLeastWhile table m i x a → NoLater x s in
      subst Q w.3 (q.each w.0 w.1 w.2) r w.4

  is-counted : IsCounted table m i (counted_response table m i)
  is-counted = record { latest = answer-latest; only = λ s q. no-later-both s _ (latest-first s _ q answer-latest) (latest-first _ s answer-latest q) }

-- the sooner of two
pub is-sooner : (a b : Response) → IsSooner a b (sooner a b)
unfolding NoLater
is-sooner (Within x) (Within y) = record { first = omega arith; second = omega arith; one = elim (dec_le x.0 y.0) [ yes l ↦ inl (least x.0 y.0 l) | no l ↦ inr (other x.0 y.0 (omega arith)) ] }
  where
    least : (a b : ℕ) → a ≤ b → Within (record { 0 = min a b }) ≡ Within (record { 0 = a })
    least a b l = ap (λ (n : ℕ). Within (record { 0 = n })) (omega arith)

    other : (a b : ℕ) → b ≤ a → Within (record { 0 = min a b }) ≡ Within (record { 0 = b })
    other a b l = ap (λ (n : ℕ). Within (record { 0 = n })) (omega arith)
is-sooner (Within x) Unschedulable = record { first = omega arith; second = tt; one = inl refl }
is-sooner Unschedulable (Within y) = record { first = tt; second = omega arith; one = inr refl }
is-sooner Unschedulable Unschedulable = record { first = tt; second = tt; one = inl refl }

-- what `respond` promises
pub response-is : (table : Table) (m : Method) (i : ℕ) → IsResponse table m i (response_of table m i)
unfolding response_of
response-is table (Of m) i = is-counted table m i
response-is table Combined i = record {
  by_ucb = counted_response table UcbUnion i;
  by_ecb = counted_response table EcbUnion i;
  ucb_union = is-counted table UcbUnion i;
  ecb_union = is-counted table EcbUnion i;
  sooner = is-sooner (counted_response table UcbUnion i) (counted_response table EcbUnion i);
}

pub response-promised : (table : Table) (m : Method) (i : ℕ) (r : Response) → r ≡ response_of table m i
    → record { value : r ≡ response_of table m i; means : IsResponse table m i r }
response-promised table m i r e = record { value = e; means = subst (IsResponse table m i) (sym e) (response-is table m i) }

-- what `rows::responses` promises
picked : {A : Type 0} (f : Method → A) (l : List Method) (n : ℕ) (m : Method) (d : A) → get_or (map Some l) n None ≡ Some m → get_or (map f l) n d ≡ f m
picked f [] n m d e = let z : ◌≡◌ {A = ℕ} 0 1 = cc in absurd (omega arith)
picked f (k ∷ l) zero m d e = let same : k ≡ m = cc in ap f same
picked f (k ∷ l) (suc n) m d e = picked f l n m d e

rows-are : (table : Table) → AreResponses table (front no_row (row_of table) table.count)
rows-are table i h n m e =
    let is : answer_at (front no_row (row_of table) table.count) i n ≡ response_of table m i =
    ap (λ (r : Row). get_or r.responses n Unschedulable) (front_at no_row (row_of table) table.count i no_row h) ∙ picked (λ m. response_of table m i) methods n m Unschedulable e in
    subst (IsResponse table m i) (sym is) (response-is table m i)

pub rows_mean : (table : Table) (rows : List Row) → rows ≡ front no_row (row_of table) table.count → AreResponses table rows
rows_mean table rows e = subst (AreResponses table) (sym e) (rows-are table)
