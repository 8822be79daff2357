-- Facts about the terms of a row that are put in.
use Rattle.std.proofs.Common.{ℕ, ◌+◌, ◌≤◌, ◌<◌, zero-le, arith, ◌≡◌, sym, ap, ◌∙◌, below_more, length-set, get_or-set_same, get_or-set_other}
use Rattle.std.proofs.Math.Decide.{dec_lt}
use Rattle.search.specs.declared.demand.Term.{Term}
use Rattle.search.specs.Demand.{term_of}
use Rattle.search.specs.Terms.{term_in}
use Rattle.table.specs.declared.accesses.Access.{Access}
use Rattle.table.specs.declared.Table.{Table}
use Rattle.analysis.specs.declared.costs.Single.{Single}
use Rattle.analysis.specs.declared.costs.Charge.{Charge}
use Rattle.analysis.specs.Costs.{reloads_in, reloads_with, term_with, term_at, term_under}
use Rattle.analysis.proofs.CostLaws.{charge-past}
use Rattle.analysis.specs.declared.carried.Terms.{Terms}
use Rattle.analysis.specs.Carried.{terms_for, FullTerms, TermPut, HasTerms, WeighedUnder}

module _ {j : ℕ} {v : Single → Term} {x y : Terms} (p : TermPut j v x y) where
  pub put-long : FullTerms x → FullTerms y
  put-long long = record { each = λ m. rw (p.each m) (length-set (terms_for m x) j (v m) ∙ long.each m) }

  put-same : FullTerms x → j < 32 → (m : Single) → term_in (terms_for m y) j ≡ v m
  put-same long few m = rw (p.each m) (get_or-set_same (terms_for m x) j (v m) (term_of 0 0 0) (omega (arith, long.each m)))

  put-other : (m : Single) (k : ℕ) → (k ≡ j → ⊥) → term_in (terms_for m y) k ≡ term_in (terms_for m x) k
  put-other m k n = rw (p.each m) (get_or-set_other (terms_for m x) j k (v m) (term_of 0 0 0) n)

  -- one more
  pub has-next : {w : Single → ℕ → Term} → FullTerms x → j < 32 → ((m : Single) → v m ≡ w m j) → HasTerms w 0 j x → HasTerms w 0 (j + 1) y
  has-next {w} long few e h = record {
    each = λ m k a b. below_more (λ k. term_in (terms_for m y) k ≡ w m k) j
        (λ k b. put-other m k (λ z. omega arith) ∙ h.each m k zero-le b) (put-same long few m ∙ e m) k b;
  }

  -- those from j + 1 on stay
  pub has-rest : {w : Single → ℕ → Term} {i : ℕ} → HasTerms w j i x → HasTerms w (j + 1) i y
  has-rest h = record { each = λ m k a b. put-other m k (λ z. omega arith) ∙ h.each m k (omega arith) b }

pub has-none : (w : Single → ℕ → Term) (x : Terms) → HasTerms w 0 0 x
has-none w x = record { each = λ m k a b. absurd (omega arith) }

-- at the ceiling and below it nothing is added
pub term-past : (table : Table) (a : Access) (m : Single) (i j : ℕ) → a.ceiling ≤ j → term_under table a m i j ≡ term_at table m i j
unfolding reloads_with
term-past table a m i j past = ap (λ (g : Charge). term_with table j (reloads_in g)) (charge-past table a m i j past)

pub joined : (table : Table) (a : Access) (i j : ℕ) (r : Terms) → a.ceiling ≤ j → FullTerms r → HasTerms (λ m j. term_under table a m i j) 0 j r
    → HasTerms (λ m j. term_at table m i j) j i r → WeighedUnder table a i r
joined table a i j r past long h q = record {
  long = long;
  terms = record {
    each = λ m k b l. elim (dec_lt k j) [
      | yes n ↦ h.each m k zero-le n
      | no n ↦ q.each m k (omega arith) l ∙ sym (term-past table a m i k (omega arith))
    ];
  };
}
