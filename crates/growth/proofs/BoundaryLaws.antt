-- What a growth means, in words of tables.
use Rattle.std.proofs.Common.{ℕ, zero, suc, ◌≤◌, ◌<◌, true, ◌&&◌, ◌≡◌, refl, sym, ap, ◌∙◌, arith, add-one, zero-le}
use Rattle.std.proofs.Math.Bool.{and-eq-true_iff, false≢true}
use Rattle.std.proofs.Math.Decide.{dec_le}
use Rattle.std.proofs.Math.Nat.{le_antisymm}
use Rattle.cache.specs.declared.units.Ticks.{Ticks}
use Rattle.search.specs.declared.demand.Response.{Response}
use Rattle.search.specs.declared.demand.Response.TheVariants.{Within, Unschedulable}
use Rattle.search.proofs.PositionLaws.{fold-none, fold_next}
use Rattle.table.specs.declared.Table.{Table}
use Rattle.table_text.specs.Readable.{Readable}
use Rattle.analysis.specs.Verdict.{verdict}
use Rattle.search.specs.Least.{has_response}
use Rattle.analysis.specs.declared.Method.{Method}
use Rattle.analysis.specs.Analysis.{response_of}
use Rattle.growth.specs.Scaling.{scaled_by}
use Rattle.growth.specs.Growth.{passes, growth_of}
use Rattle.growth.proofs.GrowthLaws.{fits-passes, passes-fits, passes-short, growth-means}
use Rattle.growth.specs.Boundary.{PassesBy, IsBoundary, IsGrowth}

-- ---- a verdict is `yes` just where every task has a response

module _ (f : ℕ → Response) where
  verdict-next : (n : ℕ) → (verdict n f && has_response (f n)) ≡ verdict (suc n) f
  verdict-next n = rw (← add-one n) (fold_next ◌&&◌ true (λ i. has_response (f i)) 0 n _ _ zero-le refl refl)

  yes-where : (n : ℕ) → ((i : ℕ) → i < n → has_response (f i) ≡ true) → verdict n f ≡ true
  yes-where zero p = fold-none ◌&&◌ true (λ i. has_response (f i)) 0
  yes-where (suc n) p =
      sym (verdict-next n) ∙ (and-eq-true_iff (verdict n f) (has_response (f n))).1 (yes-where n (λ i l. p i (omega arith)), p n (omega arith))

  where-yes : (n : ℕ) → verdict n f ≡ true → (i : ℕ) → i < n → has_response (f i) ≡ true
  where-yes zero e i l = absurd (omega arith)
  where-yes (suc n) e i l =
      let both = (and-eq-true_iff (verdict n f) (has_response (f n))).0 (verdict-next n ∙ e) in
      elim (dec_le n i) [ yes h ↦ let same : i ≡ n = omega arith in rw same both.1 | no h ↦ where-yes n both.0 i (omega arith) ]

has-some : (a : Response) → has_response a ≡ true → (R : Ticks) × (a ≡ Within R)
has-some (Within R) e = (R, refl)
has-some Unschedulable e = absurd (false≢true e)

some-has : (a : Response) → (R : Ticks) × (a ≡ Within R) → has_response a ≡ true
some-has a (R, e) = ap has_response e

-- ---- the growth

module _ (table : Table) (readable : Readable table) (m : Method) where
  yes-passes : (k : ℕ) → 1 ≤ k → passes m table k ≡ true → PassesBy table m k
  unfolding scaled_by
  yes-passes k some e =
      let fits = passes-fits table readable m k some e in
      let short = passes-short table readable m k e in
      record {
        fits = fits;
        short = short;
        responds = λ i l.
            has-some (response_of (scaled_by k table) m i)
            (where-yes (response_of (scaled_by k table) m) table.count (sym (fits-passes table readable m k some fits short) ∙ e) i l);
      }

  passes-yes : (k : ℕ) → 1 ≤ k → PassesBy table m k → passes m table k ≡ true
  unfolding scaled_by
  passes-yes k some p =
      fits-passes table readable m k some p.fits p.short
      ∙ yes-where (response_of (scaled_by k table) m) table.count (λ i l. some-has (response_of (scaled_by k table) m i) (p.responds i l))

  growth-boundary : IsBoundary table m (growth_of m table)
  growth-boundary =
      let b = growth-means table readable m in
      record {
        most = b.most;
        pass = λ k l h. yes-passes k l (b.pass k l h);
        fail = λ k l h p. false≢true (sym (b.fail k l h) ∙ passes-yes k (omega arith) p);
      }

  pub is-growth : (r : ℕ) → r ≡ growth_of m table → IsGrowth table m r
  is-growth r e =
      let b : IsBoundary table m r = rw e growth-boundary in
      record { boundary = b; only = λ s c. le_antisymm (no-more s r c b) (no-more r s b c) }
    where
      no-more : (r s : ℕ) → IsBoundary table m r → IsBoundary table m s → r ≤ s
      no-more r s b c = elim (dec_le r s) [ yes l ↦ l | no l ↦ absurd (c.fail r (omega arith) b.most (b.pass r (omega arith) (omega arith))) ]

-- ---- what `growth` promises

pub growth-promised : (table : Table) (readable : Readable table) (m : Method) (r : ℕ) → r ≡ growth_of m table
    → record { value : r ≡ growth_of m table; means : IsGrowth table m r }
growth-promised table readable m r e = record { value = e; means = is-growth table readable m r e }
