-- Facts about the counts that are kept from turn to turn.
use Rattle.std.proofs.Common.{ℕ, ◌+◌, ◌-◌, ◌*◌, ◌≤◌, ◌<◌, zero-le, div-mul-le_self, le_antisymm, lt_of_not-le, mul-le-mul, mul-le-mul_left, mul-le-mul_right, arith, ◌≡◌, refl, sym, ap, ap₂, ◌∙◌, Bool, true, false, cond, List, ltb, below_more, ltb-true, ltb-false, length, set, take, length-set, get_or-set_same, get_or-set_other}
use Rattle.std.proofs.Math.Decide.{dec_le}
use Rattle.std.proofs.lemmas.List.{get_or-take, length-take}
use Rattle.search.specs.declared.demand.Term.{Term}
use Rattle.search.specs.Positions.{front}
use Rattle.search.specs.Demand.{ceil, activations_of, demand_of, NoMore}
use Rattle.search.specs.Terms.{term_in, InRange, NoOverflow}
use Rattle.search.specs.Least.{Reached}
use Rattle.search.specs.declared.response.Count.{Count}
use Rattle.search.specs.Counts.{count, count_in, once, missing_of, raised_to, asked_of, CountsHold, Raised, Started}
use Rattle.search.proofs.PositionLaws.{fold-none, fold_next, fold_same}
use Rattle.search.proofs.FrontLaws.{front_at, front_long}
use Rattle.search.proofs.LeastLaws.{solution-under, reached-below}
use Rattle.search.proofs.DemandLaws.{ceil-le, ceil-mul, ceil-is, ceil-most, activations-mono, activations-some, no-more-self}
use Rattle.search.proofs.DemandLaws.{sum-le, demand-next, demand_own, demand-shift, demand-same, demand-mono, demand-more}

-- ---- the activations that are missing

module _ (period end r : ℕ) (live : 1 ≤ period) where
  -- none where the count holds up to r
  pub missing-none : r ≤ end → 0 ≡ missing_of period end r
  missing-none l = sym (le_antisymm ((ceil-le (r - end) 0 period live).1 (omega arith)) zero-le)

  pub missing-most : missing_of period end r ≤ r
  missing-most = ceil-most (r - end) r period live (omega arith)

  -- some may be told before the others
  pub missing-after : (k : ℕ) → end + k * period ≤ r → k + missing_of period (end + k * period) r ≡ missing_of period end r
  missing-after k l =
      let x = r - (end + k * period) in
      ceil-is (r - end) (k + ceil x period) period live
      (omega (arith, ceil-mul x period live)) (omega (arith, div-mul-le_self (x + (period - 1)) period))

  -- a first one, where r is past the end, may be all
  pub missing-one : (one : ℕ) → one ≡ cond (ltb end r) 1 0 → r ≤ end + one * period → one ≡ missing_of period end r
  missing-one one e l = go (ltb end r) refl e
    where
      go : (b : Bool) → ltb end r ≡ b → one ≡ cond b 1 0 → one ≡ missing_of period end r
      go true t e = ceil-is (r - end) one period live (omega arith) (omega (arith, ltb-true end r t, ap (λ (k : ℕ). k * period) e))
      go false t e = e ∙ missing-none (ltb-false end r t)

  -- a count that is raised holds up to an end that is less than a period past r
  pub missing-end : period ≤ 250000000 → r ≤ 250000000 → end ≤ 500000000 → end + missing_of period end r * period ≤ 500000000
  missing-end p h e = elim (dec_le r end) [
    | yes l ↦ rw (← missing-none l) (omega arith)
    | no l ↦ omega (arith, lt_of_not-le l, div-mul-le_self (r - end + (period - 1)) period)
  ]

  -- and is no more than a count that holds up to r
  pub missing-under : (jitter count more : ℕ) → end + jitter ≡ count * period → r + jitter ≤ (count + more) * period
      → missing_of period end r ≤ more
  missing-under jitter count more e h = (ceil-le (r - end) more period live).1 (omega arith)

-- ---- what counts ask for

-- one of them
pub asks-bound : (c w : ℕ) → c ≤ 1000000000 → w ≤ 500000000 → c * w ≤ 500000000000000000
asks-bound c w h k = mul-le-mul {n₂ = 1000000000} {m₂ = 500000000} h k

module _ (own : ℕ) (t : ℕ → Term) where
  pub asked-none : (counts : List Count) → asked_of own t counts 0 ≡ own
  unfolding asked_of
  asked-none counts = fold-none ◌+◌ own (λ j. (count_in counts j).activations * (t j).weight.0) 0

  pub asked-next : (counts : List Count) (n : ℕ)
      → asked_of own t counts (n + 1) ≡ asked_of own t counts n + (count_in counts n).activations * (t n).weight.0
  unfolding asked_of
  asked-next counts n = sym (fold_next ◌+◌ own (λ j. (count_in counts j).activations * (t j).weight.0) 0 n _ _ zero-le refl refl)

  -- only the first n counts matter
  asked-same : (a b : List Count) (n : ℕ) → ((j : ℕ) → j < n → count_in a j ≡ count_in b j) → asked_of own t a n ≡ asked_of own t b n
  unfolding asked_of
  asked-same a b n p = fold_same ◌+◌ own _ _ 0 (n - 0) (λ j _ l. ap (λ (c : Count). c.activations * (t j).weight.0) (p j (omega arith)))

  -- counts that are no more than the activations ask for no more than the demand, and the other way round
  module _ (counts : List Count) (s : ℕ) where
    asked-under : (n : ℕ) → ((j : ℕ) → j < n → (count_in counts j).activations ≤ activations_of s (t j))
        → asked_of own t counts n ≤ demand_of own t n s
    unfolding asked_of demand_of
    asked-under n p = sum-le own _ _ n (λ j l. mul-le-mul_right (t j).weight.0 (p j l))

    asked-over : (n : ℕ) → ((j : ℕ) → j < n → activations_of s (t j) ≤ (count_in counts j).activations)
        → demand_of own t n s ≤ asked_of own t counts n
    unfolding asked_of demand_of
    asked-over n p = sum-le own _ _ n (λ j l. mul-le-mul_right (t j).weight.0 (p j l))

  -- with one count more, which is new
  pub asked-raised : (counts : List Count) (i : ℕ) (c : Count) → i < length counts
      → asked_of own t (set counts i c) (i + 1) ≡ asked_of own t counts i + c.activations * (t i).weight.0
  asked-raised counts i c l =
      asked-next (set counts i c) i
      ∙ ap₂ (λ (a : ℕ) (c : Count). a + c.activations * (t i).weight.0)
      (asked-same _ _ i (λ j m. get_or-set_other counts i j c (count 0 0) (λ z. omega arith)))
      (get_or-set_same counts i c (count 0 0) l)

-- the counts that are raised so far, and those that are not
pub record Passed (t : ℕ → Term) (r : ℕ) (counts : List Count) (i : ℕ) (to : List Count) : Type 0 where
  pub raised : Raised t r counts i to
  pub rest : (j : ℕ) → i ≤ j → count_in to j ≡ count_in counts j

module _ (t : ℕ → Term) (r : ℕ) (counts : List Count) where
  pub passed_none : Passed t r counts 0 counts
  passed_none = record { raised = record { long = refl; each = λ j l. absurd (omega arith) }; rest = λ j l. refl }

  pub passed-next : (i : ℕ) (to : List Count) (c : Count) → i < length to → c ≡ raised_to (t i) r (count_in to i)
      → Passed t r counts i to → Passed t r counts (i + 1) (set to i c)
  passed-next i to c h e p = record {
    raised = record {
      long = simp length-set p.raised.long;
      each = below_more (λ j. count_in (set to i c) j ≡ raised_to (t j) r (count_in counts j)) i
          (λ j l. get_or-set_other to i j c (count 0 0) (λ z. omega arith) ∙ p.raised.each j l)
          (get_or-set_same to i c (count 0 0) h ∙ e ∙ ap (raised_to (t i) r) (p.rest i (omega arith)));
    };
    rest = λ j l. get_or-set_other to i j c (count 0 0) (λ z. omega arith) ∙ p.rest j (omega arith);
  }

-- counts of which the first n hold
pub held-front : (counts : List Count) (n r : ℕ) → n ≤ length counts
    → ((j : ℕ) → j < length (take n counts) → r ≤ (count_in (take n counts) j).end.0) → (j : ℕ) → j < n → r ≤ (count_in counts j).end.0
held-front counts n r h p j l = rw (get_or-take n counts j (count 0 0) l) at (p j (omega (arith, length-take n counts)))

-- ---- counts to start from

-- how large a count is
pub kept-few : (t : Term) (c : Count) → InRange t → c.end.0 ≤ 500000000 → c.end.0 + t.jitter.0 ≡ c.activations * t.period.0 → c.activations ≤ 750000000
kept-few t c p soon holds =
    omega (arith, mul-le-mul_left c.activations p.period, holds, soon, p.jitter, p.period-most)

module _ {own limit : ℕ} {terms : List Term} (handed : NoOverflow own terms limit) where
  -- what one of them asks for
  pub asks-kept : {counts : List Count} → CountsHold (term_in terms) (length terms) counts → (j : ℕ) → j < length terms
      → (count_in counts j).activations * (term_in terms j).weight.0 ≤ 500000000000000000
  asks-kept k j l =
      let p = handed.ranged j l in asks-bound _ _ (omega (arith, kept-few _ _ p (k.soon j l) (k.holds j l))) p.weight

  -- one activation of each term
  pub ones-started : Started own (term_in terms) (length terms) (front (count 0 0) (λ j. once (term_in terms j)) (length terms))
  ones-started = record {
    kept = record {
      long = omega (arith, front_long (count 0 0) (λ j. once (term_in terms j)) (length terms) handed.few, handed.few);
      soon = λ j l. rw (one j l) (omega (arith, (handed.ranged j l).period-most));
      holds = λ j l. rw (one j l) (omega (arith, (handed.ranged j l).jitter));
    };
    under = λ s e j l. rw (one j l) (activations-some s _ (handed.ranged j l) (omega (arith, handed.own-least, demand_own own (term_in terms) s (length terms))));
  }
    where
      one : (j : ℕ) → j < length terms → count_in (front (count 0 0) (λ j. once (term_in terms j)) (length terms)) j ≡ once (term_in terms j)
      one j l = front_at (count 0 0) (λ j. once (term_in terms j)) (length terms) j (count 0 0) l

  module _ {counts : List Count} (started : Started own (term_in terms) (length terms) counts) where
    -- the search may go on from what they ask for
    pub asked-reached : Reached (demand_of own (term_in terms) (length terms)) (asked_of own (term_in terms) counts (length terms))
    asked-reached =
        reached-below _ (demand-mono (term_in terms) (length terms) own handed.ranged) _
        (λ s e. omega (arith, asked-under own (term_in terms) counts s (length terms) (started.under s e)))

    -- and ends there where all of them hold up to it
    pub asked-settled : (r : ℕ) → r ≡ asked_of own (term_in terms) counts (length terms)
        → ((j : ℕ) → j < length terms → r ≤ (count_in counts j).end.0) → r ≡ demand_of own (term_in terms) (length terms) r
    asked-settled r is hold =
        le_antisymm (rw (← is) at asked-reached.rises) (rw (← is) at (asked-over own (term_in terms) counts r (length terms) covers))
      where
        covers : (j : ℕ) → j < length terms → activations_of r (term_in terms j) ≤ (count_in counts j).activations
        covers j l =
            (ceil-le (r + (term_in terms j).jitter.0) (count_in counts j).activations (term_in terms j).period.0 (handed.ranged j l).period).1
            (omega (arith, hold j l, started.kept.holds j l))

    -- raised up to a time that no solution is below
    pub raised-started : (r : ℕ) (to : List Count) → r ≤ 250000000 → Reached (demand_of own (term_in terms) (length terms)) r
        → Raised (term_in terms) r counts (length terms) to → Started own (term_in terms) (length terms) to
    raised-started r to h at p = record {
      kept = record {
        long = omega (arith, p.long, started.kept.long);
        soon = λ j l. rw (p.each j l)
            (missing-end _ _ _ (handed.ranged j l).period (handed.ranged j l).period-most h (started.kept.soon j l));
        holds = λ j l. rw (p.each j l) (omega (arith, started.kept.holds j l));
      };
      under = λ s e j l. rw (p.each j l) (raised-under s e j l (started.under s e j l));
    }
      where
        raised-under : (s : ℕ) → s ≡ demand_of own (term_in terms) (length terms) s → (j : ℕ) → j < length terms
            → (count_in counts j).activations ≤ activations_of s (term_in terms j)
            → (raised_to (term_in terms j) r (count_in counts j)).activations ≤ activations_of s (term_in terms j)
        raised-under s e j l k =
            let t = term_in terms j in
            let c = (count_in counts j).activations in
            let a = activations_of s t in
            let is : c + (a - c) ≡ a = omega arith in
            let m = missing-under t.period.0 (count_in counts j).end.0 r (handed.ranged j l).period t.jitter.0 c (a - c) (started.kept.holds j l)
            (rw is (omega (arith, at.below s e, ceil-mul (s + t.jitter.0) t.period.0 (handed.ranged j l).period))) in
            omega arith

-- only the first n terms matter
pub started-same : (own n : ℕ) (t f : ℕ → Term) (counts : List Count) → ((j : ℕ) → j < n → t j ≡ f j) → Started own t n counts → Started own f n counts
started-same own n t f counts same p = record {
  kept = record { long = p.kept.long; soon = p.kept.soon; holds = λ j l. rw (← same j l) (p.kept.holds j l) };
  under = λ s e j l. rw (← same j l) (p.under s (e ∙ ap (λ (g : ℕ → ℕ). g s) (sym (demand-same own t f n same))) j l);
}

-- with a term more, which is activated once, for a task whose own work and that term's weight make up for the own work before
pub started-next : (c d n : ℕ) (t : ℕ → Term) (counts : List Count) → n < length counts → 1 ≤ d → c ≤ d + (t n).weight.0
    → ((j : ℕ) → j < n + 1 → InRange (t j)) → Started c t n counts → Started d t (n + 1) (set counts n (once (t n)))
started-next c d n t counts few own enough ranged p = record {
  kept = record {
    long = omega (arith, few, long);
    soon = below_more (λ j. (count_in (set counts n o) j).end.0 ≤ 500000000) n
        (λ j l. rw (other j l) (p.kept.soon j l))
        (rw same (omega (arith, here.period-most)));
    holds = below_more (λ j. (count_in (set counts n o) j).end.0 + (t j).jitter.0 ≡ (count_in (set counts n o) j).activations * (t j).period.0) n
        (λ j l. rw (other j l) (p.kept.holds j l))
        (rw same (omega (arith, here.jitter)));
  };
  under = λ s f. below_more (λ j. (count_in (set counts n o) j).activations ≤ activations_of s (t j)) n
      (λ j l. rw (other j l) (below s f j l))
      (rw same (once_more s f));
}
  where
    o : Count
    o = once (t n)

    here : InRange (t n)
    here = ranged n (omega arith)

    long : length (set counts n o) ≡ length counts
    long = length-set counts n o

    other : (j : ℕ) → j < n → count_in (set counts n o) j ≡ count_in counts j
    other j l = get_or-set_other counts n j o (count 0 0) (λ z. omega arith)

    same : count_in (set counts n o) n ≡ o
    same = get_or-set_same counts n o (count 0 0) few

    once_more : (s : ℕ) → s ≡ demand_of d t (n + 1) s → 1 ≤ activations_of s (t n)
    once_more s f = activations-some s (t n) here (omega (arith, demand_own d t s (n + 1)))

    below : (s : ℕ) → s ≡ demand_of d t (n + 1) s → (j : ℕ) → j < n → (count_in counts j).activations ≤ activations_of s (t j)
    below s f j l =
        let more = mul-le-mul_right (t n).weight.0 (once_more s f) in
        let w = solution-under _ (demand-mono t n c (λ k m. ranged k (omega arith))) s
        (omega (arith, demand-shift c d t s n, demand-next d t s n, more)) in
        omega (arith, p.under w.0 w.2 j l, activations-mono w.0 s w.1 (t j) (t j) (no-more-self (t j) (ranged j (omega arith))))

-- for terms of the same periods and jitters that ask for more, and more work of the task's own, they are counts to start from as well
pub started-harder : (c d n : ℕ) (t f : ℕ → Term) (counts : List Count) → ((j : ℕ) → j < n → InRange (t j))
    → ((j : ℕ) → j < n → NoMore (t j) (f j)) → ((j : ℕ) → j < n → ((f j).period ≡ (t j).period) × ((f j).jitter ≡ (t j).jitter))
    → c ≤ d → Started c t n counts → Started d f n counts
started-harder c d n t f counts ranged more same own p = record {
  kept = record { long = p.kept.long; soon = p.kept.soon; holds = λ j l. rw ((same j l).0, (same j l).1) (p.kept.holds j l) };
  under = under;
}
  where
    under : (s : ℕ) → s ≡ demand_of d f n s → (j : ℕ) → j < n → (count_in counts j).activations ≤ activations_of s (f j)
    under s e j l =
        let w = solution-under _ (demand-mono t n c ranged) s (omega (arith, demand-more t f n c d own more s)) in
        omega (arith, p.under w.0 w.2 j l, activations-mono w.0 s w.1 (t j) (f j) (more j l))
