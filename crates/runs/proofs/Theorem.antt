-- THE THEOREM: an answer of the equation bounds every job of every run.
use Prim.Native.Nat.{ℕ, suc, ◌+◌, ◌*◌, min, ◌≤◌, ◌<◌}
use native.Mathlib.Nat.{le_trans, mul_comm, mul-le-mul_left}
use native.Mathlib.Omega.{arith}
use mathlib.Core.Path.{◌≡◌, refl}
use mathlib.Core.Bool.{Bool, true}
use borrow.Author.Tests.{lt-ltb}
use Rattle.runs.specs.Sums.{sum, one}
use Rattle.runs.specs.model.Jobs.{Run, Complete, Constrained}
use Rattle.runs.specs.model.Legal.{System, Legal}
use Rattle.runs.specs.Equation.{sum_below, largest_below, used_above, added, Count, by_ecb, by_ucb, by_ucb_union, by_ecb_union, charge, Answers}
use Rattle.runs.specs.Theorem.{AnswersBound}
use Rattle.runs.proofs.SumLaws.{sum-le, sum-scale}
use Rattle.runs.proofs.SearchLaws.{any-has}
use Rattle.runs.proofs.BlockingLaws.{Rules, plain}
use Rattle.runs.proofs.ReloadLaws.{Flat, has-largest, has-sum}
use Rattle.runs.proofs.EndLaws as Core

pub rules-of : (s : System) (z : Run) → Legal s z → Rules s.tasks s.size s.accesses s.many z
rules-of s z legal = record { jobs = legal.jobs; held = legal.held; scheduled = legal.scheduled }

module _ (s : System) (z : Run) (legal : Legal s z) (sane : (j : ℕ) → j < s.size → Constrained (s.tasks j)) (i : ℕ) (there : i < s.size) where
  abbrev U : ℕ → ℕ → ℕ
  U k = (s.tasks k).useful

  abbrev Y : ℕ → ℕ → ℕ
  Y q = (s.accesses q).useful

  rules : Rules s.tasks s.size s.accesses s.many z
  rules = rules-of s z legal

  flat : Flat s.tasks s.size s.sets s.brt s.ways U (λ j. (s.tasks j).evicting) z
  flat = record {
    scheduled = plain s.tasks s.size s.accesses s.many z rules;
    evicts = legal.evicts;
    waits_only = legal.waits_only;
    useful = legal.useful;
  }

  -- what the access adds is all that it finds_alone useful, where p may pre-empt it
  adds : (q p c : ℕ) → p < (s.accesses q).ceiling → Y q c ≤ added (s.accesses q) p c
  adds q p c l = let e = lt-ltb p (s.accesses q).ceiling l in rw (e, added) (omega arith)

  abbrev E : ℕ → ℕ → Bool
  E j = (s.tasks j).evicting

  Ends : Count → Type 0
  Ends m = (R : ℕ) → Answers s m i R → R + (s.tasks i).jitter ≤ (s.tasks i).deadline → (n : ℕ) → Complete z i n (z.released i n + R)

  -- where M counts, in each cache set that p uses, no less than what each that it may pre-empt finds_alone useful there
  by-sets : (m : Count) (M : ℕ → ℕ → ℕ) (Q : ℕ → ℕ → ℕ → ℕ) → ((p k c : ℕ) → p < k → k ≤ i → min s.ways (U k c) ≤ M p c)
      → ((p : ℕ) → sum (λ c. one (E p c) * M p c) s.sets ≤ charge s (λ c. 0) m i p)
      → ((q p k c : ℕ) → p < k → k ≤ i → min s.ways (U k c) ≤ Q q p c) → ((q p c : ℕ) → p < (s.accesses q).ceiling → min s.ways (Y q c) ≤ Q q p c)
      → ((q p : ℕ) → sum (λ c. one (E p c) * Q q p c) s.sets ≤ charge s (added (s.accesses q) p) m i p) → Ends m
  unfolding Ends
  by-sets m M Q covers most covers₂ bars most₂ R answers fits =
      Core.ends-by3 s.tasks s.size s.sets s.brt s.ways U E s.accesses Y s.many z rules flat legal.lasts legal.useful_in sane i there
      (λ j. charge s (λ c. 0) m i j) (λ q j. charge s (added (s.accesses q) j) m i j) M Q covers (λ p l. most p) covers₂ bars (λ q p l. most₂ q p)
      R (record { each = answers.each; none = answers.none }) fits

  -- and where X are cache sets that p or one above uses, what each that it may pre-empt finds_alone useful in all of them
  by-victim : (m : Count) (X : ℕ → ℕ → Bool) → ((p k c : ℕ) → k ≤ p → E k c ≡ true → X p c ≡ true)
      → ((p k : ℕ) → p < k → k ≤ i → sum (λ c. one (X p c) * U k c) s.sets ≤ charge s (λ c. 0) m i p)
      → ((q p k : ℕ) → p < k → k ≤ i → sum (λ c. one (X p c) * U k c) s.sets ≤ charge s (added (s.accesses q) p) m i p)
      → ((q p : ℕ) → p < (s.accesses q).ceiling → sum (λ c. one (X p c) * Y q c) s.sets ≤ charge s (added (s.accesses q) p) m i p) → Ends m
  unfolding Ends
  by-victim m X covers most most₂ bars R answers fits =
      Core.ends-by4 s.tasks s.size s.sets s.brt s.ways U E s.accesses Y s.many z rules flat legal.lasts legal.useful_in sane i there
      (λ j. charge s (λ c. 0) m i j) (λ q j. charge s (added (s.accesses q) j) m i j) X covers most most₂ bars
      R (record { each = answers.each; none = answers.none }) fits

  ends : (m : Count) → Ends m
  unfolding charge
  ends by_ecb =
      by-sets by_ecb (λ p c. s.ways) (λ q p c. s.ways)
      (λ p k c d l. omega arith) all (λ q p k c d l. omega arith) (λ q p c l. omega arith) (λ q. all)
    where
      all : (p : ℕ) → sum (λ c. one (E p c) * s.ways) s.sets ≤ s.ways * sum (λ c. one (E p c)) s.sets
      all p = omega (arith, sum-scale (λ c. one (E p c)) s.ways s.sets, mul_comm s.ways (sum (λ c. one (E p c)) s.sets))
  ends by_ucb_union =
      by-sets by_ucb_union (λ p c. min s.ways (sum_below (λ k. U k c) i p + 0)) (λ q p c. min s.ways (sum_below (λ k. U k c) i p + added (s.accesses q) p c))
      (λ p k c d l. omega (arith, has-sum (λ k. U k c) i p k d l)) (λ p. omega arith)
      (λ q p k c d l. omega (arith, has-sum (λ k. U k c) i p k d l)) (λ q p c l. omega (arith, adds q p c l)) (λ q p. omega arith)
  ends by_ecb_union =
      by-victim by_ecb_union (used_above s) (λ p k c d e. any-has (λ k. E k c) (suc p) k (omega arith) e)
      (λ p k d l. omega (arith, member p k d l)) (λ q p k d l. omega (arith, member p k d l))
      (λ q p l. omega (
        arith,
        sum-le (λ c. one (used_above s p c) * Y q c) (λ c. one (used_above s p c) * added (s.accesses q) p c) s.sets
            (λ c b. mul-le-mul_left (one (used_above s p c)) (adds q p c l)),
      ))
    where
      member : (p k : ℕ) → p < k → k ≤ i → sum (λ c. one (used_above s p c) * U k c) s.sets ≤ largest_below (λ k. sum (λ c. one (used_above s p c) * U k c) s.sets) i p
      member p k d l = has-largest (λ k. sum (λ c. one (used_above s p c) * U k c) s.sets) i p k d l
  ends by_ucb =
      by-victim by_ucb (λ p c. true) (λ p k c d e. refl)
      (λ p k d l. omega (arith, member p k d l)) (λ q p k d l. omega (arith, member p k d l))
      (λ q p l. omega (arith, sum-le (λ c. 1 * Y q c) (added (s.accesses q) p) s.sets (λ c b. omega (arith, adds q p c l))))
    where
      member : (p k : ℕ) → p < k → k ≤ i → sum (λ c. 1 * U k c) s.sets ≤ largest_below (λ k. sum (U k) s.sets) i p
      member p k d l = le_trans (sum-le (λ c. 1 * U k c) (U k) s.sets (λ c b. omega arith)) (has-largest (λ k. sum (U k) s.sets) i p k d l)

pub answers-bound : AnswersBound
unfolding Ends
answers-bound s i R a z legal n =
    let p = ends s z legal a.sane i a.there a.count R a.answers a.in_time n in (
      p,
      Core.by-deadline s.tasks s.size s.sets s.brt s.ways (λ k. (s.tasks k).useful) (λ j. (s.tasks j).evicting) s.accesses (λ q. (s.accesses q).useful) s.many z
          (rules-of s z legal) (flat s z legal a.sane i a.there) legal.lasts legal.useful_in a.sane i a.there R n a.in_time p,
    )
