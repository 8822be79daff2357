-- Any order. The laws by which an analysis may be done in parts, in whatever order, and put together: of cache sets, of what is gathered over positions, and of
-- the whole equation of a task.
use Rattle.std.proofs.Common.{ℕ, ◌+◌, max, ◌<◌, zero-le, add_comm, add_assoc, arith, ◌≡◌, refl, sym, ap, ap₂, ◌∙◌, List, map}
use Rattle.std.proofs.Math.Path.{fun_ext}
use Rattle.cache.specs.Sets.{Set, ∅, ◌∪◌}
use Rattle.cache.proofs.SetLaws.{union_comm, union_assoc, union_self}
use Rattle.cache.specs.Counts.{Counts, nothing, ◌⊕◌, capped, ◌on◌, total}
use Rattle.cache.proofs.CountLaws.{on_both, total-split, add_comm as counts_comm, add_assoc as counts_assoc}
use Rattle.table.specs.Tasks.{limit_of}
use Rattle.table.specs.declared.accesses.Access.{Access}
use Rattle.table.specs.Accesses.{added_by}
use Rattle.table.specs.declared.Table.{Table}
use Rattle.table.specs.Tables.{ways_in, at}
use Rattle.search.specs.Positions.{hp}
use Rattle.search.specs.declared.demand.Term.{Term}
use Rattle.search.specs.Demand.{work_of, demand_of}
use Rattle.search.specs.declared.demand.Response.{Response}
use Rattle.search.specs.Least.{least_of, sooner, latest_of}
use Rattle.search.proofs.DemandLaws.{demand-same}
use Rattle.analysis.specs.Gather.{aff, union_of, counts_over, largest_of, hit, largest_at}
use Rattle.analysis.specs.declared.costs.Single.{Single}
use Rattle.analysis.specs.declared.costs.Single.TheVariants.{None, EcbOnly, UcbOnly, UcbUnion, EcbUnion}
use Rattle.analysis.specs.Costs.{ucb_of, ecb_of, reloads_with, term_with, term_under}
use Rattle.analysis.specs.declared.Method.{Method}
use Rattle.analysis.specs.declared.Method.TheVariants.{Of, Combined}
use Rattle.analysis.proofs.HitLaws.{larger-count, largest-count}
use Rattle.analysis.specs.Analysis.{blockers_of, counted_response, response_of}
use Rattle.laws.specs.Permutations.{Permutation, EachOnce, Unordered}
use Rattle.laws.specs.CacheSets.{SizesAddUp}
use Rattle.laws.specs.Equation.{demand_over, reloads_over, Arrangement, term_arranged, demand_arranged, answer_arranged, response_arranged}
use Rattle.laws.proofs.PermutationLaws.{once-permutation, fold-any-order}

-- ---- cache sets. Of what the code returns the same is promised by the functions of src/lib.rt

-- union is commutative and associative
pub union-unordered : Unordered ◌∪◌
union-unordered = record { comm = union_comm; assoc = union_assoc }

-- and idempotent
pub union_idempotent : (A : Set) → (A ∪ A) ≡ A
union_idempotent = union_self

-- the sizes of what is shared add up
pub sizes-add-up : (U : Counts) (A B : Set) → SizesAddUp U A B
sizes-add-up U A B = ap (λ (S : Counts). total (U on (A ∪ B)) + total S) (sym (on_both U A B)) ∙ total-split U A B

-- counts are added in any order
pub counts-unordered : Unordered ◌⊕◌
counts-unordered = record { comm = counts_comm; assoc = counts_assoc }

-- ---- gathered over positions in any order, each exactly once: `fold-any-order` (PermutationLaws.antt) is the law, for every operation that is unordered

pub sum-unordered : Unordered ◌+◌
sum-unordered = record { comm = add_comm; assoc = add_assoc }

pub largest-unordered : Unordered max
largest-unordered = record { comm = λ a b. omega arith; assoc = λ a b c. omega arith }

-- the demand: over every list that has each of hp(i) exactly once the terms have the same sum
pub demand-any-order : (own : ℕ) (terms : ℕ → Term) (i : ℕ) (ks : List ℕ) → Permutation ks (hp i) → (r : ℕ) → demand_over own terms ks r ≡ demand_of own terms i r
unfolding demand_of
demand-any-order own terms i ks p r = fold-any-order sum-unordered own (λ j. work_of r (terms j)) ks (hp i) p

-- the same in the words of `EachOnce`
pub demand-each-once : (own : ℕ) (terms : ℕ → Term) (i : ℕ) (ks : List ℕ) → EachOnce 0 i ks → (r : ℕ) → demand_over own terms ks r ≡ demand_of own terms i r
demand-each-once own terms i ks p = demand-any-order own terms i ks (once-permutation 0 i zero-le ks p)

-- a union
pub union-any-order : (F : ℕ → Set) (ks ls : List ℕ) → Permutation ks ls → union_of F ks ≡ union_of F ls
union-any-order F = fold-any-order union-unordered ∅ F

-- a sum of counts
pub counts-any-order : (F : ℕ → Counts) (ks ls : List ℕ) → Permutation ks ls → counts_over F ks ≡ counts_over F ls
counts-any-order F = fold-any-order counts-unordered nothing F

-- the largest value
pub largest-any-order : (F : ℕ → ℕ) (ks ls : List ℕ) → Permutation ks ls → largest_of F ks ≡ largest_of F ls
largest-any-order F = fold-any-order largest-unordered 0 F

-- ---- the equation of a task

-- g(i, j), whatever access adds the useful blocks X and whosever it is
module _ (ways : ℕ) (U : ℕ → Counts) (E : ℕ → Set) (X : Counts) (k i j : ℕ) (affected evicting : List ℕ) (a : Permutation affected (aff i j)) (e : Permutation evicting (hp (j + 1))) where
  largest-with : (F : ℕ → ℕ) (n : ℕ) → max (largest_of F affected) n ≡ max (largest_at F (aff i j)).reloads.0 n
  largest-with F n = ap (λ (v : ℕ). max v n) (largest-any-order F affected (aff i j) a ∙ sym (largest-count _ F (aff i j)))

  pub reloads-any-order : (m : Single) → reloads_over ways U E X m j affected evicting ≡ reloads_with ways U E X k m i j
  unfolding reloads_with
  reloads-any-order None = refl
  reloads-any-order EcbOnly = refl
  reloads-any-order UcbOnly = largest-with (λ k. total (U k)) (total X) ∙ sym (larger-count _ (hit (total X) k))
  reloads-any-order UcbUnion = ap (λ (S : Counts). total (capped ways (S ⊕ X) on E j)) (counts-any-order U affected (aff i j) a)
  reloads-any-order EcbUnion =
      ap (λ (A : Set). max (largest_of (λ k. total (U k on A)) affected) (total (X on A))) (union-any-order E evicting (hp (j + 1)) e)
      ∙ largest-with (λ k. total (U k on union_of E (hp (j + 1)))) (total (X on union_of E (hp (j + 1))))
      ∙ sym (larger-count _ (hit (total (X on union_of E (hp (j + 1)))) k))

-- the demand of the task at i while an access blocks it
pub equation-any-order : (table : Table) (a : Access) (m : Single) (i : ℕ) (arranged : Arrangement i) (r : ℕ)
    → demand_arranged table a m i arranged r ≡ demand_of ((at table i).work.0 + a.lasts.0) (term_under table a m i) i r
equation-any-order table a m i arranged r =
    demand-any-order own (term_arranged table a m i arranged) i arranged.higher arranged.higher-is r
    ∙ ap (λ (f : ℕ → ℕ). f r) (demand-same own (term_arranged table a m i arranged) (term_under table a m i) i terms)
  where
    own : ℕ
    own = (at table i).work.0 + a.lasts.0

    terms : (j : ℕ) → j < i → term_arranged table a m i arranged j ≡ term_under table a m i j
    terms j l =
        ap (λ (n : ℕ). term_with table j n)
        (reloads-any-order (ways_in table) (ucb_of table) (ecb_of table) (added_by (ways_in table) a j) a.task i j (arranged.affected j) (arranged.evicting j)
        (arranged.affected-is j l) (arranged.evicting-is j l) m)

-- its answer under a method that counts
pub answer-any-order : (table : Table) (m : Single) (i : ℕ) (arranged : Access → ℕ → Arrangement i) → answer_arranged table m i arranged ≡ counted_response table m i
unfolding counted_response
answer-any-order table m i arranged =
    ap (λ (f : Access → Response). latest_of (map f (blockers_of table i)))
    (fun_ext (λ a. ap (λ (f : ℕ → ℕ). least_of f (limit_of (at table i))) (fun_ext (λ r. equation-any-order table a m i (arranged a r) r))))

-- and its response under any
pub response-any-order : (table : Table) (m : Method) (i : ℕ) (arranged : Single → Access → ℕ → Arrangement i) → response_arranged table m i arranged ≡ response_of table m i
unfolding response_of
response-any-order table (Of m) i arranged = answer-any-order table m i (arranged m)
response-any-order table Combined i arranged =
    ap₂ sooner (answer-any-order table UcbUnion i (arranged UcbUnion)) (answer-any-order table EcbUnion i (arranged EcbUnion))
