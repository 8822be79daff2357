-- The equation of a task with its sum, and every union and largest value over tasks, taken in an order of its own.
use Rattle.std.specs.Prelude.{ℕ, ◌+◌, ◌*◌, max, ◌<◌, List, map}
use Rattle.cache.specs.Sets.{Set, size}
use Rattle.cache.specs.Counts.{Counts, ◌⊕◌, capped, ◌on◌, total}
use Rattle.table.specs.Tasks.{limit_of}
use Rattle.table.specs.declared.accesses.Access.{Access}
use Rattle.table.specs.Accesses.{added_by}
use Rattle.table.specs.declared.Table.{Table}
use Rattle.table.specs.Tables.{ways_in, at}
use Rattle.search.specs.Positions.{hp, fold_by}
use Rattle.search.specs.declared.demand.Term.{Term}
use Rattle.search.specs.Demand.{work_of}
use Rattle.search.specs.declared.demand.Response.{Response}
use Rattle.search.specs.Least.{least_of, sooner, latest_of}
use Rattle.analysis.specs.Gather.{aff, union_of, counts_over, largest_of}
use Rattle.analysis.specs.declared.costs.Single.{Single}
use Rattle.analysis.specs.declared.costs.Single.TheVariants.{None, EcbOnly, UcbOnly, UcbUnion, EcbUnion}
use Rattle.analysis.specs.Costs.{ucb_of, ecb_of, term_with}
use Rattle.analysis.specs.declared.Method.{Method}
use Rattle.analysis.specs.declared.Method.TheVariants.{Of, Combined}
use Rattle.analysis.specs.Analysis.{blockers_of}
use Rattle.laws.specs.Permutations.{Permutation}

-- the demand at r, with the terms added in the order of a list
abbrev pub demand_over : ℕ → (ℕ → Term) → List ℕ → ℕ → ℕ
demand_over own terms ks r = fold_by ◌+◌ own (λ j. work_of r (terms j)) ks

-- g(i, j) under method m where a cache set has so many ways, with X as one member more of aff(i, j), gathered over two lists: those affected, and j with those above it
abbrev pub reloads_over : ℕ → (ℕ → Counts) → (ℕ → Set) → Counts → Single → ℕ → List ℕ → List ℕ → ℕ
reloads_over ways U E X None j affected evicting = 0
reloads_over ways U E X EcbOnly j affected evicting = size (E j) * ways
reloads_over ways U E X UcbOnly j affected evicting = max (largest_of (λ k. total (U k)) affected) (total X)
reloads_over ways U E X UcbUnion j affected evicting = total (capped ways (counts_over U affected ⊕ X) on E j)
reloads_over ways U E X EcbUnion j affected evicting =
    max (largest_of (λ k. total (U k on union_of E evicting)) affected) (total (X on union_of E evicting))

-- how the positions are arranged for the equation of the task at i: those above it, those of aff(i, j), and j with those above that
pub record Arrangement (i : ℕ) : Type 0 where
  pub higher : List ℕ
  pub affected : ℕ → List ℕ
  pub evicting : ℕ → List ℕ
  pub higher-is : Permutation higher (hp i)
  pub affected-is : (j : ℕ) → j < i → Permutation (affected j) (aff i j)
  pub evicting-is : (j : ℕ) → j < i → Permutation (evicting j) (hp (j + 1))

-- what the task at j asks for while an access blocks i, and the demand of i: as `term_under` and `least_under` have them, but arranged so
abbrev pub term_arranged : Table → Access → Single → (i : ℕ) → Arrangement i → ℕ → Term
term_arranged table a m i arranged j =
    term_with table j (reloads_over (ways_in table) (ucb_of table) (ecb_of table) (added_by (ways_in table) a j) m j (arranged.affected j) (arranged.evicting j))

abbrev pub demand_arranged : Table → Access → Single → (i : ℕ) → Arrangement i → ℕ → ℕ
demand_arranged table a m i arranged = demand_over ((at table i).work.0 + a.lasts.0) (term_arranged table a m i arranged) arranged.higher

-- the answer under a method that counts, arranged in another way for each access and each time that is tried
abbrev pub answer_arranged : Table → Single → (i : ℕ) → (Access → ℕ → Arrangement i) → Response
answer_arranged table m i arranged =
    latest_of (map (λ a. least_of (λ r. demand_arranged table a m i (arranged a r) r) (limit_of (at table i))) (blockers_of table i))

-- the response under any method, arranged in another way for each that counts
abbrev pub response_arranged : Table → Method → (i : ℕ) → (Single → Access → ℕ → Arrangement i) → Response
response_arranged table (Of m) i arranged = answer_arranged table m i (arranged m)
response_arranged table Combined i arranged =
    sooner (answer_arranged table UcbUnion i (arranged UcbUnion)) (answer_arranged table EcbUnion i (arranged EcbUnion))
