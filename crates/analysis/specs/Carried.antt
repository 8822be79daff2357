-- What is carried down the rows of a report: a column for each task above, and the terms of one row that the columns give.
use Rattle.std.specs.Prelude.{ℕ, ◌+◌, ◌*◌, ◌≤◌, ◌<◌, ◌≡◌, List, [], length, set, slice_index_or}
use Rattle.cache.specs.Sets.{Set, size}
use Rattle.cache.specs.Words.{members}
use Rattle.cache.specs.Counts.{Counts, ◌⊕◌, capped, ◌on◌, total}
use Rattle.cache.specs.Levels.{counts}
use Rattle.search.specs.declared.demand.Term.{Term}
use Rattle.search.specs.Positions.{between, hp}
use Rattle.search.specs.Terms.{term_in}
use Rattle.table.specs.Tasks.{no_sets}
use Rattle.table.specs.declared.accesses.Access.{Access}
use Rattle.table.specs.declared.Table.{Table}
use Rattle.table.specs.Tables.{ways_in}
use Rattle.analysis.specs.declared.costs.Single.{Single}
use Rattle.analysis.specs.declared.costs.Single.TheVariants.{None, EcbOnly, UcbOnly, UcbUnion, EcbUnion}
use Rattle.analysis.specs.Gather.{union_of, counts_over, hit, larger_of, largest_from}
use Rattle.analysis.specs.Costs.{ucb_of, ecb_of, term_at, term_under}
use Rattle.analysis.specs.declared.carried.Column.{Column}
use Rattle.analysis.specs.declared.carried.Counted.{Counted}
use Rattle.analysis.specs.declared.carried.Terms.{Terms}

-- ---- columns

-- one UCB more, that of the task at i, where there are so many ways
pub record Next (ways : ℕ) (c : Column) (ucb : Counts) (i : ℕ) (r : Column) : Type 0 where
  pub above : r.above ≡ c.above
  pub evicting : r.evicting ≡ c.evicting
  pub most : r.most ≡ larger_of c.most (hit (total ucb) i)
  pub all : counts ways r.all ≡ capped ways (counts ways c.all ⊕ ucb)
  pub shared : r.shared ≡ larger_of c.shared (hit (total (ucb on members c.above)) i)

-- the column of the task at j before row i: what is gathered over the positions from j + 1 on and below i
pub record ColumnOf (table : Table) (j i : ℕ) (c : Column) : Type 0 where
  pub above : members c.above ≡ union_of (ecb_of table) (hp (j + 1))
  pub evicting : c.evicting.0 ≡ size (ecb_of table j) * ways_in table
  pub most : c.most ≡ largest_from (j + 1) (λ k. total (ucb_of table k)) (between (j + 1) i)
  pub all : counts (ways_in table) c.all ≡ capped (ways_in table) (counts_over (ucb_of table) (between (j + 1) i))
  pub shared : c.shared ≡ largest_from (j + 1) (λ k. total (ucb_of table k on union_of (ecb_of table) (hp (j + 1)))) (between (j + 1) i)

-- no count is above what a product by the block reload time may have
pub record Small (c : Column) : Type 0 where
  pub evicting : c.evicting.0 ≤ 2048
  pub most : c.most.reloads.0 ≤ 2048
  pub shared : c.shared.reloads.0 ≤ 2048

-- the reload count that a column gives for a task with this ECB, where there are so many ways
abbrev pub count_of : ℕ → Set → Column → Single → ℕ
count_of ways ecb c None = 0
count_of ways ecb c EcbOnly = c.evicting.0
count_of ways ecb c UcbOnly = c.most.reloads.0
count_of ways ecb c UcbUnion = total (counts ways c.all on ecb)
count_of ways ecb c EcbUnion = c.shared.reloads.0

-- with one UCB more
abbrev pub count_with : ℕ → Set → Column → Counts → ℕ → Single → ℕ
count_with ways ecb c ucb k None = 0
count_with ways ecb c ucb k EcbOnly = c.evicting.0
count_with ways ecb c ucb k UcbOnly = (larger_of c.most (hit (total ucb) k)).reloads.0
count_with ways ecb c ucb k UcbUnion = total (capped ways (counts ways c.all ⊕ ucb) on ecb)
count_with ways ecb c ucb k EcbUnion = (larger_of c.shared (hit (total (ucb on members c.above)) k)).reloads.0

-- the count under a method
abbrev pub count_told : Counted → Single → ℕ
count_told n None = 0
count_told n EcbOnly = n.ecb_only.0
count_told n UcbOnly = n.ucb_only.0
count_told n UcbUnion = n.ucb_union.0
count_told n EcbUnion = n.ecb_union.0

pub record FewReloadsCounted (n : Counted) : Type 0 where
  pub ecb_only : n.ecb_only.0 ≤ 2048
  pub ucb_only : n.ucb_only.0 ≤ 2048
  pub ucb_union : n.ucb_union.0 ≤ 2048
  pub ecb_union : n.ecb_union.0 ≤ 2048

-- the column at j of a list
abbrev pub no_column : Column
no_column = record { above = no_sets; evicting = record { 0 = 0 }; most = hit 0 0; all = record { levels = [] }; shared = hit 0 0 }

abbrev pub column_in : List Column → ℕ → Column
column_in ledger j = slice_index_or ledger j no_column

-- the ledger before row i: a column for each task above it
pub record Ledger (table : Table) (i : ℕ) (ledger : List Column) : Type 0 where
  pub long : table.count ≤ length ledger
  pub columns : (j : ℕ) → j < i → ColumnOf table j i (column_in ledger j)

-- inside row i: the columns before j are carried past it, the others down to it
pub record LedgerInRow (table : Table) (i j : ℕ) (ledger : List Column) : Type 0 where
  pub long : table.count ≤ length ledger
  pub past : (k : ℕ) → k < j → ColumnOf table k (i + 1) (column_in ledger k)
  pub ahead : (k : ℕ) → j ≤ k → k < i → ColumnOf table k i (column_in ledger k)

-- ---- the terms of a row

-- those under a method
abbrev pub terms_for : Single → Terms → List Term
terms_for None r = r.none
terms_for EcbOnly r = r.ecb_only
terms_for UcbOnly r = r.ucb_only
terms_for UcbUnion r = r.ucb_union
terms_for EcbUnion r = r.ecb_union

pub record FullTerms (r : Terms) : Type 0 where
  pub each : (m : Single) → length (terms_for m r) ≡ 32

-- under each method one term put in
pub record TermPut (j : ℕ) (v : Single → Term) (before after : Terms) : Type 0 where
  pub each : (m : Single) → terms_for m after ≡ set (terms_for m before) j (v m)

-- the terms w of the tasks from a on and below b
pub record HasTerms (w : Single → ℕ → Term) (a b : ℕ) (r : Terms) : Type 0 where
  pub each : (m : Single) (j : ℕ) → a ≤ j → j < b → term_in (terms_for m r) j ≡ w m j

-- those of row i that the table gives, and while an access blocks i
pub record Weighed (table : Table) (i : ℕ) (r : Terms) : Type 0 where
  pub long : FullTerms r
  pub terms : HasTerms (λ m j. term_at table m i j) 0 i r

pub record WeighedUnder (table : Table) (a : Access) (i : ℕ) (r : Terms) : Type 0 where
  pub long : FullTerms r
  pub terms : HasTerms (λ m j. term_under table a m i j) 0 i r

-- the terms of row i, and the ledger carried past it
pub record RowWeighed (table : Table) (i : ℕ) (ledger : List Column) (r : Terms) : Type 0 where
  pub carried : Ledger table (i + 1) ledger
  pub weighed : Weighed table i r
