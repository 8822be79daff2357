-- Which of the methods never answers later than which.
use Rattle.std.specs.Prelude.{ℕ, ◌≡◌, Bool, true, false, nat_lt}
use Rattle.search.specs.declared.demand.Response.{Response}
use Rattle.search.specs.declared.demand.Response.TheVariants.{Within, Unschedulable}
use Rattle.search.specs.Least.{NoLater}
use Rattle.table.specs.declared.Table.{Table}
use Rattle.analysis.specs.declared.costs.Single.TheVariants.{None, EcbOnly, UcbOnly, UcbUnion, EcbUnion}
use Rattle.analysis.specs.declared.Method.TheVariants.{Of, Combined}
use Rattle.analysis.specs.Analysis.{response_of}
use Rattle.laws.specs.declared.dominance.Six.{Six}

-- the first of two responses is larger than the second, where no response is larger than any number
abbrev pub exceeds : Response → Response → Bool
exceeds a Unschedulable = false
exceeds Unschedulable (Within y) = true
exceeds (Within x) (Within y) = nat_lt y.0 x.0

-- the six responses of the task at i; method 3 is no later than 1, and method 4 no later than 2; combined is no later than either union; and method 0 than any of these
pub record SixInOrder (table : Table) (i : ℕ) (r : Six) : Type 0 where
  pub none_is : r.none ≡ response_of table (Of None) i
  pub ecb-only_is : r.ecb_only ≡ response_of table (Of EcbOnly) i
  pub ucb-only_is : r.ucb_only ≡ response_of table (Of UcbOnly) i
  pub ucb-union_is : r.ucb_union ≡ response_of table (Of UcbUnion) i
  pub ecb-union_is : r.ecb_union ≡ response_of table (Of EcbUnion) i
  pub combined_is : r.combined ≡ response_of table Combined i
  pub ucb-union_least : NoLater r.ucb_union r.ecb_only
  pub ecb-union_least : NoLater r.ecb_union r.ucb_only
  pub combined_first : NoLater r.combined r.ucb_union
  pub combined_second : NoLater r.combined r.ecb_union
  pub none_least : NoLater r.none r.combined
