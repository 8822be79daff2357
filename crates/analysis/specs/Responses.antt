-- What a response is, without a word of how it is found.
use Rattle.std.specs.Prelude.{ℕ, ◌+◌, ◌≡◌, ◌⊎◌, All, Any}
use Rattle.search.specs.declared.demand.Response.{Response}
use Rattle.search.specs.Demand.{demand_of}
use Rattle.search.specs.Least.{LeastWithin, NoLater}
use Rattle.table.specs.Tasks.{limit_of}
use Rattle.table.specs.declared.accesses.Access.{Access}
use Rattle.table.specs.declared.Table.{Table}
use Rattle.table.specs.Tables.{at}
use Rattle.analysis.specs.declared.costs.Single.{Single}
use Rattle.analysis.specs.declared.costs.Single.TheVariants.{UcbUnion, EcbUnion}
use Rattle.analysis.specs.Costs.{term_under}
use Rattle.analysis.specs.declared.Method.{Method}
use Rattle.analysis.specs.declared.Method.TheVariants.{Of, Combined}
use Rattle.analysis.specs.Analysis.{blockers_of}

-- the demand of the task at i while an access blocks it
abbrev pub demand_while : Table → Single → ℕ → Access → ℕ → ℕ
demand_while table m i a = demand_of ((at table i).work.0 + a.lasts.0) (term_under table a m i) i

-- r is the smallest number up to D - J that equals it, or says that there is none
abbrev pub IsLeastWhile : Table → Single → ℕ → Response → Access → Type 0
IsLeastWhile table m i r a = LeastWithin (demand_while table m i a) (limit_of (at table i)) r

-- whatever may block the task, the smallest number while it does is no later than r; r is the smallest number while one of them does; and no other answer is so
pub record IsLatestLeast (table : Table) (m : Single) (i : ℕ) (r : Response) : Type 0 where
  pub each : All (λ a. (s : Response) → IsLeastWhile table m i s a → NoLater s r) (blockers_of table i)
  pub one : Any (IsLeastWhile table m i r) (blockers_of table i)

pub record IsCounted (table : Table) (m : Single) (i : ℕ) (r : Response) : Type 0 where
  pub latest : IsLatestLeast table m i r
  pub only : (s : Response) → IsLatestLeast table m i s → s ≡ r

-- c is no later than a and b, and one of them
pub record IsSooner (a b c : Response) : Type 0 where
  pub first : NoLater c a
  pub second : NoLater c b
  pub one : (c ≡ a) ⊎ (c ≡ b)

-- r is the sooner of the responses by the two unions
pub record IsCombined (table : Table) (i : ℕ) (r : Response) : Type 0 where
  pub by_ucb : Response
  pub by_ecb : Response
  pub ucb_union : IsCounted table UcbUnion i by_ucb
  pub ecb_union : IsCounted table EcbUnion i by_ecb
  pub sooner : IsSooner by_ucb by_ecb r

-- what a response is, by its method
abbrev pub IsResponse : Table → Method → ℕ → Response → Type 0
IsResponse table (Of m) i r = IsCounted table m i r
IsResponse table Combined i r = IsCombined table i r
