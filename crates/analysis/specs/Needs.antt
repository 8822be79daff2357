-- What a task needs, whatever its limit is, the method under which that is explained, and what blocks the task then.
use Rattle.std.specs.Prelude.{ℕ, ◌-◌, Bool, true, false, List, map, if◌then◌else◌, nat_lt, slice_index_or, fold}
use Rattle.cache.specs.declared.units.Ticks.{Ticks}
use Rattle.search.specs.declared.demand.Response.{Response}
use Rattle.search.specs.declared.demand.Response.TheVariants.{Within, Unschedulable}
use Rattle.table.specs.declared.accesses.Access.{Access}
use Rattle.table.specs.Accesses.{blank_access}
use Rattle.table.specs.declared.Table.{Table}
use Rattle.table.specs.Tables.{access_at}
use Rattle.analysis.specs.declared.costs.Single.{Single}
use Rattle.analysis.specs.declared.costs.Single.TheVariants.{UcbUnion, EcbUnion}
use Rattle.analysis.specs.declared.Method.{Method}
use Rattle.analysis.specs.declared.Method.TheVariants.{Of, Combined}
use Rattle.analysis.specs.Analysis.{blockers_of, least_under}
use Rattle.analysis.specs.declared.need.Need.{Need}

-- whether a need is smaller than another: what is beyond is larger than any number
abbrev pub is_sooner : Response → Response → Bool
is_sooner (Within a) (Within b) = nat_lt a.0 b.0
is_sooner (Within a) Unschedulable = true
is_sooner Unschedulable b = false

-- what is needed under method m while an access blocks, where N has how much
abbrev pub need_with : (Access → Response) → Single → Access → Need
need_with N m a = record { method = m; time = N a; blocker = a }

-- the larger of two needs, and the first where they are equal
abbrev pub larger_need : Need → Need → Need
larger_need a b = if is_sooner a.time b.time then b else a

-- the largest over these accesses, where W has that of each, and the first of them where they are equal
abbrev pub largest_need : (Access → Need) → List Access → Need
largest_need W blockers = fold larger_need (W (slice_index_or blockers 0 blank_access)) (map W blockers)

-- the methods that count: while an access blocks, the smallest R up to 250,000,000 that equals its demand, whatever D - J is, and where there is none the need is
-- beyond that; of these the largest over all that may block the task
unfoldable pub needed_of : Table → Single → ℕ → Need
needed_of table m i = largest_need (need_with (λ a. least_under table a m i 250000000) m) (blockers_of table i)

-- the smaller of two needs, and the second where they are equal
abbrev pub smaller_of : Need → Need → Need
smaller_of a b = if is_sooner a.time b.time then a else b

-- what explains the answer of a method: what is needed under it; for combined the smaller of those under the unions, by ECB-Union where they are equal
unfoldable pub need_of : Table → Method → ℕ → Need
need_of table (Of m) i = needed_of table m i
need_of table Combined i = smaller_of (needed_of table UcbUnion i) (needed_of table EcbUnion i)

-- ---- how it is found

-- what is needed while the access at k blocks
abbrev pub need_at : Table → Single → ℕ → ℕ → Response
need_at table m i k = least_under table (access_at table k) m i 250000000

-- the time before another, and one that is known where the other is beyond
abbrev pub just_before : Response → Ticks → Response
just_before (Within t) known = Within (record { 0 = t.0 - 1 })
just_before Unschedulable known = Within known
