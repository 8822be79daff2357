-- Of two methods of which the one never charges more the one never answers later.
use Rattle.std.proofs.Common.{ℕ, ◌<◌, ◌≡◌, refl, sym, ⊎_elim, subst, false, List, [], ◌∷◌, le-ltb}
use Rattle.search.specs.declared.demand.Response.{Response}
use Rattle.search.specs.declared.demand.Response.TheVariants.{Within, Unschedulable}
use Rattle.search.specs.Least.{NoLater}
use Rattle.table.specs.Tasks.{limit_of}
use Rattle.table.specs.declared.accesses.Access.{Access}
use Rattle.table.proofs.BlockingLaws.{Pairwise}
use Rattle.table.specs.declared.Table.{Table}
use Rattle.table.specs.Tables.{at}
use Rattle.table.specs.Accepted.{AcceptedTable}
use Rattle.analysis.specs.declared.costs.Single.{Single}
use Rattle.analysis.specs.declared.costs.Single.TheVariants.{None, EcbOnly, UcbOnly, UcbUnion, EcbUnion}
use Rattle.analysis.specs.declared.Method.TheVariants.{Of, Combined}
use Rattle.analysis.specs.Analysis.{blockers_of, least_under, counted_response, response_of}
use Rattle.analysis.specs.Rows.{cheaper}
use Rattle.analysis.proofs.RowLaws.{no-later}
use Rattle.analysis.proofs.Orders.{latest-mono}
use Rattle.laws.specs.declared.dominance.Six.{Six}
use Rattle.laws.specs.Dominance.{exceeds, SixInOrder}
use Rattle.analysis.proofs.ResponseLaws.{is-sooner}

module _ (table : Table) (accepted : AcceptedTable table) (i : ℕ) (here : i < table.count) where
  cheaper-first : (m : Single) → NoLater (counted_response table (cheaper m) i) (counted_response table m i)
  unfolding counted_response
  cheaper-first m = latest-mono A B (blockers_of table i) (blockers_of table i) (each (blockers_of table i))
    where
      A : Access → Response
      A a = least_under table a (cheaper m) i (limit_of (at table i))

      B : Access → Response
      B a = least_under table a m i (limit_of (at table i))

      each : (l : List Access) → Pairwise (λ a b. NoLater (A a) (B b)) l l
      each [] = tt
      each (a ∷ l) = (no-later table a i accepted here m (limit_of (at table i)), each l)

  pub six-in-order : (r : Six) → r.none ≡ response_of table (Of None) i → r.ecb_only ≡ response_of table (Of EcbOnly) i → r.ucb_only ≡ response_of table (Of UcbOnly) i
      → r.ucb_union ≡ response_of table (Of UcbUnion) i → r.ecb_union ≡ response_of table (Of EcbUnion) i → r.combined ≡ response_of table Combined i
      → SixInOrder table i r
  unfolding response_of
  six-in-order r n e u x y c =
      let s = is-sooner (counted_response table UcbUnion i) (counted_response table EcbUnion i) in
      record {
        none_is = n;
        ecb-only_is = e;
        ucb-only_is = u;
        ucb-union_is = x;
        ecb-union_is = y;
        combined_is = c;
        ucb-union_least = rw (x, e) (cheaper-first EcbOnly);
        ecb-union_least = rw (y, u) (cheaper-first UcbOnly);
        combined_first = rw (c, x) s.first;
        combined_second = rw (c, y) s.second;
        none_least =
            rw (n, c)
            (⊎_elim (λ f. subst (NoLater (counted_response table None i)) (sym f) (cheaper-first UcbUnion))
            (λ f. subst (NoLater (counted_response table None i)) (sym f) (cheaper-first EcbUnion)) s.one);
      }

-- an answer that is no later is no larger
pub none-exceeds : (a b : Response) → NoLater a b → exceeds a b ≡ false
unfolding NoLater
none-exceeds (Within x) (Within y) p = le-ltb y.0 x.0 p
none-exceeds (Within x) Unschedulable p = refl
none-exceeds Unschedulable (Within y) p = absurd p
none-exceeds Unschedulable Unschedulable p = refl
