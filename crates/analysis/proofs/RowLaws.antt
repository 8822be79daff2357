-- Facts about the searches of one row.
use Rattle.std.proofs.Common.{ℕ, ◌+◌, ◌≤◌, ◌<◌, zero-le, mul-le-mul_left, arith, ◌≡◌, refl, sym, ap, subst, ◌∙◌, List, [], ◌∷◌, map, fold, length, set, take, get_or-take, length-take-le}
use Rattle.cache.specs.Sets.{Set}
use Rattle.cache.specs.Counts.{Counts}
use Rattle.search.specs.declared.demand.Response.{Response}
use Rattle.search.specs.declared.demand.Response.TheVariants.{Within, Unschedulable}
use Rattle.analysis.specs.declared.rows.Row.{Row}
use Rattle.search.specs.Demand.{term_of, demand_of, NoMore}
use Rattle.search.specs.Terms.{term_in, InRange, NoOverflow}
use Rattle.search.specs.Least.{least_of, later, NoLater}
use Rattle.search.proofs.LeastLaws.{least_of-no-later}
use Rattle.search.proofs.SoonerLaws.{none-latest}
use Rattle.search.proofs.LaterLaws.{later-mono}
use Rattle.table.proofs.BlockingLaws.{Every}
use Rattle.search.proofs.DemandLaws.{no-more-self, demand-same, demand-mono, demand-more}
use Rattle.search.specs.declared.response.Count.{Count}
use Rattle.search.specs.Counts.{once, Started}
use Rattle.search.proofs.CountLaws.{started-same, started-next, started-harder}
use Rattle.table.specs.Tasks.{limit_of}
use Rattle.table.specs.declared.accesses.Access.{Access}
use Rattle.table.specs.Accesses.{blocking, added_by, empty_access}
use Rattle.table.specs.declared.Table.{Table}
use Rattle.table.specs.Tables.{ways_in, at, accesses_of}
use Rattle.table.specs.Accepted.{AcceptedTable}
use Rattle.analysis.specs.declared.costs.Single.{Single}
use Rattle.analysis.specs.declared.costs.Single.TheVariants.{None, EcbOnly, UcbOnly, UcbUnion, EcbUnion}
use Rattle.analysis.specs.Costs.{reloads_with, ucb_of, ecb_of, term_under}
use Rattle.analysis.proofs.OrderLaws.{ucb-union-with, ecb-union-with, term-ranged}
use Rattle.analysis.specs.declared.carried.Column.{Column}
use Rattle.analysis.specs.declared.carried.Terms.{Terms}
use Rattle.analysis.specs.Carried.{terms_for, FullTerms, Ledger, Weighed, WeighedUnder}
use Rattle.analysis.proofs.TermLaws.{has-none, joined}
use Rattle.analysis.specs.Analysis.{blockers_of, least_under, counted_response, response_of, MayBlock, OneInFront}
use Rattle.analysis.proofs.BlockerLaws.{none-in-front, latest-in-front, every-in-front, plain-blocks, blockers-block}
use Rattle.analysis.specs.declared.rows.Answers.{Answers}
use Rattle.analysis.specs.Rows.{answer_in, Answered, cheaper, NoneSoonerThanCheaper, WithOne, row_told, plain_of, CarriedCounts, row_of}

-- ---- a cheaper method asks for no more

cheaper-reloads : (ways : ℕ) (U : ℕ → Counts) (E : ℕ → Set) (X : Counts) (n i j : ℕ) (m : Single)
    → reloads_with ways U E X n (cheaper m) i j ≤ reloads_with ways U E X n m i j
unfolding reloads_with
cheaper-reloads ways U E X n i j None = omega arith
cheaper-reloads ways U E X n i j EcbOnly = ucb-union-with ways U E X n i j
cheaper-reloads ways U E X n i j UcbOnly = ecb-union-with ways U E X n i j
cheaper-reloads ways U E X n i j UcbUnion = omega arith
cheaper-reloads ways U E X n i j EcbUnion = omega arith

-- without reloads a task asks for its work
pub plain-term : (table : Table) (a : Access) (i j : ℕ) → plain_of table j ≡ term_under table a None i j
unfolding reloads_with
plain-term table a i j = refl

pub plain-ranged : (table : Table) (i : ℕ) → AcceptedTable table → i < table.count → (j : ℕ) → j < i → InRange (plain_of table j)
plain-ranged table i accepted here j l =
    rw (plain-term table empty_access i j) (term-ranged table empty_access None i j accepted (omega arith))

module _ (table : Table) (a : Access) (i : ℕ) (accepted : AcceptedTable table) (here : i < table.count) where
  ranged : (m : Single) (j : ℕ) → j < i → InRange (term_under table a m i j)
  ranged m j l = term-ranged table a m i j accepted (omega arith)

  no_more : (m : Single) (j : ℕ) → j < i → NoMore (term_under table a (cheaper m) i j) (term_under table a m i j)
  no_more m j l = record {
    live = (ranged m j l).period;
    period = omega arith;
    jitter = omega arith;
    weight = omega (arith, mul-le-mul_left table.brt.0 (cheaper-reloads (ways_in table) (ucb_of table) (ecb_of table) (added_by (ways_in table) a j) a.task i j m));
  }

  pub no-later : (m : Single) (limit : ℕ) → NoLater (least_under table a (cheaper m) i limit) (least_under table a m i limit)
  no-later m limit =
      least_of-no-later _ (demand-mono _ i _ (ranged (cheaper m))) _ (demand-more _ _ i _ _ (omega arith) (no_more m)) limit limit (omega arith)

  started-after : (m : Single) (own : ℕ) {counts : List Count} → Started own (term_under table a (cheaper m) i) i counts → Started own (term_under table a m i) i counts
  started-after m own = started-harder own own i _ _ _ (ranged (cheaper m)) (no_more m) (λ j l. (refl, refl)) (omega arith)

  -- ---- by the terms of the row

  module _ (blocks : MayBlock a i) (r : Terms) (weighed : WeighedUnder table a i r) where
    long : (m : Single) → length (take i (terms_for m r)) ≡ i
    long m = length-take-le i (terms_for m r) (omega (arith, weighed.long.each m, accepted.few))

    term-at : (m : Single) (j : ℕ) → j < i → term_in (take i (terms_for m r)) j ≡ term_under table a m i j
    term-at m j l = get_or-take i (terms_for m r) j (term_of 0 0 0) l ∙ weighed.terms.each m j zero-le l

    pub row-handed : (m : Single) → NoOverflow ((at table i).work.0 + a.lasts.0) (take i (terms_for m r)) (limit_of (at table i))
    row-handed m =
        let q = accepted.tasks i here in
        record {
          few = rw (long m) (omega (arith, accepted.few));
          own-least = omega (arith, q.work);
          own-most = omega (arith, q.work, blocks.lasts);
          time = omega (arith, q.deadline, q.period);
          ranged = λ j l. let k : j < i = omega (arith, long m) in rw (term-at m j k) (ranged m j k);
        }

    abbrev pub found : Single → Response
    found m =
        least_of (demand_of ((at table i).work.0 + a.lasts.0) (term_in (take i (terms_for m r))) (length (take i (terms_for m r)))) (limit_of (at table i))

    pub row-answer : (m : Single) → found m ≡ least_under table a m i (limit_of (at table i))
    row-answer m =
        ap (λ (n : ℕ). least_of (demand_of ((at table i).work.0 + a.lasts.0) (term_in (take i (terms_for m r))) n) (limit_of (at table i))) (long m)
        ∙ ap (λ (f : ℕ → ℕ). least_of f (limit_of (at table i))) (demand-same ((at table i).work.0 + a.lasts.0) _ _ i (term-at m))

    abbrev pub HandedTo : Single → List Count → Type 0
    HandedTo m counts = Started ((at table i).work.0 + a.lasts.0) (term_in (take i (terms_for m r))) (length (take i (terms_for m r))) counts

    started-in : (m : Single) {counts : List Count} → Started ((at table i).work.0 + a.lasts.0) (term_under table a m i) i counts → HandedTo m counts
    started-in m p = rw (long m) (started-same _ i _ _ _ (λ j l. sym (term-at m j l)) p)

    started-out : (m : Single) {counts : List Count} → HandedTo m counts → Started ((at table i).work.0 + a.lasts.0) (term_under table a m i) i counts
    started-out m p = started-same _ i _ _ _ (term-at m) (rw (long m) at p)

    -- the search without reloads goes on from the row above, and each other one from a cheaper one
    pub first : {counts : List Count} → Started ((at table i).work.0 + a.lasts.0) (plain_of table) i counts → HandedTo None counts
    first p = started-in None (started-same _ i _ _ _ (λ j l. plain-term table a i j) p)

    pub left : {counts : List Count} → HandedTo None counts → Started ((at table i).work.0 + a.lasts.0) (plain_of table) i counts
    left p = started-same _ i _ _ _ (λ j l. sym (plain-term table a i j)) (started-out None p)

    pub next : (m : Single) {counts : List Count} → HandedTo (cheaper m) counts → HandedTo m counts
    next m p = started-in m (started-after m _ (started-out (cheaper m) p))

    module _ (s : Answers) (rising : NoneSoonerThanCheaper s) where
      -- where a cheaper method has none there is none
      pub dearer : (m : Single) (known : Response) → known ≡ later (answer_in (cheaper m) s) (found (cheaper m)) → known ≡ Unschedulable
          → Unschedulable ≡ later (answer_in m s) (found m)
      dearer m known is e =
          let n : NoLater (found (cheaper m)) (found m) = rw (row-answer (cheaper m), row-answer m) (no-later m (limit_of (at table i))) in
          none-latest _ _ (later-mono _ _ _ _ (rising.each m) n) (sym e ∙ is)

      pub with-one : (t : Answers) → t.none ≡ later s.none (found None) → t.ecb_only ≡ later s.ecb_only (found EcbOnly)
          → t.ucb_only ≡ later s.ucb_only (found UcbOnly) → t.ucb_union ≡ later s.ucb_union (found UcbUnion)
          → t.ecb_union ≡ later s.ecb_union (found EcbUnion) → WithOne table a i s t
      with-one t p0 p1 p2 p3 p4 = record { each = go }
        where
          go : (m : Single) → answer_in m t ≡ later (answer_in m s) (least_under table a m i (limit_of (at table i)))
          go None = p0 ∙ ap (later s.none) (row-answer None)
          go EcbOnly = p1 ∙ ap (later s.ecb_only) (row-answer EcbOnly)
          go UcbOnly = p2 ∙ ap (later s.ucb_only) (row-answer UcbOnly)
          go UcbUnion = p3 ∙ ap (later s.ucb_union) (row-answer UcbUnion)
          go EcbUnion = p4 ∙ ap (later s.ecb_union) (row-answer EcbUnion)

  -- with one access more the answers still rise
  pub rising-next : (s t : Answers) → NoneSoonerThanCheaper s → WithOne table a i s t → NoneSoonerThanCheaper t
  rising-next s t p w = record {
    each = λ m. rw (w.each (cheaper m), w.each m) (later-mono _ _ _ _ (p.each m) (no-later m (limit_of (at table i))));
  }

-- ---- what may block the task

-- before any access
abbrev pub first_answers : Answers
first_answers = record {
  none = Within (record { 0 = 0 });
  ecb_only = Within (record { 0 = 0 });
  ucb_only = Within (record { 0 = 0 });
  ucb_union = Within (record { 0 = 0 });
  ecb_union = Within (record { 0 = 0 });
}

first-is : (m : Single) → answer_in m first_answers ≡ Within (record { 0 = 0 })
first-is None = refl
first-is EcbOnly = refl
first-is UcbOnly = refl
first-is UcbUnion = refl
first-is EcbUnion = refl

pub rising-first : NoneSoonerThanCheaper first_answers
unfolding NoLater
rising-first = record { each = λ m. rw (first-is (cheaper m), first-is m) (omega arith) }

-- an access that adds nothing
pub weighed-plain : (table : Table) (a : Access) (i : ℕ) (r : Terms) → a.ceiling ≡ 0 → Weighed table i r → WeighedUnder table a i r
weighed-plain table a i r e p = joined table a i 0 r (omega arith) p.long (has-none _ _) p.terms

-- counts to start from serve for more of the task's own
pub plain-longer : (table : Table) (i c d : ℕ) {counts : List Count} → AcceptedTable table → i < table.count → c ≤ d
    → Started c (plain_of table) i counts → Started d (plain_of table) i counts
plain-longer table i c d accepted here h =
    started-harder c d i _ _ _ (plain-ranged table i accepted here) (λ j l. no-more-self _ (plain-ranged table i accepted here j l)) (λ j l. (refl, refl)) h

-- the search without reloads, where none blocks
module _ (table : Table) (i : ℕ) (accepted : AcceptedTable table) (here : i < table.count) (r : Terms) (weighed : Weighed table i r) where
  alone : (at table i).work.0 + 0 ≡ (at table i).work.0
  alone = omega arith

  under-none : WeighedUnder table empty_access i r
  under-none = weighed-plain table empty_access i r refl weighed

  pub plain-handed : NoOverflow (at table i).work.0 (take i r.none) (limit_of (at table i))
  plain-handed =
      subst (λ (own : ℕ). NoOverflow own (take i r.none) (limit_of (at table i))) alone (row-handed table empty_access i accepted here (plain-blocks i) r under-none None)

  module _ {counts : List Count} where
    pub plain-first : Started (at table i).work.0 (plain_of table) i counts → Started (at table i).work.0 (term_in (take i r.none)) (length (take i r.none)) counts
    plain-first p =
        subst (λ (own : ℕ). Started own (term_in (take i r.none)) (length (take i r.none)) counts) alone
        (first table empty_access i accepted here (plain-blocks i) r under-none (subst (λ (own : ℕ). Started own (plain_of table) i counts) (sym alone) p))

    pub plain-left : Started (at table i).work.0 (term_in (take i r.none)) (length (take i r.none)) counts → Started (at table i).work.0 (plain_of table) i counts
    plain-left p =
        subst (λ (own : ℕ). Started own (plain_of table) i counts) alone
        (left table empty_access i accepted here (plain-blocks i) r under-none
        (subst (λ (own : ℕ). Started own (term_in (take i r.none)) (length (take i r.none)) counts) (sym alone) p))

-- the answers so far, and what may block the task and is left: going on from here gives its answers
pub record Passed (table : Table) (i : ℕ) (s : Answers) (rest : List Access) : Type 0 where
  pub answers : (m : Single) → fold later (answer_in m s) (map (λ a. least_under table a m i (limit_of (at table i))) rest) ≡ counted_response table m i
  pub block : Every (λ a. MayBlock a i) rest
  pub rising : NoneSoonerThanCheaper s

module _ (table : Table) (i : ℕ) (accepted : AcceptedTable table) (here : i < table.count) where
  pub passed-first : {list : List Access} → OneInFront (blockers_of table i) list → Passed table i first_answers list
  unfolding counted_response
  passed-first p = record {
    answers = λ m. rw (first-is m) (latest-in-front (λ a. least_under table a m i (limit_of (at table i))) p);
    block = every-in-front (λ a. MayBlock a i) p (blockers-block table i accepted);
    rising = rising-first;
  }

  pub passed-next : (a : Access) (l : List Access) {s t : Answers} → Passed table i s (a ∷ l) → WithOne table a i s t → Passed table i t l
  passed-next a l p w = record {
    answers = λ m. rw (w.each m) (p.answers m);
    block = p.block.1;
    rising = rising-next table a i accepted here _ _ p.rising w;
  }

  pub passed-all : {s : Answers} → Passed table i s [] → Answered table i s
  passed-all p = record { each = p.answers }

  -- in a table without accesses
  pub answered-plain : table.access_count ≡ 0 → {r : Answers} → WithOne table empty_access i first_answers r → Answered table i r
  answered-plain e w =
      let none : blocking i (accesses_of table) ≡ [] = ap (λ (n : ℕ). blocking i (take n table.accesses)) e in
      passed-all (passed-next empty_access [] (passed-first (none-in-front empty_access (accesses_of table) i none)) w)

-- ---- on from the task above

none-at : (table : Table) (i : ℕ) (r : Terms) → Weighed table i r → (j : ℕ) → j < i → term_in r.none j ≡ plain_of table j
unfolding reloads_with
none-at table i r p j l = p.terms.each None j zero-le l

module _ (table : Table) (i : ℕ) (accepted : AcceptedTable table) (here : i < table.count) where
  -- the work of the task above is all that it asks for
  pub carried_on : (counts : List Count) (c : Count) (k : ℕ) → i ≡ k + 1 → c ≡ once (plain_of table k) → CarriedCounts table i counts
      → Started (at table i).work.0 (plain_of table) i (set counts k c)
  carried_on counts c k e is left =
      let q = accepted.tasks i here in
      rw is (
      subst (λ (n : ℕ). Started (at table i).work.0 (plain_of table) n (set counts k (once (plain_of table k)))) (sym e)
      (started-next _ _ k (plain_of table) counts (omega (arith, left.long, accepted.few)) (omega (arith, q.work)) (omega arith)
      (λ j l. plain-ranged table i accepted here j (omega arith)) (left.above k e))
      )

-- ---- all rows

pub row-is : (table : Table) (i : ℕ) (s : Answers) (r : Row) → Answered table i s → r.responses ≡ row_told s → r ≡ row_of table i
unfolding response_of
row-is table i s r p e =
    let a = p.each None in
    let b = p.each EcbOnly in
    let c = p.each UcbOnly in
    let d = p.each UcbUnion in
    let f = p.each EcbUnion in
    ap (λ (rs : List Response). record { responses = rs }) (e ∙ cc)

-- before the first row
pub left-none : (table : Table) (counts : List Count) → length counts ≡ 32 → CarriedCounts table 0 counts
left-none table counts h = record { long = h; above = λ k e. absurd (omega arith) }

pub left-next : (table : Table) (i : ℕ) (counts : List Count) → length counts ≡ 32 → Started (at table i).work.0 (plain_of table) i counts
    → CarriedCounts table (i + 1) counts
left-next table i counts h p = record {
  long = h;
  above = λ k e. let same : k ≡ i = omega arith in rw same p;
}

pub ledger-none : (table : Table) (l : List Column) → table.count ≤ length l → Ledger table 0 l
ledger-none table l h = record { long = h; columns = λ j b. absurd (omega arith) }

pub long-none : (r : Terms) → length r.none ≡ 32 → length r.ecb_only ≡ 32 → length r.ucb_only ≡ 32 → length r.ucb_union ≡ 32 → length r.ecb_union ≡ 32 → FullTerms r
long-none r a b c d e = record { each = go }
  where
    go : (m : Single) → length (terms_for m r) ≡ 32
    go None = a
    go EcbOnly = b
    go UcbOnly = c
    go UcbUnion = d
    go EcbUnion = e
