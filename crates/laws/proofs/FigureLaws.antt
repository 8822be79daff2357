-- A response and what is found of a claim rest on the ways, on the block reload time, on the tasks without their names, and on the accesses; so each figure is that of every such table.
use Rattle.std.proofs.Common.{ℕ, ◌+◌, ◌*◌, ◌<◌, refl, ◌&&◌, cond, leb, List, map, length, get_or, ◌≡◌, sym, ap, ap₂, ◌∙◌}
use Rattle.std.specs.List.{All, list_all}
use Rattle.std.proofs.Math.Path.{fun_ext}
use Rattle.std.proofs.Math.ListN.{get_or-map}
use Rattle.std.proofs.lemmas.List.{get_or-map as get_or-map-in}
use Rattle.cache.specs.declared.units.Ticks.{Ticks}
use Rattle.cache.specs.Words.{members}
use Rattle.cache.specs.Levels.{counts}
use Rattle.search.specs.declared.demand.Response.{Response}
use Rattle.search.specs.declared.demand.Response.TheVariants.{Within, Unschedulable}
use Rattle.search.specs.Demand.{term_of, demand_of}
use Rattle.search.specs.Least.{least_of, sooner, latest_of}
use Rattle.table.specs.declared.tasks.Task.{Task}
use Rattle.table.specs.Tasks.{limit_of, blank}
use Rattle.table.specs.declared.accesses.Access.{Access}
use Rattle.table.specs.Accesses.{added_by, blocking, or_else, empty_access}
use Rattle.table.specs.declared.Table.{Table}
use Rattle.table.specs.Tables.{ways_in, tasks_of, at, accesses_of}
use Rattle.analysis.specs.declared.costs.Single.{Single}
use Rattle.analysis.specs.declared.costs.Single.TheVariants.{UcbUnion, EcbUnion}
use Rattle.analysis.specs.declared.costs.Charge.{Charge}
use Rattle.analysis.specs.Costs.{charge_with, charge_at, reloads_with}
use Rattle.analysis.specs.declared.Method.{Method}
use Rattle.analysis.specs.declared.Method.TheVariants.{Of, Combined}
use Rattle.analysis.specs.Analysis.{counted_response, response_of}
use Rattle.analysis.specs.Figures.{Figure, figures, ChargeFigure, charge_figures}
use Rattle.analysis.proofs.Figures.{figures-hold, charge-figures-hold}
use Rattle.analysis.specs.Covering.{is_covered}
use Rattle.claims.specs.declared.finding.Finding.{Finding}
use Rattle.claims.specs.declared.finding.Finding.TheVariants.{Bad, Open, Fine}
use Rattle.claims.specs.Findings.{finding_under, by_either, finding_of}
use Rattle.claims.specs.Figures.{ClaimFigure, claim_figures}
use Rattle.claims.proofs.Figures.{claim-figures-hold}
use Rattle.laws.specs.Figures.{unnamed, IsTableOf, IsFigured, IsChargeFigured, IsFindingFigured}

-- an answer by its parts: the ways, what stands at each position, the block reload time, and the accesses
abbrev answer_by : ℕ → (ℕ → Task) → Ticks → List Access → Single → ℕ → Response
answer_by ways T brt accesses m i =
    latest_of (map
    (λ a. least_of
    (demand_of ((T i).work.0 + a.lasts.0)
    (λ j. term_of (T j).period.0 (T j).jitter.0 ((T j).work.0 + brt.0 * reloads_with ways (λ k. counts ways (T k).ucb) (λ k. members (T k).ecb) (added_by ways a j) a.task m i j))
    i)
    (limit_of (T i)))
    (or_else empty_access (blocking i accesses)))

-- what is found of a claimed number, by the same parts
abbrev found_by : ℕ → (ℕ → Task) → Ticks → List Access → Single → ℕ → ℕ → Finding
found_by ways T brt accesses m i R =
    cond
    (leb R (limit_of (T i)) && list_all
    (λ a. leb
    (demand_of ((T i).work.0 + a.lasts.0)
    (λ j. term_of (T j).period.0 (T j).jitter.0 ((T j).work.0 + brt.0 * reloads_with ways (λ k. counts ways (T k).ucb) (λ k. members (T k).ecb) (added_by ways a j) a.task m i j))
    i R)
    R)
    (or_else empty_access (blocking i accesses)))
    Fine
    (cond (leb R (limit_of (T i)) && leb 2 (length (blocking i accesses))) Open Bad)

module _ (figure table : Table) (like : IsTableOf figure table) where
  abbrev tasks_here : ℕ → Task
  tasks_here k = unnamed (at table k)

  abbrev tasks_there : ℕ → Task
  tasks_there k = at figure k

  same-tasks : tasks_here ≡ tasks_there
  unfolding at
  same-tasks = fun_ext (λ k. sym (get_or-map unnamed (tasks_of table) k blank) ∙ ap (λ (ts : List Task). get_or ts k blank) like.tasks)

  same-answer : (m : Single) (i : ℕ) → counted_response table m i ≡ counted_response figure m i
  unfolding counted_response
  same-answer m i =
      ap (λ (T : ℕ → Task). answer_by (ways_in table) T table.brt (accesses_of table) m i) same-tasks
      ∙ ap₂ (λ (brt : Ticks) (accesses : List Access). answer_by (ways_in table) (λ k. at figure k) brt accesses m i) like.brt like.accesses
      ∙ ap (λ (ways : ℕ). answer_by ways (λ k. at figure k) figure.brt (accesses_of figure) m i) like.ways

  same-response : (m : Method) (i : ℕ) → response_of table m i ≡ response_of figure m i
  unfolding response_of
  same-response (Of m) i = same-answer m i
  same-response Combined i = ap₂ sooner (same-answer UcbUnion i) (same-answer EcbUnion i)

  same-found : (m : Single) (i : ℕ) (claim : Response) → finding_under table m i claim ≡ finding_under figure m i claim
  unfolding finding_under is_covered
  same-found m i (Within R) =
      ap (λ (T : ℕ → Task). found_by (ways_in table) T table.brt (accesses_of table) m i R.0) same-tasks
      ∙ ap₂ (λ (brt : Ticks) (accesses : List Access). found_by (ways_in table) (λ k. at figure k) brt accesses m i R.0) like.brt like.accesses
      ∙ ap (λ (ways : ℕ). found_by ways (λ k. at figure k) figure.brt (accesses_of figure) m i R.0) like.ways
  same-found m i Unschedulable = refl

  same-finding : (m : Method) (i : ℕ) (claim : Response) → finding_of table m i claim ≡ finding_of figure m i claim
  unfolding finding_of
  same-finding (Of m) i claim = same-found m i claim
  same-finding Combined i claim = ap₂ by_either (same-found UcbUnion i claim) (same-found EcbUnion i claim)

  same-charge : (m : Single) (i j : ℕ) → charge_at table m i j ≡ charge_at figure m i j
  same-charge m i j =
      ap (λ (T : ℕ → Task). charge_with (ways_in table) (λ k. counts (ways_in table) (T k).ucb) (λ k. members (T k).ecb) (added_by (ways_in table) empty_access j) 0 m i j) same-tasks
      ∙ ap (λ (ways : ℕ). charge_with ways (λ k. counts ways (at figure k).ucb) (λ k. members (at figure k).ecb) (added_by ways empty_access j) 0 m i j) like.ways

-- where two maps agree
same-at : {A B : Type 0} (f g : A → B) (xs : List A) → map f xs ≡ map g xs → (k : ℕ) (d : A) → k < length xs → f (get_or xs k d) ≡ g (get_or xs k d)
same-at f g xs e k d h = sym (get_or-map-in f xs k d (f d) h) ∙ ap (λ (ys : List _). get_or ys k (f d)) e ∙ get_or-map-in g xs k d (f d) h

figured-in : (fs : List Figure) → map (λ (f : Figure). response_of f.table f.method f.position) fs ≡ map (λ (f : Figure). f.answer) fs
    → (table : Table) (m : Method) (i : ℕ) (r : Response) → r ≡ response_of table m i
    → All (λ (f : Figure). IsTableOf f.table table → m ≡ f.method → i ≡ f.position → r ≡ f.answer) fs
figured-in fs hold table m i r e k d h like method position =
    e ∙ same-response (get_or fs k d).table table like m i ∙ ap₂ (response_of (get_or fs k d).table) method position
    ∙ same-at (λ (f : Figure). response_of f.table f.method f.position) (λ (f : Figure). f.answer) fs hold k d h

pub figured : (table : Table) (m : Method) (i : ℕ) (r : Response) → r ≡ response_of table m i → IsFigured table m i r
figured = figured-in figures figures-hold.0

charge-figured-in : (fs : List ChargeFigure)
    → map (λ (f : ChargeFigure). charge_at f.table f.method f.position f.preempting) fs ≡ map (λ (f : ChargeFigure). f.charge) fs
    → (table : Table) (m : Single) (i j : ℕ) (g : Charge) → g ≡ charge_at table m i j
    → All (λ (f : ChargeFigure). IsTableOf f.table table → m ≡ f.method → i ≡ f.position → j ≡ f.preempting → g ≡ f.charge) fs
charge-figured-in fs hold table m i j g e k d h like method position preempting =
    let f = get_or fs k d in
    e ∙ same-charge f.table table like m i j ∙ ap (λ (n : Single). charge_at f.table n i j) method
    ∙ ap₂ (λ (x y : ℕ). charge_at f.table f.method x y) position preempting
    ∙ same-at (λ (f : ChargeFigure). charge_at f.table f.method f.position f.preempting) (λ (f : ChargeFigure). f.charge) fs hold k d h

pub charge-figured : (table : Table) (m : Single) (i j : ℕ) (g : Charge) → g ≡ charge_at table m i j → IsChargeFigured table m i j g
charge-figured = charge-figured-in charge_figures charge-figures-hold

finding-figured-in : (fs : List ClaimFigure)
    → map (λ (f : ClaimFigure). finding_of f.table f.method f.position f.claim) fs ≡ map (λ (f : ClaimFigure). f.finding) fs
    → (table : Table) (m : Method) (i : ℕ) (claim : Response) (found : Finding) → found ≡ finding_of table m i claim
    → All (λ (f : ClaimFigure). IsTableOf f.table table → m ≡ f.method → i ≡ f.position → claim ≡ f.claim → found ≡ f.finding) fs
finding-figured-in fs hold table m i claim found e k d h like method position claimed =
    let f = get_or fs k d in
    e ∙ same-finding f.table table like m i claim ∙ ap (λ (n : Method). finding_of f.table n i claim) method
    ∙ ap₂ (λ (x : ℕ) (y : Response). finding_of f.table f.method x y) position claimed
    ∙ same-at (λ (f : ClaimFigure). finding_of f.table f.method f.position f.claim) (λ (f : ClaimFigure). f.finding) fs hold k d h

pub finding-figured : (table : Table) (m : Method) (i : ℕ) (claim : Response) (found : Finding) → found ≡ finding_of table m i claim → IsFindingFigured table m i claim found
finding-figured = finding-figured-in claim_figures claim-figures-hold.0
