-- The lines of the findings, and how long their text is: 20 bytes at most for the line of each task.
use Rattle.std.proofs.Common.{ℕ, zero, suc, ◌+◌, ◌*◌, ◌≤◌, ◌<◌, add-one, arith, ◌≡◌, ap, ap₂, sym, ◌∙◌, List, ◌++◌, length, length-append, map, take, flat_map}
use Rattle.std.proofs.Math.Seq.{get_or-take}
use Rattle.std.proofs.lemmas.List.Folds.{flat_map-map}
use Rattle.search.specs.declared.demand.Response.{Response}
use Rattle.search.specs.declared.demand.Response.TheVariants.{Within}
use Rattle.search.specs.Positions.{run, between}
use Rattle.search.proofs.PositionLaws.{map_next}
use Rattle.table.specs.declared.tasks.Task.{Task}
use Rattle.table.specs.Tasks.{name_text}
use Rattle.table.proofs.Names.{name-short}
use Rattle.table.specs.declared.Table.{Table}
use Rattle.table.specs.Tables.{at}
use Rattle.table.specs.Accepted.{AcceptedTable}
use Rattle.analysis.specs.declared.Method.{Method}
use Rattle.writing.proofs.Room.{flat_map-snoc}
use Rattle.claims.specs.declared.finding.Finding.{Finding}
use Rattle.claims.specs.declared.finding.Finding.TheVariants.{Bad, Open, Fine}
use Rattle.claims.specs.Findings.{finding_of}
use Rattle.claims.specs.Told.{finding_word, finding_line, claim_at, finding_at, findings_text}

-- the lines of one task more
pub line-more : (f : ℕ → List ℕ) (i : ℕ) → flat_map f (between 0 (i + 1)) ≡ flat_map f (between 0 i) ++ f i
line-more f i =
    rw (← flat_map-map (λ t. t) f (between 0 i), ← flat_map-map (λ t. t) f (between 0 (i + 1)), map_next f i) (flat_map-snoc (λ t. t) (map f (between 0 i)) (f i))

word-short : (f : Finding) → length (finding_word f) ≤ 4
word-short Bad = omega arith
word-short Open = omega arith
word-short Fine = omega arith

line-short : (t : Task) (f : Finding) → length (name_text t.name) ≤ 12 → length (finding_line t f) ≤ 20
unfolding finding_line
line-short t f twelve = simp length-append (omega (arith, word-short f))

lines-short : (f : ℕ → List ℕ) (n : ℕ) → ((i : ℕ) → i < n → length (f i) ≤ 20) → length (flat_map f (between 0 n)) ≤ 20 * n
unfolding run
lines-short f zero h = omega arith
lines-short f (suc n) h =
    let next = rw (add-one, length-append) at (ap length (line-more f n)) in
    omega (arith, next, lines-short f n (λ i l. h i (omega arith)), h n (omega arith))

module _ (table : Table) (accepted : AcceptedTable table) (m : Method) (claims : List Response) where
  at-most-20 : (i : ℕ) → i < table.count → length (finding_at table m claims i) ≤ 20
  at-most-20 i l = line-short (at table i) (finding_of table m i (claim_at claims i)) (name-short (name_text (at table i).name) (accepted.tasks i l).name)

  -- the lines so far and the next one
  pub next-fits : (i : ℕ) → i < table.count → length (flat_map (finding_at table m claims) (between 0 i)) + length (finding_at table m claims i) ≤ 640
  next-fits i l = omega (arith, lines-short (finding_at table m claims) i (λ k h. at-most-20 k (omega arith)), at-most-20 i l, accepted.few)

  -- and all of them
  pub findings-short : length (findings_text table m claims) ≤ 640
  unfolding findings_text
  findings-short = omega (arith, lines-short (finding_at table m claims) table.count at-most-20, accepted.few)

-- the claim of a task that is there is not past the end
pub claim-held : (claims : List Response) (count i : ℕ) → i < count → claim_at (take count claims) i ≡ claim_at claims i
claim-held claims count i h = get_or-take count claims i (Within (record { 0 = 0 })) h

-- the line of the task that is pending at i, whose claim is judged
pub line-is : (table t : Table) (m : Method) (claims : List Response) (i k : ℕ) (x : Task) (f : Finding) → t ≡ table → k ≡ i → x ≡ at t k
    → f ≡ finding_of t m k (claim_at claims i) → i < table.count → finding_line x f ≡ finding_at table m (take table.count claims) i
line-is table t m claims i k x f et ek ex ef h =
    ap₂ finding_line (ex ∙ ap₂ at et ek)
    (ef ∙ ap₂ (λ (t : Table) (k : ℕ). finding_of t m k (claim_at claims i)) et ek ∙ ap (finding_of table m i) (sym (claim-held claims table.count i h)))
