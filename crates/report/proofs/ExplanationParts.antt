-- The lines of an explanation, as the writes of their parts give them, and how long the parts are.
use Rattle.std.proofs.Common.{ℕ, ◌+◌, ◌≤◌, ◌<◌, arith, length}
use Rattle.cache.specs.Sets.{Set}
use Rattle.cache.specs.Counts.{Counts, ◌on◌, total}
use Rattle.search.specs.declared.demand.Response.{Response}
use Rattle.search.specs.declared.demand.Response.TheVariants.{Within, Unschedulable}
use Rattle.table.specs.declared.Table.{Table}
use Rattle.table.specs.Tables.{at}
use Rattle.table.specs.Accepted.{AcceptedTable}
use Rattle.search.specs.Positions.{hp}
use Rattle.search.specs.Least.{AnswerInRange}
use Rattle.analysis.specs.declared.costs.Single.{Single}
use Rattle.analysis.specs.declared.costs.Single.TheVariants.{None, EcbOnly, UcbOnly, UcbUnion, EcbUnion}
use Rattle.analysis.specs.Costs.{charge_with}
use Rattle.analysis.specs.declared.costs.Hit.{Hit}
use Rattle.analysis.specs.Gather.{aff, union_of, hit, larger_of, largest_at}
use Rattle.analysis.proofs.HitLaws.{larger-by, first-largest}
use Rattle.writing.specs.Text.{spelled}
use Rattle.writing.proofs.Spelling.{spelled_short}
use Rattle.report.specs.Explanation.{needed_text}
use Rattle.report.specs.Explained.{TaskInRange, VictimBelow}

-- a number of at most nine digits
pub nine-digits : (n : ℕ) → n ≤ 500000000 → length (spelled n) ≤ 9
nine-digits n h = spelled_short 8 n (omega arith)

pub needed-short : (a : Response) → AnswerInRange a → length (needed_text a) ≤ 9
needed-short (Within R) h = nine-digits R.0 (omega arith)
needed-short Unschedulable h = omega arith

-- the victim of a charge is one of the tasks down to i, or the task of the set that is one member more
victim-of-larger : (n : ℕ) (a b : Hit) → a.victim < n → b.victim < n → (larger_of a b).victim < n
victim-of-larger n a b p q = larger-by (λ h. h.victim < n) a b (λ _. q) (λ _. p)

pub victim-below : (ways : ℕ) (U : ℕ → Counts) (E : ℕ → Set) (X : Counts) (k n : ℕ) (m : Single) (i j : ℕ) → j < i → i < n → k < n
    → VictimBelow n (charge_with ways U E X k m i j)
victim-below ways U E X k n None i j h l b = tt
victim-below ways U E X k n EcbOnly i j h l b = tt
victim-below ways U E X k n UcbOnly i j h l b =
    victim-of-larger n (largest_at (λ k. total (U k)) (aff i j)) (hit (total X) k) (omega (arith, (first-largest (λ k. total (U k)) (j + 1) (i + 1) (omega arith)).below)) b
victim-below ways U E X k n UcbUnion i j h l b = tt
victim-below ways U E X k n EcbUnion i j h l b =
    victim-of-larger n (largest_at (λ k. total (U k on union_of E (hp (j + 1)))) (aff i j)) (hit (total (X on union_of E (hp (j + 1)))) k) (omega (arith, (first-largest (λ k. total (U k on union_of E (hp (j + 1)))) (j + 1) (i + 1) (omega arith)).below)) b

-- a task's times are in range
pub timed : {table : Table} → AcceptedTable table → (k : ℕ) → k < table.count → TaskInRange (at table k)
timed accepted k here =
    let q = accepted.tasks k here in
    record {
      work = q.work.1;
      period = q.period.0;
      period-most = q.period.1;
      deadline = q.deadline.1;
      jitter = q.jitter;
    }
