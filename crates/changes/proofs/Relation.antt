-- The test whether a table is harder than another means just that.
use Rattle.std.proofs.Common.{◌≡◌, ℕ, zero, suc, ◌≤◌, Bool, true, false, not, cond, ◌||◌, refl, arith, leb, eqb-true, eq-eqb, le-leb}
use Rattle.std.proofs.Math.Decide.{dec_lt}
use Rattle.std.proofs.lemmas.Bool.{leb-true, false≢true}
use Rattle.cache.specs.Sets.{Set, ◌⊆◌}
use Rattle.cache.specs.Words.{members}
use Rattle.cache.specs.Counts.{nothing, of_set, ◌⊕◌, ◌≼◌}
use Rattle.cache.specs.declared.useful.Useful.{Useful}
use Rattle.cache.specs.Levels.{level, heights, counts}
use Rattle.cache.proofs.SetLaws.{and_left, and_right}
use Rattle.table.specs.declared.tasks.Task.{Task}
use Rattle.table.specs.declared.accesses.Access.{Access}
use Rattle.table.specs.declared.Table.{Table}
use Rattle.table.specs.Tables.{ways_in, at, access_at}
use Rattle.table.specs.Accepted.{AcceptedTable, AcceptedTask, AcceptedAccess, BlocksBelow, MarksBelow}
use Rattle.analysis.specs.Harder.{HarderTask, HarderAccess, Harder}
use Rattle.changes.specs.Relations.{no_more, all_in, is_harder_task, is_harder_access, is_harder}
use Rattle.changes.proofs.Below.{and-both, below-each, each-below}

-- no cache set counts but those of the table
none-past : (u : Useful) (sets : ℕ) → sets ≤ 256 → BlocksBelow sets u → (n s : ℕ) → 256 ≤ s → heights n u.levels s ≡ 0
unfolding heights nothing ◌⊕◌ of_set
none-past u sets few b zero s h = refl
none-past u sets few b (suc n) s h = omega (arith, none-past u sets few b n s h, at-level (level u.levels n s) refl)
  where
    at-level : (t : Bool) → level u.levels n s ≡ t → ◌≡◌ {A = ℕ} (cond t 1 0) 0
    at-level false e = refl
    at-level true e = let l = b n s e in absurd (omega arith)

counts-mean : (ways : ℕ) (u w : Useful) (sets : ℕ) → sets ≤ 256 → BlocksBelow sets u → no_more (counts ways u) (counts ways w) ≡ true → counts ways u ≼ counts ways w
counts-mean ways u w sets few b e s = elim (dec_lt s 256) [
  | yes h ↦ leb-true _ _ (below-each 256 (λ s. leb (counts ways u s) (counts ways w s)) e s h)
  | no h ↦ (let none = none-past u sets few b ways s (omega arith) in omega arith)
]

counts-told : (ways : ℕ) (u w : Useful) → counts ways u ≼ counts ways w → no_more (counts ways u) (counts ways w) ≡ true
counts-told ways u w l = each-below 256 (λ s. leb (counts ways u s) (counts ways w s)) (λ s h. le-leb _ _ (l s))

implied : (a b : Bool) → (not a || b) ≡ true → a ≡ true → b ≡ true
implied true b e f = e
implied false b e f = absurd (false≢true f)

implies : (a b : Bool) → (a ≡ true → b ≡ true) → (not a || b) ≡ true
implies true b f = f refl
implies false b f = refl

sets-mean : (A B : Set) (sets : ℕ) → sets ≤ 256 → MarksBelow sets A → all_in A B ≡ true → A ⊆ B
sets-mean A B sets few b e s m =
    let l = b s m in implied (A s) (B s) (below-each 256 (λ s. not (A s) || B s) e s (omega arith)) m

sets-told : (A B : Set) → A ⊆ B → all_in A B ≡ true
sets-told A B p = each-below 256 (λ s. not (A s) || B s) (λ s h. implies (A s) (B s) (p s))

task-means : (ways : ℕ) (a b : Task) (sets : ℕ) → sets ≤ 256 → AcceptedTask sets a → is_harder_task ways a b ≡ true → HarderTask ways a b
task-means ways a b sets few p e =
    let upto-ucb = and_left _ _ e in
    let upto-jitter = and_left _ _ upto-ucb in
    let upto-deadline = and_left _ _ upto-jitter in
    let upto-period = and_left _ _ upto-deadline in
    record {
      work = leb-true _ _ (and_left _ _ upto-period);
      period = leb-true _ _ (and_right _ _ upto-period);
      deadline = leb-true _ _ (and_right _ _ upto-deadline);
      jitter = leb-true _ _ (and_right _ _ upto-jitter);
      ucb = counts-mean ways a.ucb b.ucb sets few p.ucb (and_right _ _ upto-ucb);
      ecb = sets-mean (members a.ecb) (members b.ecb) sets few p.ecb (and_right _ _ e);
    }

task-told : (ways : ℕ) (a b : Task) → HarderTask ways a b → is_harder_task ways a b ≡ true
task-told ways a b h =
    and-both _ _
    (and-both _ _
    (and-both _ _ (and-both _ _ (and-both _ _ (le-leb _ _ h.work) (le-leb _ _ h.period)) (le-leb _ _ h.deadline)) (le-leb _ _ h.jitter))
    (counts-told ways a.ucb b.ucb h.ucb))
    (sets-told (members a.ecb) (members b.ecb) h.ecb)

access-means : (ways : ℕ) (a b : Access) (sets count : ℕ) → sets ≤ 256 → AcceptedAccess sets count a → is_harder_access ways a b ≡ true → HarderAccess ways (λ k. k) a b
access-means ways a b sets count few p e =
    let upto-lasts = and_left _ _ e in
    let upto-ceiling = and_left _ _ upto-lasts in
    record {
      task = eqb-true _ _ (and_left _ _ upto-ceiling);
      ceiling = eqb-true _ _ (and_right _ _ upto-ceiling);
      lasts = leb-true _ _ (and_right _ _ upto-lasts);
      ucb = counts-mean ways a.ucb b.ucb sets few p.ucb (and_right _ _ e);
    }

access-told : (ways : ℕ) (a b : Access) → HarderAccess ways (λ k. k) a b → is_harder_access ways a b ≡ true
access-told ways a b h =
    and-both _ _ (and-both _ _ (and-both _ _ (eq-eqb _ _ h.task) (eq-eqb _ _ h.ceiling)) (le-leb _ _ h.lasts)) (counts-told ways a.ucb b.ucb h.ucb)

chosen : (c x : Bool) → cond c x false ≡ true → (c ≡ true) × (x ≡ true)
chosen true x e = (refl, e)
chosen false x e = absurd (false≢true e)

both-chosen : (c x : Bool) → c ≡ true → x ≡ true → cond c x false ≡ true
both-chosen true x e f = f
both-chosen false x e f = e

pub table-means : (first second : Table) → AcceptedTable first → is_harder first second ≡ true → Harder first second
unfolding is_harder
table-means first second p e =
    let parts = chosen _ _ e in
    let upto-tasks = and_left _ _ parts.1 in
    let upto-brt = and_left _ _ upto-tasks in
    let upto-ways = and_left _ _ upto-brt in
    let ways = ways_in first in
    record {
      count = eqb-true _ _ (and_left _ _ parts.0);
      sets = eqb-true _ _ (and_left _ _ upto-ways);
      ways = eqb-true _ _ (and_right _ _ upto-ways);
      brt = leb-true _ _ (and_right _ _ upto-brt);
      tasks = λ k h.
          task-means ways (at first k) (at second k) first.sets p.sets.1 (p.tasks k h)
          (below-each first.count (λ k. is_harder_task ways (at first k) (at second k)) (and_right _ _ upto-tasks) k h);
      access-count = eqb-true _ _ (and_right _ _ parts.0);
      accesses = λ n h.
          access-means ways (access_at first n) (access_at second n) first.sets first.count p.sets.1 (p.accesses n h)
          (below-each first.access_count (λ n. is_harder_access ways (access_at first n) (access_at second n)) (and_right _ _ parts.1) n h);
    }

pub table-told : (first second : Table) → Harder first second → is_harder first second ≡ true
unfolding is_harder
table-told first second h =
    let ways = ways_in first in
    both-chosen _ _ (and-both _ _ (eq-eqb _ _ h.count) (eq-eqb _ _ h.access-count))
    (and-both _ _
    (and-both _ _
    (and-both _ _ (and-both _ _ (eq-eqb _ _ h.sets) (eq-eqb _ _ h.ways)) (le-leb _ _ h.brt))
    (each-below first.count (λ k. is_harder_task ways (at first k) (at second k)) (λ k l. task-told ways (at first k) (at second k) (h.tasks k l))))
    (each-below first.access_count (λ n. is_harder_access ways (access_at first n) (access_at second n))
    (λ n l. access-told ways (access_at first n) (access_at second n) (h.accesses n l))))
