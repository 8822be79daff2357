-- The tasks of a scaled table, one place at a time and all at once; that a table that is scaled by more is harder; and up to which factor a C is scaled to no
-- more than the longest.
use Rattle.std.proofs.Common.{◌≡◌, ℕ, suc, ◌+◌, ◌*◌, ◌/◌, ◌≤◌, ◌<◌, List, ◌++◌, length, take, drop, get_or, set, map, refl, sym, ap, ◌∙◌, arith, add-one, append-nil, le_refl}
use Rattle.std.proofs.Math.Nat.{mul_comm, mul-le-mul, mul-le-mul_left, le-div_iff_mul-le, lt_of_not-le, zero-mul}
use Rattle.std.proofs.Math.ListN.{length-map, drop_of_length-le, get_or-map}
use Rattle.std.proofs.Math.Seq.{length-take-le, take_all, take-suc, drop-cons, append_snoc, set_at, get_or_at}
use Rattle.std.proofs.lemmas.List.{take-map, map-append}
use Rattle.std.specs.List.{All}
use Rattle.search.proofs.DemandLaws.{ceil-le, ceil-mul}
use Rattle.cache.specs.declared.units.Ticks.{Ticks}
use Rattle.cache.specs.Levels.{counts}
use Rattle.table.specs.declared.tasks.Task.{Task}
use Rattle.table.specs.Tasks.{blank}
use Rattle.table.specs.declared.Table.{Table}
use Rattle.table.specs.Tables.{ways_in, tasks_of, at, access_at}
use Rattle.analysis.specs.Harder.{HarderTask, Harder}
use Rattle.growth.specs.Scaling.{scaled_work, scaled_task, scaled_by}

-- scaled by k, the tasks are the scaled tasks
pub scaled-tasks : (k : ℕ) (table : Table) → tasks_of (scaled_by k table) ≡ map (scaled_task k) (tasks_of table)
unfolding scaled_by
scaled-tasks k table = take-map (scaled_task k) table.count table.tasks

-- with a C of 0 a task stays as it is
pub unworked : (k : ℕ) (t : Task) → t.work.0 ≡ 0 → scaled_task k t ≡ t
unworked k t e =
    let zero : scaled_work k t.work.0 ≡ t.work.0 = rw (e, zero-mul k) refl in
    λ i. record { name = t.name; work = record { 0 = zero i }; period = t.period; deadline = t.deadline; jitter = t.jitter; ucb = t.ucb; ecb = t.ecb }

-- the task at a place, be it past the last one
pub scaled-place : (k : ℕ) (ts : List Task) (j : ℕ) → get_or (map (scaled_task k) ts) j blank ≡ scaled_task k (get_or ts j blank)
scaled-place k ts j =
    ap (get_or (map (scaled_task k) ts) j) (sym (unworked k blank refl)) ∙ get_or-map (scaled_task k) ts j blank

pub scaled_at : (k : ℕ) (table : Table) (j : ℕ) → at (scaled_by k table) j ≡ scaled_task k (at table j)
unfolding at
scaled_at k table j = ap (λ (l : List Task). get_or l j blank) (scaled-tasks k table) ∙ scaled-place k (tasks_of table) j

-- the accesses are as they were
pub scaled-access : (k : ℕ) (table : Table) (n : ℕ) → access_at (scaled_by k table) n ≡ access_at table n
unfolding scaled_by access_at
scaled-access k table n = refl

-- ---- the tasks while they are scaled, one after the other

-- the first j of them are scaled
abbrev pub scaled_first : ℕ → ℕ → List Task → List Task
scaled_first k j ts = map (scaled_task k) (take j ts) ++ drop j ts

module _ (k j : ℕ) (ts : List Task) (h : j < length ts) where
  first-long : length (map (scaled_task k) (take j ts)) ≡ j
  first-long = length-map (take j ts) (scaled_task k) ∙ length-take-le j ts (omega arith)

  -- the next is as it was
  first-at : get_or (scaled_first k j ts) j blank ≡ get_or ts j blank
  first-at = rw (drop-cons ts j blank h) (get_or_at (map (scaled_task k) (take j ts)) (get_or ts j blank) (drop (suc j) ts) blank j first-long)

  -- and once it is scaled too, they are one more
  first_next : set (scaled_first k j ts) j (scaled_task k (get_or ts j blank)) ≡ scaled_first k (j + 1) ts
  first_next =
      rw (drop-cons ts j blank h, add-one j, take-suc ts j blank h, map-append, append_snoc)
      (set_at (map (scaled_task k) (take j ts)) (get_or ts j blank) (drop (suc j) ts) (scaled_task k (get_or ts j blank)) j first-long)

-- and the first of as many as there are, or more, are all of them
pub first-all : (k j : ℕ) (ts : List Task) → length ts ≤ j → scaled_first k j ts ≡ map (scaled_task k) ts
first-all k j ts h = rw (take_all j ts h, drop_of_length-le ts {i = j} h) (append-nil (map (scaled_task k) ts))

-- a task with another C
abbrev with_c : Task → Ticks → Task
with_c t work = record {
  name = t.name;
  work = work;
  period = t.period;
  deadline = t.deadline;
  jitter = t.jitter;
  ucb = t.ucb;
  ecb = t.ecb;
}

-- the next task of a list of which the first j are scaled: as it was, and then scaled too
module _ (k j : ℕ) (ts now : List Task) (h : j < length ts) (e : now ≡ scaled_first k j ts) where
  pub next-is : get_or now j blank ≡ get_or ts j blank
  next-is = ap (λ (l : List Task). get_or l j blank) e ∙ first-at k j ts h

  -- its C is one of theirs
  pub next-small : (most : ℕ) → All (λ t. t.work.0 ≤ most) ts → (get_or now j blank).work.0 ≤ most
  next-small most each = rw next-is (each j blank h)

  pub next-scaled : (work : Ticks) → work.0 ≡ scaled_work k (get_or now j blank).work.0 → set now j (with_c (get_or now j blank) work) ≡ scaled_first k (j + 1) ts
  next-scaled work w =
      let is : with_c (get_or now j blank) work ≡ scaled_task k (get_or ts j blank) =
      (λ i. with_c (get_or now j blank) (record { 0 = w i })) ∙ ap (scaled_task k) next-is in
      ap (λ (l : List Task). set l j (with_c (get_or now j blank) work)) e ∙ ap (set (scaled_first k j ts) j) is ∙ first_next k j ts h

-- the table with other tasks
abbrev pub with_tasks : Table → List Task → Table
with_tasks table ts = record {
  sets = table.sets;
  brt = table.brt;
  form = table.form;
  count = table.count;
  tasks = ts;
  access_count = table.access_count;
  accesses = table.accesses;
}

-- ---- scaled by more

pub work-mono : (c k l : ℕ) → k ≤ l → scaled_work k c ≤ scaled_work l c
work-mono c k l h =
    (ceil-le (c * k) (scaled_work l c) 1000 (omega arith)).1 (omega (arith, ceil-mul (c * l) 1000 (omega arith), mul-le-mul_left c h))

harder-task : (ways : ℕ) (t : Task) (k l : ℕ) → k ≤ l → HarderTask ways (scaled_task k t) (scaled_task l t)
harder-task ways t k l h = record {
  work = work-mono t.work.0 k l h;
  period = omega arith;
  deadline = omega arith;
  jitter = omega arith;
  ucb = λ s. le_refl (counts ways t.ucb s);
  ecb = λ s m. m;
}

pub harder-scaled : (table : Table) (k l : ℕ) → k ≤ l → Harder (scaled_by k table) (scaled_by l table)
unfolding scaled_by
harder-scaled table k l h = record {
  count = refl;
  sets = refl;
  ways = refl;
  brt = omega arith;
  tasks = λ j b. rw (scaled_at k table j, scaled_at l table j) (harder-task (ways_in table) (at table j) k l h);
  access-count = refl;
  accesses = λ n b. rw (scaled-access k table n, scaled-access l table n) (record { task = refl; ceiling = refl; lasts = omega arith; ucb = λ s. le_refl (counts (ways_in table) (access_at table n).ucb s) });
}

-- ---- the longest C, 250,000,000 ticks

-- a C is scaled to no more than that by as many thousandths as 250,000,000,000 has of it
pub work-fits : (c k : ℕ) → 1 ≤ c → k ≤ 250000000000 / c → scaled_work k c ≤ 250000000
work-fits c k some h =
    (ceil-le (c * k) 250000000 1000 (omega arith)).1 (rw (mul_comm c k) ((le-div_iff_mul-le {k = c} {x = k} {y = 250000000000} some).0 h))

-- and to more by one more
pub work-past : (c k : ℕ) → 1 ≤ c → 250000000000 / c < k → 250000000 < scaled_work k c
work-past c k some h = lt_of_not-le (λ p.
    let fits : k ≤ 250000000000 / c = (le-div_iff_mul-le {k = c} {x = k} {y = 250000000000} some).1 (rw (mul_comm c k) at ((ceil-le (c * k) 250000000 1000 (omega arith)).0 p)) in
    omega arith)

-- a C of some ticks keeps some
pub work-some : (c k : ℕ) → 1 ≤ c → 1 ≤ k → 1 ≤ scaled_work k c
work-some c k some by = lt_of_not-le (λ p.
    let none = (ceil-le (c * k) 0 1000 (omega arith)).0 p in
    omega (arith, mul-le-mul some by))
