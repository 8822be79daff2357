-- Worked figures: antt computes the definitions.
use Rattle.std.proofs.Common.{◌≡◌, ℕ, refl, map, List, [], ◌∷◌, length, Some, None}
use Rattle.cache.specs.declared.sets.CacheSet.{CacheSet}
use Rattle.cache.specs.declared.useful.Form.{Form}
use Rattle.cache.specs.declared.useful.Form.TheVariants.{Hex, Digits}
use Rattle.cache.specs.Sets.{size_below, size}
use Rattle.cache.specs.Counts.{nothing, of_set, ◌⊕◌, ◌on◌, total_below, total}
use Rattle.cache.specs.Levels.{heights}
use Rattle.cache.specs.Words.{number_of, members}
use Rattle.search.specs.Positions.{run}
use Rattle.table.specs.declared.tasks.Task.{Task}
use Rattle.table.specs.declared.Table.{Table}
use Rattle.table.specs.Tables.{at}
use Rattle.edf.specs.declared.charges.ChargedTask.{ChargedTask}
use Rattle.edf.specs.declared.Verdict.{Verdict}
use Rattle.edf.specs.declared.Verdict.TheVariants.{Yes, No}
use Rattle.edf.specs.Multiples.{gcd_in, gcd_of, lcm_of}
use Rattle.edf.specs.Charges.{edf_charge, charged_time, charged_tasks}
use Rattle.edf.specs.Bound.{jobs_within, demand_bound}
use Rattle.edf.specs.Hyperperiod.{lcm_from, hyperperiod, hyperperiod_within, all_charged_within}
use Rattle.edf.specs.Verdicts.{in_time_below, edf_verdict}

-- ---- charged tasks: charged time, D, T

abbrev charged : ℕ → ℕ → ℕ → ChargedTask
charged c d t = record { time = record { 0 = c }; deadline = record { 0 = d }; period = record { 0 = t } }

-- 2 ticks within 4 of every 6, and c within 5 of every 10
abbrev pair : ℕ → List ChargedTask
pair c = charged 2 4 6 ∷ charged c 5 10 ∷ []

pub bounds : (hyperperiod (pair 3) ≡ 30) × (map (demand_bound (pair 3)) (3 ∷ 4 ∷ 5 ∷ 10 ∷ 15 ∷ 30 ∷ []) ≡ (0 ∷ 2 ∷ 5 ∷ 7 ∷ 10 ∷ 19 ∷ []))
unfolding lcm_from lcm_of gcd_of gcd_in demand_bound jobs_within
bounds = (refl, refl)

-- 3 fits; 4 does not at time 5, though 22 ticks in 30 do; 10 is 40 ticks in 30; 1 in 1 leaves nothing, and 2 in 1 is too much from the first tick on
pub answers :
    map (λ (ts : List ChargedTask). edf_verdict ts (hyperperiod ts)) (pair 3 ∷ pair 4 ∷ pair 10 ∷ (charged 1 1 1 ∷ []) ∷ (charged 2 1 1 ∷ []) ∷ [])
    ≡ (Yes ∷ No ∷ No ∷ Yes ∷ No ∷ [])
unfolding edf_verdict in_time_below all_charged_within demand_bound jobs_within lcm_from lcm_of gcd_of gcd_in
answers = refl

-- the least common multiple may be 250,000,000 and no more: that of 15,625 and 16,000 is 2,000,000, and that of 15,859 and 15,881 is 251,856,779
abbrev periods : ℕ → ℕ → List ChargedTask
periods s t = charged 1 s s ∷ charged 1 t t ∷ []

pub horizons :
    map hyperperiod_within (periods 15625 16000 ∷ periods 2 250000000 ∷ periods 3 250000000 ∷ periods 15859 15881 ∷ [])
    ≡ (Some (record { 0 = 2000000 }) ∷ Some (record { 0 = 250000000 }) ∷ None ∷ None ∷ [])
unfolding hyperperiod_within lcm_from lcm_of gcd_of gcd_in
horizons = refl

-- ---- tables

abbrev one_word : ℕ → CacheSet
one_word w = record { w0 = w; w1 = 0; w2 = 0; w3 = 0 }

-- C, T, D, the cache sets of two levels of UCB, ECB
abbrev task : ℕ → ℕ → ℕ → ℕ → ℕ → ℕ → Task
task c t d u v e =
    let none = one_word 0 in record {
      name = record { bytes = [] };
      work = record { 0 = c };
      period = record { 0 = t };
      deadline = record { 0 = d };
      jitter = record { 0 = 0 };
      ucb = record { levels = one_word u ∷ one_word v ∷ none ∷ none ∷ none ∷ none ∷ none ∷ none ∷ [] };
      ecb = one_word e;
    }

-- 4 cache sets; b and c have the same deadline, and only a has a smaller one
abbrev table_of : ℕ → Form → Table
table_of brt form =
    let ts = task 1 4 3 0 0 0x7 ∷ task 2 12 11 0x6 0x2 0xf ∷ task 1 24 11 0xf 0x0 0xf ∷ [] in
    record { sets = 4; brt = record { 0 = brt }; form = form; count = length ts; tasks = ts; access_count = 0; accesses = [] }

abbrev times : Table → List ℕ
times table = map (λ (t : ChargedTask). t.time.0) (charged_tasks table)

-- b and c can be pre-empted by a alone, ⌈8 / 4⌉ times: with 1 way b has 2 blocks to reload and c 3, so that they are charged 4 and 6 times BRT; with 2 ways b has 3
pub charged-times : map times (table_of 10 Hex ∷ table_of 10 (Digits 2) ∷ []) ≡ ((1 ∷ 42 ∷ 61 ∷ []) ∷ (1 ∷ 62 ∷ 61 ∷ []) ∷ [])
unfolding charged_time edf_charge at run ◌on◌ size_below size nothing of_set ◌⊕◌ total_below total heights number_of members
charged-times = refl

abbrev verdict : Table → Verdict
verdict table = edf_verdict (charged_tasks table) (hyperperiod (charged_tasks table))

-- without reloads 6 ticks are due by 11; with 1 tick for each block 3 + 6 + 7 are
pub verdicts : map verdict (table_of 0 Hex ∷ table_of 1 Hex ∷ []) ≡ (Yes ∷ No ∷ [])
unfolding edf_verdict in_time_below all_charged_within demand_bound jobs_within lcm_from lcm_of gcd_of gcd_in charged_time edf_charge at run ◌on◌ size_below size nothing of_set ◌⊕◌ total_below total heights number_of members
verdicts = refl
