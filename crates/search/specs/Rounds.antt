-- A round: so many ticks after which the releases of the terms in it come again as they were. It is kept what they ask for beyond their shares at the least: in
-- each of many windows of the round, and in all of it.
use Rattle.std.specs.Prelude.{ℕ, ◌+◌, ◌-◌, ◌*◌, ◌/◌, ◌%◌, ◌≤◌, ◌<◌, ◌≡◌, ◌⊎◌, List, length, if◌then◌else◌, slice_index, ◌==◌}
use Rattle.search.specs.declared.rounds.Rounds.{Rounds}
use Rattle.search.specs.declared.demand.Term.{Term}
use Rattle.search.specs.Demand.{ceil}
use Rattle.search.specs.Shares.{share_of}
use Rattle.search.specs.Classes.{sum_over, in_class, taken, shares_over, AskMore}

-- ---- one term

-- a release that is no more than a period away from a time
abbrev pub Near : ℕ → ℕ → ℕ → Type 0
Near period at release = (k : ℕ) × (release ≡ k * period) × (release < at + period) × (at ≤ release + period)

-- how long it is from x to the end of the activations until then, and the share of it
abbrev pub lack_of : ℕ → ℕ → ℕ → ℕ → ℕ
lack_of period jitter share x = (ceil (x + jitter) period * period - x) * share

-- the same for a term whose period divides a round, x ticks after one began; of any other nothing is known
abbrev pub lack_in : ℕ → Term → ℕ → ℕ
lack_in ticks t x = if (ticks % t.period.0) == 0 then lack_of t.period.0 t.jitter.0 (share_of t) x else 0

-- ---- the terms of a round

unfoldable pub lacks_of : List ℕ → ℕ → ℕ → (ℕ → Term) → ℕ → ℕ → ℕ
lacks_of classes round ticks t n x = sum_over (in_class classes round) (λ j. lack_in ticks (t j) x) n

-- lists of what is lacking at the first `count` ticks: `terms` terms lack no more than so much
pub record Lacking (terms count : ℕ) (lacks : List ℕ) : Type 0 where
  pub long : length lacks ≡ 16704
  pub most : (x : ℕ) → x < count → slice_index lacks x ≤ terms * 562949953421312

pub record Added (period jitter share count : ℕ) (before after : List ℕ) : Type 0 where
  pub long : length after ≡ 16704
  pub each : (x : ℕ) → x < count → slice_index after x ≡ slice_index before x + lack_of period jitter share x
  pub each-most : (x : ℕ) → x < count → lack_of period jitter share x ≤ 562949953421312

pub record LacksIn (t : ℕ → Term) (n : ℕ) (classes : List ℕ) (round ticks count : ℕ) (lacks : List ℕ) : Type 0 where
  pub lacking : Lacking n count lacks
  pub each : (x : ℕ) → x < count → slice_index lacks x ≡ lacks_of classes round ticks t n x

-- ---- windows

-- r is no more than any of so many numbers of a list
abbrev pub LeastOver : List ℕ → ℕ → ℕ → ℕ → Type 0
LeastOver list from count r = (i : ℕ) → from ≤ i → i < from + count → r ≤ slice_index list i

-- by how many ticks one window starts after another
abbrev pub IsStep : ℕ → Type 0
IsStep step = (step ≡ 16) ⊎ (step ≡ 64)

-- where the window of a round stands that starts after k steps
abbrev pub place_of : ℕ → ℕ → ℕ → ℕ
place_of round step k = 2048 * round + 16384 / step + k

pub record WindowsIn (lacks : List ℕ) (round ticks step : ℕ) (before after : List ℕ) : Type 0 where
  pub long : length after ≡ 16384
  pub each : (k : ℕ) → k * step < ticks → LeastOver lacks (step * k) (5 * step) (slice_index after (place_of round step k))
  pub others : (i : ℕ) → (i < 2048 * round + 16384 / step) ⊎ (2048 * round + 2 * (16384 / step) ≤ i) → slice_index after i ≡ slice_index before i

-- the window in which a time is, in a round of so many ticks
abbrev pub window_at : List ℕ → ℕ → ℕ → ℕ → ℕ → ℕ
window_at entries round ticks step s = slice_index entries (place_of round step (s % ticks / step))

-- what the windows of a round say: from any time on, for as long as four steps, its terms ask for as much beyond their shares
pub record Windowed (t : ℕ → Term) (n : ℕ) (classes : List ℕ) (round ticks : ℕ) (entries : List ℕ) : Type 0 where
  pub some : 1 ≤ ticks
  pub short : ticks ≤ 16384
  pub most : (step s : ℕ) → IsStep step → window_at entries round ticks step s ≤ 18014398509481984
  pub asked : (step s d : ℕ) → IsStep step → d < 4 * step → AskMore (in_class classes round) t n (window_at entries round ticks step s) (s + d)

-- the windows of a round are made, and the others stand
pub record Tabled (t : ℕ → Term) (n : ℕ) (classes : List ℕ) (round ticks low : ℕ) (before after : List ℕ) : Type 0 where
  pub long : length after ≡ 16384
  pub windowed : Windowed t n classes round ticks after
  pub low-most : low ≤ 18014398509481984
  pub low-asked : (s : ℕ) → AskMore (in_class classes round) t n low s
  pub others : (i : ℕ) → i < 2048 * round → slice_index after i ≡ slice_index before i

-- ---- some rounds

pub record RoundsOf (t : ℕ → Term) (n : ℕ) (r : Rounds) (entries : List ℕ) : Type 0 where
  pub classes-long : length r.classes ≡ 32
  pub ticks-long : length r.ticks ≡ 8
  pub long : length entries ≡ 16384
  pub few : r.made ≤ 8
  pub windowed : (v : ℕ) → v < r.made → Windowed t n r.classes v (slice_index r.ticks v) entries
  pub free-is : r.free + shares_over (taken r.classes) t n ≡ 17179869184
  pub free-least : 1 ≤ r.free
  pub low-most : r.low ≤ 144115188075855872
  pub low-asked : (s : ℕ) → AskMore (taken r.classes) t n r.low s
