-- The machine, 2 of 3: jobs and their programs, and what is asked of each by itself. Read on in Turns.
use Rattle.std.specs.Prelude.{ℕ, suc, ◌+◌, ◌*◌, ◌≤◌, ◌<◌, ◌≡◌, Bool, true, ◌&&◌, not, leb}
use Rattle.runs.specs.Sums.{sum, one}
use Rattle.runs.specs.model.Cache.{present, used_since}
use Rattle.runs.specs.model.Legal.{System}

-- the jobs, and what each of them does when it has worked p ticks: whether it uses cache set c, and which block; whether it takes an access, which
-- one, and how many ticks it has worked when it gives it back
pub record Programs : Type 0 where
  pub arrives : ℕ → ℕ → ℕ
  pub released : ℕ → ℕ → ℕ
  pub needs : ℕ → ℕ → ℕ
  pub program : ℕ → ℕ → ℕ → ℕ → Bool
  pub blocks : ℕ → ℕ → ℕ → ℕ → ℕ
  pub enters : ℕ → ℕ → ℕ → Bool
  pub calls : ℕ → ℕ → ℕ → ℕ
  pub leaves : ℕ → ℕ → ℕ → ℕ

-- a program by itself, from the tick on at which it has worked `from`: when it has worked q ticks it uses cache set c; and it finds_alone there a block that it
-- uses the first time since it had worked P ticks, one that is useful to it there
abbrev pub uses_from : Programs → ℕ → ℕ → ℕ → ℕ → ℕ → Bool
uses_from w j n from c q = leb from q && w.program j n q c

abbrev pub finds_in_program : ℕ → Programs → (ℕ → Bool) → ℕ → ℕ → ℕ → ℕ → ℕ → Bool
finds_in_program W w on j n P c q =
    w.program j n q c
    && (present W on (λ p. w.blocks j n p c) q (w.blocks j n q c)
    && (leb P q && not (used_since on (λ p. w.blocks j n p c) P q (w.blocks j n q c))))

-- what is asked of an access that job n of j takes when it has worked p ticks: above all that its length has its work, and a reload of each block
-- that is useful to the job there, and that it uses again in the access
pub record AccessFair (s : System) (w : Programs) (j n p : ℕ) : Type 0 where
  pub known : w.calls j n p < s.many
  pub task : (s.accesses (w.calls j n p)).task ≡ j
  pub ceiling : (s.accesses (w.calls j n p)).ceiling ≤ j
  pub some : p < w.leaves j n p
  pub ends : w.leaves j n p ≤ w.needs j n
  pub length : w.leaves j n p + s.brt * sum (λ c. sum (λ q. one (finds_in_program s.ways w (λ v. w.program j n v c) j n p c q)) (w.leaves j n p)) s.sets
      ≤ (s.accesses (w.calls j n p)).length + p
  pub useful : (P c : ℕ) → c < s.sets
      → sum (λ q. one (finds_in_program s.ways w (uses_from w j n p c) j n P c q)) (w.leaves j n p) ≤ (s.accesses (w.calls j n p)).useful c

-- the programs keep what is promised of their tasks and accesses
pub record ProgramsKept (s : System) (w : Programs) : Type 0 where
  pub apart : (j n : ℕ) → j < s.size → w.arrives j n + (s.tasks j).period ≤ w.arrives j (suc n)
  pub not_before : (j n : ℕ) → j < s.size → w.arrives j n ≤ w.released j n
  pub not_after : (j n : ℕ) → j < s.size → w.released j n ≤ w.arrives j n + (s.tasks j).jitter
  pub no_more : (j n : ℕ) → j < s.size → w.needs j n ≤ (s.tasks j).cost
  pub evicts : (j n p c : ℕ) → w.program j n p c ≡ true → (s.tasks j).evicting c ≡ true
  pub useful : (j n P c p : ℕ) → j < s.size → c < s.sets → sum (λ q. one (finds_in_program s.ways w (λ v. w.program j n v c) j n P c q)) p ≤ (s.tasks j).useful c
  pub fair : (j n p : ℕ) → w.enters j n p ≡ true → AccessFair s w j n p
