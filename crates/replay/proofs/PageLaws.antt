-- Pages of lines: how long one can be, and a line more.
use Rattle.std.proofs.Common.{◌≡◌, ℕ, zero, suc, ◌+◌, ◌-◌, ◌*◌, ◌≤◌, ◌<◌, min, List, ◌++◌, length, length-append, append_assoc, append-nil, arith, refl, ap, add-one, Option, Some, None, IfSome}
use Rattle.table.specs.Tasks.{name_text}
use Rattle.table.specs.declared.Table.{Table}
use Rattle.table.specs.Tables.{tasks_of, at}
use Rattle.table.specs.Accepted.{AcceptedTable}
use Rattle.table.proofs.Names.{name-short}
use Rattle.writing.proofs.Spelling.{spelled_short}
use Rattle.replay.specs.Replay.{runs_at}
use Rattle.replay.specs.TickLines.{runner_text, tick_line, tick_lines, page_of}
use Rattle.std.proofs.Math.Decide.{dec_le}
use Rattle.replay.proofs.TallyLaws.{runs-there}
use Rattle.replay.proofs.LoopLaws.{tasks-long}

module _ (table : Table) where
  -- the n lines from t on, and those of one tick more
  pub line-next : (t n : ℕ) → tick_lines table t (suc n) ≡ tick_line table t (runs_at (tasks_of table) t) ++ tick_lines table (t + 1) n
  unfolding tick_lines
  line-next t n = rw add-one refl

  -- where a page begins, and how many lines it has
  pub page-start : (from start end : ℕ) → start ≡ min from 100000 → end ≡ min (start + 100) 100000 → tick_lines table start (end - start) ≡ page_of table from
  unfolding page_of tick_lines
  page-start from start end p q = elim (dec_le from 100000) [
    | yes l ↦ (let s : start ≡ from = omega arith in let n : end - start ≡ min 100 (100000 - from) = omega arith in rw (n, s) refl)
    | no l ↦ (let n : end - start ≡ 0 = omega arith in let m : min 100 (100000 - from) ≡ 0 = omega arith in rw (n, m) refl)
  ]

  -- after a line more, and after the last
  pub page-next : (draft whole after : List ℕ) (t end : ℕ) → t < end → draft ++ tick_lines table t (end - t) ≡ whole
      → after ≡ draft ++ tick_line table t (runs_at (tasks_of table) t) → after ++ tick_lines table (t + 1) (end - (t + 1)) ≡ whole
  page-next draft whole after t end h e q =
      let n : end - t ≡ suc (end - (t + 1)) = omega arith in rw (q, append_assoc) (rw (n, line-next) at e)

  pub page-end : (draft whole : List ℕ) (t end : ℕ) → end ≤ t → draft ++ tick_lines table t (end - t) ≡ whole → draft ≡ whole
  unfolding tick_lines
  page-end draft whole t end h e = let n : end - t ≡ 0 = omega arith in rw (n, append-nil) at e

  module _ (accepted : AcceptedTable table) where
    -- the task that runs is one of the table's
    pub runner-there : (t : ℕ) → IfSome (runs_at (tasks_of table) t) (λ k. k < table.count)
    runner-there t = go (runs_at (tasks_of table) t) (λ k e. runs-there (tasks_of table) t k e)
      where
        go : (r : Option ℕ) → ((k : ℕ) → r ≡ Some k → k < length (tasks_of table)) → IfSome r (λ k. k < table.count)
        go (Some k) there = omega (arith, there k refl, tasks-long table accepted)
        go None there = tt

    runner-short : (t : ℕ) → length (runner_text table (runs_at (tasks_of table) t)) ≤ 12
    runner-short t = go (runs_at (tasks_of table) t) (λ k e. runs-there (tasks_of table) t k e)
      where
        go : (r : Option ℕ) → ((k : ℕ) → r ≡ Some k → k < length (tasks_of table)) → length (runner_text table r) ≤ 12
        go (Some k) there = name-short (name_text (at table k).name) (accepted.tasks k (omega (arith, there k refl, tasks-long table accepted))).name
        go None there = omega arith

    line-short : (t : ℕ) → t < 100000 → length (tick_line table t (runs_at (tasks_of table) t)) ≤ 20
    unfolding tick_line
    line-short t h = simp length-append (omega (arith, spelled_short 4 t (omega arith), runner-short t))

    lines-short : (t n : ℕ) → t + n ≤ 100000 → length (tick_lines table t n) ≤ 20 * n
    unfolding tick_lines
    lines-short t zero h = omega arith
    lines-short t (suc n) h = omega (arith, length-append (tick_line table t (runs_at (tasks_of table) t)) (tick_lines table (suc t) n), line-short t (omega arith), lines-short (suc t) n (omega arith))

    pub page-short : (from : ℕ) → length (page_of table from) ≤ 2000
    unfolding page_of tick_lines
    page-short from = elim (dec_le from 100000) [
      | yes l ↦ omega (arith, lines-short from (min 100 (100000 - from)) (omega arith))
      | no l ↦ (let m : min 100 (100000 - from) ≡ 0 = omega arith in rw m (omega arith))
    ]

    -- there is room for each line
    pub line-room : (draft : List ℕ) (from t end : ℕ) → t < end → draft ++ tick_lines table t (end - t) ≡ page_of table from
        → length draft + length (tick_line table t (runs_at (tasks_of table) t)) ≤ 2746
    line-room draft from t end h e =
        let n : end - t ≡ suc (end - (t + 1)) = omega arith in
        let whole = ap length (rw (n, line-next) at e) in
        omega (
          arith,
          whole,
          length-append draft (tick_line table t (runs_at (tasks_of table) t) ++ tick_lines table (t + 1) (end - (t + 1))),
          length-append (tick_line table t (runs_at (tasks_of table) t)) (tick_lines table (t + 1) (end - (t + 1))),
          page-short from,
        )
