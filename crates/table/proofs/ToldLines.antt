-- What line a refusal of a text tells: one that a text of 16,384 bytes can have.
use Rattle.std.proofs.Common.{◌≡◌, ℕ, ◌+◌, ◌≤◌, Bool, true, false, cond, List, [], ◌∷◌, length, arith, refl, Some, Result, Ok, Err, ltb-false}
use Rattle.texts.specs.Cut.{lines}
use Rattle.texts.proofs.LineSteps.{lines_long}
use Rattle.texts.specs.declared.refusals.Fault.{Fault}
use Rattle.texts.specs.declared.refusals.Refusal.{Refusal}
use Rattle.texts.specs.Rows.{Conditions, unless_fault}
use Rattle.texts.proofs.RowLaws.{fine-row}
use Rattle.table.specs.HeadLine.{head_rows, head_said}
use Rattle.table.specs.declared.Table.{Table}
use Rattle.table.specs.Tables.{new_table}
use Rattle.table.specs.Reading.{told, then_read, text_rows, line_rows, with_line, end_rows, ended, is_blocked, first_blocked, unless_blocked, read_from, read_below, read_lines, read_text}

-- a refusal, if it is one, tells a line up to `most`
abbrev pub ToldBy : {X : Type 0} → ℕ → Result X Refusal → Type 0
ToldBy most (Ok x) = Unit {0}
ToldBy most (Err r) = r.line ≤ most

told-by : {X : Type 0} (line most : ℕ) (r : Result X Fault) → line ≤ most → ToldBy most (told line r)
told-by line most (Ok x) h = tt
told-by line most (Err fault) h = h

then-told : {X Y : Type 0} (most : ℕ) (r : Result X Refusal) (next : X → Result Y Refusal) → ToldBy most r → ((x : X) → ToldBy most (next x)) → ToldBy most (then_read r next)
then-told most (Ok x) next p q = q x
then-told most (Err refusal) next p q = p

-- rows tell a line, or let a value pass
rows-told : {X Y : Type 0} (line most : ℕ) (rows : Conditions) (x : X) (next : X → Result Y Refusal) → line ≤ most → (unless_fault rows x ≡ Ok x → ToldBy most (next x))
    → ToldBy most (then_read (told line (unless_fault rows x)) next)
unfolding unless_fault
rows-told line most [] x next h p = p refl
rows-told line most (r ∷ rows) x next h p = go r.0 p (rows-told line most rows x next h)
  where
    go : (t : Bool) → (cond t (Err r.1) (unless_fault rows x) ≡ Ok x → ToldBy most (next x)) → ((unless_fault rows x ≡ Ok x → ToldBy most (next x)) → ToldBy most (then_read (told line (unless_fault rows x)) next))
        → ToldBy most (then_read (told line (cond t (Err r.1) (unless_fault rows x))) next)
    go true p f = h
    go false p f = f p

-- the line of a task with a B is one of those that were read
blocked-told : (ls : List (List ℕ)) (line most : ℕ) (table : Table) → line + length ls ≤ most → ToldBy most (unless_blocked (first_blocked line ls) table)
unfolding first_blocked unless_blocked
blocked-told [] line most table h = tt
blocked-told (s ∷ ls) line most table h = go (is_blocked s) (blocked-told ls (line + 1) most table (omega arith))
  where
    go : (b : Bool) → ToldBy most (unless_blocked (first_blocked (line + 1) ls) table) → ToldBy most (unless_blocked (cond b (Some line) (first_blocked (line + 1) ls)) table)
    go true below = omega arith
    go false below = below

from_told : (ls : List (List ℕ)) (line : ℕ) (table : Table) (most : ℕ) → 1 ≤ line → line + length ls ≤ most → ToldBy most (read_from line table ls)
unfolding read_from ended
from_told [] line table most l h = told-by 1 most (unless_fault (end_rows table) table) (omega arith)
from_told (s ∷ ls) line table most l h =
    rows-told line most (line_rows table s) (with_line table s) (λ t. read_from (line + 1) t ls) (omega arith)
    (λ _. from_told ls (line + 1) (with_line table s) most (omega arith) (omega arith))

lines-told : (ls : List (List ℕ)) (most : ℕ) → 1 ≤ most → 1 + length ls ≤ most → ToldBy most (read_lines ls)
unfolding read_lines
lines-told [] most l h = omega arith
lines-told (s ∷ ls) most l h =
    rows-told 1 most (head_rows s) (head_said s) (λ head. read_below (new_table head) ls) (omega arith)
    (λ _. then-told most (read_from 2 (new_table (head_said s)) ls) (unless_blocked (first_blocked 2 ls)) (from_told ls 2 (new_table (head_said s)) most (omega arith) (omega arith))
    (λ table. blocked-told ls 2 most table (omega arith)))

pub read-told : (text : List ℕ) → ToldBy 16385 (read_text text)
unfolding read_text
read-told text =
    rows-told 0 16385 (text_rows text) text (λ t. read_lines (lines t)) (omega arith)
    (λ e. let short = ltb-false 16384 (length text) (fine-row _ _ _ text text e).0 in lines-told (lines text) 16385 (omega arith) (omega (arith, lines_long text, short)))
