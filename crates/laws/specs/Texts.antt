-- What is told of table texts.
use Rattle.std.specs.Prelude.{ℕ, ◌≤◌, ◌≡◌, List, ◌++◌, length, drop, Result, Ok, Err}
use Rattle.cache.specs.declared.units.Ticks.{Ticks}
use Rattle.search.specs.declared.demand.Response.TheVariants.{Within}
use Rattle.texts.specs.declared.refusals.Reason.TheVariants.{NoText}
use Rattle.texts.specs.declared.refusals.Refusal.{Refusal}
use Rattle.texts.specs.Numbers.{reason_number, untold}
use Rattle.table.specs.declared.Table.{Table}
use Rattle.table.specs.Reading.{read_text}
use Rattle.analysis.specs.Harder.{Harder}
use Rattle.analysis.specs.Same.{SameDownTo}
use Rattle.table_text.specs.Readable.{Readable}
use Rattle.crpd.specs.Operations.{answer_to}
use Rattle.crpd.specs.Meanings.{ReadsAs}
use Rattle.laws.specs.declared.any_text.TwoAnswers.{TwoAnswers}

-- the two answers; and where both texts are accepted and the second's table is harder, line by line: if the second has a response, the first has one, and it is no
-- larger; and where their tables are the same as far as i, they are the same
pub record EasierTextRespondsFirst (first second : List ℕ) (m i : ℕ) (r : TwoAnswers) : Type 0 where
  pub first_is : r.first ≡ answer_to first m i
  pub second_is : r.second ≡ answer_to second m i
  pub harder : (a b : Table) → ReadsAs first a → ReadsAs second b → Harder a b
      → (R : Ticks) → r.second ≡ Ok (Within R) → (S : Ticks) × (r.first ≡ Ok (Within S)) × (S.0 ≤ R.0)
  pub same : (a b : Table) → ReadsAs first a → ReadsAs second b → SameDownTo i a b → r.first ≡ r.second

-- of an accepted text the same bytes stand at the buffer's start, and after them the buffer is as it was; of another its refusal is told,
-- which is one of the numbers of texts, and the buffer is left
pub record ComesBack (text before : List ℕ) (r : Result ℕ Refusal) (after : List ℕ) : Type 0 where
  pub accepted : (table : Table) → ReadsAs text table → (r ≡ Ok (length text)) × (after ≡ text ++ drop (length text) before)
  pub refused : (refusal : Refusal) → read_text text ≡ Err refusal → (r ≡ Err refusal) × (reason_number refusal.reason ≤ 18) × (after ≡ before)

-- a table that some text gives is accepted again, and is the same value; of another it is told that it has no text, and nothing is read
pub record IsReadAgain (table before : Table) (r : Result Unit Refusal) (again : Table) : Type 0 where
  pub readable : Readable table → (r ≡ Ok tt) × (again ≡ table)
  pub refused : (Readable table → ⊥) → (r ≡ Err (untold NoText)) × (again ≡ before)
