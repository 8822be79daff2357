-- What is told of a text, by what is asked and what is read.
use Rattle.std.proofs.Common.{◌≡◌, ℕ, zero, suc, ◌<◌, ◌≤◌, Bool, true, false, cond, ltb, ltb-false, List, [], ap, refl, arith, Some, None, Result, Ok, Err}
use Rattle.table.specs.declared.Table.{Table}
use Rattle.texts.specs.declared.refusals.Refusal.{Refusal}
use Rattle.texts.specs.declared.refusals.Reason.TheVariants as reason
use Rattle.texts.specs.Numbers.{untold}
use Rattle.table.specs.Reading.{read_text}
use Rattle.analysis.specs.declared.Method.{Method}
use Rattle.analysis.specs.Analysis.{method_of, numbered}
use Rattle.crpd.specs.Operations.{method_named}
use Rattle.endings.specs.Answered.{unless_refused}
use Rattle.sentences.specs.Explained.{words_in, words_to}

-- ---- the method that a number names

some-is : {x y : Method} → Some x ≡ Some y → y ≡ x
some-is e = cc

some-none : {x : Method} → Some x ≡ None → ⊥
some-none e = cc

none-some : {x : Method} → None ≡ Some x → ⊥
none-some e = cc

above-five : (m : ℕ) → method_of m ≡ None → 5 < m
above-five zero e = absurd (some-none e)
above-five (suc zero) e = absurd (some-none e)
above-five (suc (suc zero)) e = absurd (some-none e)
above-five (suc (suc (suc zero))) e = absurd (some-none e)
above-five (suc (suc (suc (suc zero)))) e = absurd (some-none e)
above-five (suc (suc (suc (suc (suc zero))))) e = absurd (some-none e)
above-five (suc (suc (suc (suc (suc (suc m)))))) e = omega arith

named : (m : ℕ) (method : Method) → method_of m ≡ Some method → Ok method ≡ method_named m
named zero method e = ap Ok (some-is e)
named (suc zero) method e = ap Ok (some-is e)
named (suc (suc zero)) method e = ap Ok (some-is e)
named (suc (suc (suc zero))) method e = ap Ok (some-is e)
named (suc (suc (suc (suc zero)))) method e = ap Ok (some-is e)
named (suc (suc (suc (suc (suc zero))))) method e = ap Ok (some-is e)
named (suc (suc (suc (suc (suc (suc m)))))) method e = absurd (none-some e)

unnamed : (m : ℕ) → 5 < m → method_named m ≡ Err (untold reason.Method)
unnamed m above = go (ltb 5 m) refl
  where
    go : (b : Bool) → ltb 5 m ≡ b → cond b (Err (untold reason.Method)) (Ok (numbered m)) ≡ Err (untold reason.Method)
    go true e = refl
    go false e = let few : m ≤ 5 = ltb-false 5 m e in absurd (omega arith)

-- ---- the words

abbrev given : Result (List ℕ) Refusal → List ℕ
given = unless_refused (λ words. words)

pub no_method : (text : List ℕ) (m p : ℕ) → method_of m ≡ None → [] ≡ given (words_to text m p)
unfolding words_to
no_method text m p none = rw (unnamed m (above-five m none)) refl

module _ (text : List ℕ) (m p : ℕ) (method : Method) (is : method_of m ≡ Some method) where
  pub no_table : (refusal : Refusal) → Err refusal ≡ read_text text → [] ≡ given (words_to text m p)
  unfolding words_to
  no_table refusal read = rw (← named m method is, ← read) refl

  pub words-read : (table : Table) → Ok table ≡ read_text text → words_in table method p ≡ words_to text m p
  unfolding words_to
  words-read table read = rw (← named m method is, ← read) refl
