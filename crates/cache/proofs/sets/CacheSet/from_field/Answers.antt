-- `sets::CacheSet::from_field` meets its contract: the words that the digits say are those of the field's number.
use Rattle.std.proofs.Common.{rules, sym, ap, ◌∙◌, Some, option_map}
use Rattle.cache.specs.Words.{number_of, words_of}
use Rattle.cache.proofs.WordLaws.{words-number}
use Rattle.cache.proofs.FieldLaws.{too_many, wrong-length, right-length}
use Rattle.cache.proofs.sets.CacheSet.from_field.Goals as goal

pub returns-then-sets-gt-MOST_SETS : goal.returns-then-sets-gt-MOST_SETS
returns-then-sets-gt-MOST_SETS c = sym (too_many _ _ c.if-sets-gt-MOST_SETS.true)

pub returns-then-field-sets : goal.returns-then-field-sets
returns-then-field-sets c = sym (wrong-length _ _ c.if-sets-gt-MOST_SETS.false c.if-field-sets.true)

pub returns-in_err-w3 : goal.returns-in_err-w3
returns-in_err-w3 c =
    c.from_residual.ensures ∙ ap (option_map words_of) c.in_err-w3.ensures ∙ sym (right-length _ _ c.if-sets-gt-MOST_SETS.false c.if-field-sets.false)

pub returns : goal.returns
unfolding number_of
returns c =
    ap Some (sym (words-number _ (search rules))) ∙ ap (option_map words_of) c.in_ok-w3.ensures
    ∙ sym (right-length _ _ c.if-sets-gt-MOST_SETS.false c.if-field-sets.false)
