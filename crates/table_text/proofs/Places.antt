-- Places without a task, and without an access.
use Rattle.std.proofs.Common.{◌≡◌, ℕ, zero, suc, ◌<◌, ◌∙◌, sym, true, refl, replicate, get_or, ext_get_or, arith, eqb-true}
use Rattle.std.proofs.lemmas.Slice.Eq.{bytes_eq-Decides}
use Rattle.table.specs.declared.tasks.Task.{Task}
use Rattle.cache.specs.declared.useful.Useful.{Useful}
use Rattle.cache.specs.declared.useful.Form.TheVariants.{Hex}
use Rattle.table.specs.Tasks.{no_sets, no_blocks, empty_task}
use Rattle.table.proofs.LineLaws.{both}
use Rattle.table.specs.declared.accesses.Access.{Access}
use Rattle.table.specs.Accesses.{empty_access}
use Rattle.writing.specs.Marks.{bits_in, marks_fit, level_fits, useful_fits}
use Rattle.writing.proofs.Fields.{none-fit}
use Rattle.writing.proofs.UsefulFields.{fitting}
use Rattle.table_text.specs.Tests.{is_vacant, is_unused}

-- useful blocks that fit where there is no cache set are none
none-at : (k : ℕ) → k < 8 → get_or no_blocks.levels k no_sets ≡ no_sets
none-at zero h = refl
none-at (suc zero) h = refl
none-at (suc (suc zero)) h = refl
none-at (suc (suc (suc zero))) h = refl
none-at (suc (suc (suc (suc zero)))) h = refl
none-at (suc (suc (suc (suc (suc zero))))) h = refl
none-at (suc (suc (suc (suc (suc (suc zero)))))) h = refl
none-at (suc (suc (suc (suc (suc (suc (suc zero))))))) h = refl
none-at (suc (suc (suc (suc (suc (suc (suc (suc k)))))))) h = absurd (omega arith)

none-useful : (u : Useful) → useful_fits Hex 0 u ≡ true → u ≡ no_blocks
none-useful u e =
    let p = fitting Hex 0 u e in
    let same = ext_get_or no_sets u.levels no_blocks.levels p.long
    (λ k h. let l : k < 8 = omega (arith, p.long) in none-fit (get_or u.levels k no_sets) (p.each k l).marks ∙ sym (none-at k l)) in
    λ i. record { levels = same i }

pub empty-vacant : is_vacant empty_task ≡ true
unfolding is_vacant useful_fits level_fits marks_fit bits_in
empty-vacant = refl

pub vacant-empty : (t : Task) → is_vacant t ≡ true → t ≡ empty_task
unfolding is_vacant
vacant-empty t e7 =
    let e6 = both _ _ e7 in
    let e5 = both _ _ e6.0 in
    let e4 = both _ _ e5.0 in
    let e3 = both _ _ e4.0 in
    let e2 = both _ _ e3.0 in
    let e1 = both _ _ e2.0 in
    let name = (bytes_eq-Decides t.name.bytes (replicate 12 0)).0 e1.0 in
    let work = eqb-true t.work.0 0 e1.1 in
    let period = eqb-true t.period.0 0 e2.1 in
    let deadline = eqb-true t.deadline.0 0 e3.1 in
    let jitter = eqb-true t.jitter.0 0 e4.1 in
    let ucb = none-useful t.ucb e5.1 in
    let ecb = none-fit t.ecb e6.1 in
    λ i. record {
      name = record { bytes = name i };
      work = record { 0 = work i };
      period = record { 0 = period i };
      deadline = record { 0 = deadline i };
      jitter = record { 0 = jitter i };
      ucb = ucb i;
      ecb = ecb i;
    }

pub empty-unused : is_unused empty_access ≡ true
unfolding is_unused useful_fits level_fits marks_fit bits_in
empty-unused = refl

pub unused-empty : (a : Access) → is_unused a ≡ true → a ≡ empty_access
unfolding is_unused
unused-empty a e4 =
    let e3 = both _ _ e4 in
    let e2 = both _ _ e3.0 in
    let e1 = both _ _ e2.0 in
    let task = eqb-true a.task 0 e1.0 in
    let ceiling = eqb-true a.ceiling 0 e1.1 in
    let lasts = eqb-true a.lasts.0 0 e2.1 in
    let ucb = none-useful a.ucb e3.1 in
    λ i. record { task = task i; ceiling = ceiling i; lasts = record { 0 = lasts i }; ucb = ucb i }
