-- Tables of lists: the table of a head, of tasks and of accesses, whose other places are empty. Each table that is read is one.
use Rattle.std.proofs.Common.{◌≡◌, ℕ, zero, suc, ◌+◌, ◌-◌, ◌≤◌, ◌<◌, Bool, true, List, [], ◌∷◌, ◌++◌, length, take, drop, set, replicate, refl, sym, ap, ap₂, ◌∙◌, arith, length-append}
use Rattle.std.proofs.Math.Bool.{and-eq-true_iff}
use Rattle.std.proofs.Math.Seq.{append_snoc, set-append_seam, take-append_seam, drop-append_seam, length-take-le}
use Rattle.std.proofs.Math.ListN.{take-append-drop, length-drop, length-replicate}
use Rattle.std.specs.List.{list_all}
use Rattle.table.specs.declared.tasks.Task.{Task}
use Rattle.table.specs.declared.tasks.head.Head.{Head}
use Rattle.table.specs.Tasks.{empty_task}
use Rattle.table.specs.declared.accesses.Access.{Access}
use Rattle.table.specs.Accesses.{empty_access}
use Rattle.table.specs.declared.Table.{Table}
use Rattle.table.specs.Tables.{tasks_of, accesses_of, with_task, with_access}

-- ---- 32 places, of which the first hold a list and the others are empty

module _ {X : Type 0} (empty : X) where
  abbrev pub filled : List X → List X
  filled l = l ++ replicate (32 - length l) empty

  pub filled-more : (l : List X) (x : X) → length l < 32 → set (filled l) (length l) x ≡ filled (l ++ (x ∷ []))
  filled-more l x h =
      let left : 32 - length l ≡ suc (32 - (length l + 1)) = omega arith in
      rw (length-append, left, append_snoc) (set-append_seam l empty (replicate (32 - (length l + 1)) empty) x)

  pub filled-long : (l : List X) → length l ≤ 32 → length (filled l) ≡ 32
  filled-long l h = rw (length-append, length-replicate) (omega arith)

  -- past the list
  pub past : (l : List X) → drop (length l) (filled l) ≡ replicate (32 - length l) empty
  past l = drop-append_seam l (replicate (32 - length l) empty)

  -- a list of empty places
  pub all-empty : (p : X → Bool) → ((x : X) → p x ≡ true → x ≡ empty) → (l : List X) → list_all p l ≡ true → l ≡ replicate (length l) empty
  all-empty p is [] e = refl
  all-empty p is (x ∷ l) e =
      let both = (and-eq-true_iff (p x) (list_all p l)).0 e in
      ap₂ (λ (y : X) (m : List X). y ∷ m) (is x both.0) (all-empty p is l both.1)

  pub empty-all : (p : X → Bool) → p empty ≡ true → (n : ℕ) → list_all p (replicate n empty) ≡ true
  empty-all p e zero = refl
  empty-all p e (suc n) = rw e (empty-all p e n)

  -- 32 places of which those past the first n are empty
  pub filled-up : (p : X → Bool) → ((x : X) → p x ≡ true → x ≡ empty) → (l : List X) (n : ℕ) → length l ≡ 32 → n ≤ 32 → list_all p (drop n l) ≡ true → l ≡ filled (take n l)
  filled-up p is l n long few e =
      let taken : length (take n l) ≡ n = length-take-le n l (omega arith) in
      let left : length (drop n l) ≡ 32 - n = length-drop n l ∙ ap (λ (m : ℕ). m - n) long in
      let others : drop n l ≡ replicate (32 - length (take n l)) empty = rw (taken, ← left) (all-empty p is (drop n l) e) in
      sym (take-append-drop n l) ∙ ap (λ (m : List X). take n l ++ m) others

-- ---- a table

abbrev pub table_of : Head → List Task → List Access → Table
table_of h ts accesses = record {
  sets = h.sets;
  brt = h.brt;
  form = h.form;
  count = length ts;
  tasks = filled empty_task ts;
  access_count = length accesses;
  accesses = filled empty_access accesses;
}

module _ (h : Head) (ts : List Task) (accesses : List Access) where
  pub its-tasks : tasks_of (table_of h ts accesses) ≡ ts
  its-tasks = take-append_seam ts (replicate (32 - length ts) empty_task)

  pub its-accesses : accesses_of (table_of h ts accesses) ≡ accesses
  its-accesses = take-append_seam accesses (replicate (32 - length accesses) empty_access)

  pub task-more : (t : Task) → length ts < 32 → with_task (table_of h ts accesses) t ≡ table_of h (ts ++ (t ∷ [])) accesses
  task-more t l =
      ap₂ (λ (n : ℕ) (places : List Task). record { sets = h.sets; brt = h.brt; form = h.form; count = n; tasks = places; access_count = length accesses; accesses = filled empty_access accesses })
      (sym (length-append ts (t ∷ []))) (filled-more empty_task ts t l)

  pub access-more : (a : Access) → length accesses < 32 → with_access (table_of h ts accesses) a ≡ table_of h ts (accesses ++ (a ∷ []))
  access-more a l =
      ap₂ (λ (n : ℕ) (places : List Access). record { sets = h.sets; brt = h.brt; form = h.form; count = length ts; tasks = filled empty_task ts; access_count = n; accesses = places })
      (sym (length-append accesses (a ∷ []))) (filled-more empty_access accesses a l)
