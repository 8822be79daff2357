-- The reading of a list, one task after the other.
use Rattle.std.proofs.Common.{ℕ, ◌+◌, ◌≤◌, ◌<◌, ◌≡◌, refl, ap, ◌∙◌, arith, Bool, true, false, not, cond, List, [], ◌∷◌, ◌++◌, length, take, drop, set, take-suc-set, append_assoc, append-nil, add-one, Result, Ok, Err, ◌==◌, replicate, get_or-set_other, inl, inr}
use Rattle.std.specs.Str.{bytes_eq}
use Rattle.std.proofs.lemmas.List.{drop_more, drop_all, get_or-replicate, get_or_past}
use Rattle.std.proofs.lemmas.Bool.{cases_lt}
use Rattle.search.specs.declared.demand.Response.{Response}
use Rattle.search.specs.declared.demand.Response.TheVariants.{Unschedulable}
use Rattle.texts.specs.declared.refusals.Refusal.{Refusal}
use Rattle.texts.specs.declared.refusals.Fault.{Fault}
use Rattle.texts.specs.declared.refusals.Reason.TheVariants.{ListName}
use Rattle.texts.specs.Cut.{up_to, after}
use Rattle.texts.specs.Faults.{at_field, on_line}
use Rattle.texts.specs.Rows.{Conditions, unless_fault}
use Rattle.texts.proofs.RowLaws.{fault-any, fine-any}
use Rattle.table.specs.declared.tasks.Task.{Task}
use Rattle.table.specs.Tasks.{blank, name_text}
use Rattle.table.proofs.ToldLines.{ToldBy}
use Rattle.table.specs.declared.Table.{Table}
use Rattle.table.specs.Tables.{tasks_of, at}
use Rattle.table.specs.Reading.{told, then_read}
use Rattle.claims.specs.Lists.{name_listed, claim_listed, list_line_rows, list_line_checked, claim_rows, first_claim, end_of_list_rows, claims_from, claims_in, NoneFrom}

abbrev none : List Response
none = []

module _ (table : Table) (list : List ℕ) where
  -- the claims of the first i tasks are read, and this is left of the list: going on from here gives what the whole list claims
  abbrev pub ReadSoFar : ℕ → List ℕ → List Response → Type 0
  ReadSoFar i rest claims = then_read (claims_from (i + 1) (drop i (tasks_of table)) rest) (λ more. Ok (take i claims ++ more)) ≡ claims_in table list

  pub none-read : ReadSoFar 0 list []
  unfolding claims_in
  none-read = go (claims_from 1 (tasks_of table) list)
    where
      go : (r : Result (List Response) Refusal) → then_read r (λ more. Ok more) ≡ r
      go (Ok more) = refl
      go (Err e) = refl

  module _ (i : ℕ) (rest : List ℕ) (claims : List Response) (so_far : ReadSoFar i rest claims) where
    module _ (held : i < length (tasks_of table)) where
      -- one task more
      opened : claims_from (i + 1) (drop i (tasks_of table)) rest
          ≡ then_read (first_claim (i + 1) (at table i) rest) (λ next. then_read (claims_from (i + 1 + 1) (drop (i + 1) (tasks_of table)) next.1) (λ more. Ok (next.0 ∷ more)))
      unfolding claims_from at
      opened = rw (drop_more (tasks_of table) i blank held) refl

      pub read-refused : {e : Refusal} → first_claim (i + 1) (at table i) rest ≡ Err e → Err e ≡ claims_in table list
      read-refused f = rw (opened, f) at so_far

      pub one-read : {claim : Response} {below : List ℕ} → i < length claims → first_claim (i + 1) (at table i) rest ≡ Ok (claim, below) → ReadSoFar (i + 1) below (set claims i claim)
      one-read {claim} {below} room f = go (claims_from (i + 1 + 1) (drop (i + 1) (tasks_of table)) below) ∙ (rw (opened, f) at so_far)
        where
          go : (r : Result (List Response) Refusal) → then_read r (λ more. Ok (take (i + 1) (set claims i claim) ++ more))
              ≡ then_read (then_read r (λ more. Ok (claim ∷ more))) (λ more. Ok (take i claims ++ more))
          go (Ok more) = ap Ok (rw (add-one i, take-suc-set claims i claim room) (append_assoc (take i claims) (claim ∷ []) more))
          go (Err e) = refl

    -- where the tasks end, so has the list to
    module _ (all : i ≡ length (tasks_of table)) where
      closed : claims_from (i + 1) (drop i (tasks_of table)) rest ≡ told (i + 1) (unless_fault (end_of_list_rows rest) none)
      unfolding claims_from
      closed = rw (drop_all i (tasks_of table) (omega arith)) refl

      pub end-refused : {e : Refusal} → Err e ≡ told (i + 1) (unless_fault (end_of_list_rows rest) (tt {0})) → Err e ≡ claims_in table list
      end-refused {e} f = go (unless_fault (end_of_list_rows rest) (tt {0})) refl f
        where
          go : (r : Result (Unit {0}) _) → unless_fault (end_of_list_rows rest) (tt {0}) ≡ r → Err e ≡ told (i + 1) r → Err e ≡ claims_in table list
          go (Ok u) q f = let z : ◌≡◌ {A = ℕ} 0 1 = cc in absurd (omega arith)
          go (Err fault) q f =
              let same : ◌≡◌ {A = Refusal} e (on_line (i + 1) fault) = cc in
              rw same (rw (closed, fault-any (end_of_list_rows rest) (tt {0}) none q) at so_far)

      pub all-read : {u : Unit {0}} → Ok u ≡ told (i + 1) (unless_fault (end_of_list_rows rest) (tt {0})) → ◌≡◌ {A = Result (List Response) Refusal} (Ok (take i claims)) (claims_in table list)
      all-read {u} f = go (unless_fault (end_of_list_rows rest) (tt {0})) refl f
        where
          go : (r : Result (Unit {0}) _) → unless_fault (end_of_list_rows rest) (tt {0}) ≡ r → Ok u ≡ told (i + 1) r → Ok (take i claims) ≡ claims_in table list
          go (Ok v) q f = rw (closed, (fine-any (end_of_list_rows rest) (tt {0}) none q).1, append-nil) at so_far
          go (Err fault) q f = let z : ◌≡◌ {A = ℕ} 0 1 = cc in absurd (omega arith)

-- ---- conditions before others

module _ {X Y : Type 0} where
  fault-before : (rows rest : Conditions) (x : X) (y : Y) {e : Fault} → unless_fault rows x ≡ Err e → unless_fault (rows ++ rest) y ≡ Err e
  unfolding unless_fault
  fault-before [] rest x y {e} h = let z : ◌≡◌ {A = ℕ} 0 1 = cc in absurd (omega arith)
  fault-before (r ∷ rows) rest x y {e} h = go r.0 h (fault-before rows rest x y)
    where
      go : (t : Bool) → cond t (Err r.1) (unless_fault rows x) ≡ Err e → (unless_fault rows x ≡ Err e → unless_fault (rows ++ rest) y ≡ Err e) → cond t (Err r.1) (unless_fault (rows ++ rest) y) ≡ Err e
      go true k f = let same : r.1 ≡ e = cc in cc
      go false k f = f k

-- what is no list line is refused, whatever the conditions behind
line-refused : {X : Type 0} (list : List ℕ) (rest : Conditions) (x : X) {e : Fault} → list_line_checked list ≡ Err e → unless_fault (list_line_rows list rest) x ≡ Err e
line-refused list rest x h = fault-before (list_line_rows list []) rest (tt {0}) x h

pub claim-refused : (line : ℕ) (task : Task) (list : List ℕ) {e : Fault} → (length list == 0) ≡ false → list_line_checked list ≡ Err e → first_claim line task list ≡ Err (on_line line e)
unfolding first_claim claim_rows unless_fault
claim-refused line task list some h =
    rw some
    (ap (told line)
    (line-refused list ((not (bytes_eq (name_listed (up_to 10 list)) (name_text task.name)), at_field 1 ListName) ∷ []) (claim_listed (up_to 10 list), after 10 list) h))

-- ---- the places without a task

pub none-claimed : NoneFrom 0 (replicate 32 Unschedulable)
none-claimed k l =
    elim (cases_lt k 32) [
      | inl here ↦ get_or-replicate 32 k Unschedulable Unschedulable here
      | inr past ↦ get_or_past (replicate 32 Unschedulable) k Unschedulable past
    ]

pub none-behind : (claims : List Response) (i : ℕ) (claim : Response) → NoneFrom i claims → NoneFrom (i + 1) (set claims i claim)
none-behind claims i claim none k l = get_or-set_other claims i k claim Unschedulable (omega arith) ∙ none k (omega arith)

-- ---- the line that is told

told-here : {X : Type 0} (line most : ℕ) (r : Result X Fault) → line ≤ most → ToldBy most (told line r)
told-here line most (Ok x) h = tt
told-here line most (Err fault) h = h

-- is one of a line for each task, or the one below them
pub claims-told : (tasks : List Task) (line most : ℕ) (list : List ℕ) → line + length tasks ≤ most → ToldBy most (claims_from line tasks list)
unfolding claims_from first_claim
claims-told [] line most list h = told-here line most (unless_fault (end_of_list_rows list) none) (omega arith)
claims-told (task ∷ tasks) line most list h =
    go (first_claim line task list) (told-here line most (unless_fault (claim_rows task list) _) (omega arith)) (λ below. claims-told tasks (line + 1) most below (omega arith))
  where
    last : (claim : Response) (r : Result (List Response) Refusal) → ToldBy most r → ToldBy most (then_read r (λ claims. Ok (claim ∷ claims)))
    last claim (Ok claims) p = tt
    last claim (Err e) p = p

    go : (r : Result (Response × List ℕ) Refusal) → ToldBy most r → ((below : List ℕ) → ToldBy most (claims_from (line + 1) tasks below))
        → ToldBy most (then_read r (λ next. then_read (claims_from (line + 1) tasks next.1) (λ claims. Ok (next.0 ∷ claims))))
    go (Ok next) p each = last next.0 (claims_from (line + 1) tasks next.1) (each next.1)
    go (Err e) p each = p
