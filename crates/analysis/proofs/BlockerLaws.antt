-- What may block a task, with one of it in front.
use Rattle.std.proofs.Common.{ℕ, min, ◌+◌, ◌-◌, ◌<◌, ◌≤◌, zero-le, arith, ◌≡◌, refl, sym, ap, subst, ◌∙◌, Bool, true, cond, List, [], ◌∷◌, ◌++◌, map, ltb, leb, length, get_or, take, drop, length-append, length-drop, length-take, take_all, get_or-take, length-take-le, take-append-drop, leb-true}
use Rattle.std.proofs.lemmas.List.{drop_more}
use Rattle.std.proofs.lemmas.List.Elements.{filter-append}
use Rattle.cache.proofs.SetLaws.{and_right}
use Rattle.search.specs.declared.demand.Response.{Response}
use Rattle.search.specs.Least.{later, latest_of}
use Rattle.search.proofs.LaterLaws.{later-assoc, later_first, later_swap, latest-front}
use Rattle.table.specs.declared.accesses.Access.{Access}
use Rattle.table.specs.Accesses.{may_block, blocking, or_else, empty_access, blank_access}
use Rattle.table.proofs.BlockingLaws.{Every, every_of, every-blocking, every-or, or_some}
use Rattle.table.specs.declared.Table.{Table}
use Rattle.table.specs.Tables.{accesses_of, access_at}
use Rattle.table.specs.Accepted.{AcceptedTable}
use Rattle.analysis.specs.Analysis.{blockers_of, MayBlock, MayBlockAt, OneInFront}

-- ---- one of them in front

-- what is lent from a place on
pub rest-of : (accesses : List Access) (k : ℕ) → take (length accesses - k) (drop k accesses) ≡ drop k accesses
rest-of accesses k = take_all (length accesses - k) (drop k accesses) (omega (arith, length-drop k accesses))

-- those that may block stand before, at and behind the place of one of them
pub blocking-parts : (accesses : List Access) (i k : ℕ) → MayBlockAt accesses i k
    → blocking i accesses ≡ blocking i (take k accesses) ++ (get_or accesses k blank_access ∷ blocking i (drop (k + 1) accesses))
blocking-parts accesses i k h =
    let a = get_or accesses k blank_access in
    let before = take k accesses in
    let behind = drop (k + 1) accesses in
    ap (blocking i) (sym (take-append-drop k accesses) ∙ ap (λ (l : List Access). before ++ l) (drop_more accesses k blank_access h.0))
    ∙ filter-append (may_block i) before (a ∷ behind)
    ∙ ap (λ (b : Bool). blocking i before ++ cond b (a ∷ blocking i behind) (blocking i behind)) h.1

-- what stands among the first n stands among all
pub among-all : (accesses : List Access) (i n k : ℕ) → MayBlockAt (take n accesses) i k → MayBlockAt accesses i k
among-all accesses i n k h =
    let few : k < min n (length accesses) = rw (length-take n accesses) at h.0 in
    (omega arith, sym (ap (may_block i) (get_or-take n accesses k blank_access (omega arith))) ∙ h.1)

-- where there are some, they are all, and one of them may stand in front
or-parts : (otherwise : Access) (accesses : List Access) (i k : ℕ) → MayBlockAt accesses i k
    → or_else otherwise (blocking i accesses) ≡ blocking i (take k accesses) ++ (get_or accesses k blank_access ∷ blocking i (drop (k + 1) accesses))
or-parts otherwise accesses i k h =
    let parts = blocking-parts accesses i k h in
    let some : 1 ≤ length (blocking i accesses) =
    rw parts (omega (arith, length-append (blocking i (take k accesses)) (get_or accesses k blank_access ∷ blocking i (drop (k + 1) accesses)))) in
    sym (or_some otherwise (blocking i accesses) some) ∙ parts

pub one-in-front : (otherwise : Access) (accesses : List Access) (i k : ℕ) → MayBlockAt accesses i k
    → OneInFront (or_else otherwise (blocking i accesses)) (get_or accesses k blank_access ∷ (blocking i (take k accesses) ++ blocking i (drop (k + 1) accesses)))
one-in-front otherwise accesses i k h = record {
  before = blocking i (take k accesses);
  one = get_or accesses k blank_access;
  behind = blocking i (drop (k + 1) accesses);
  all-is = or-parts otherwise accesses i k h;
  list-is = refl;
}

pub none-in-front : (otherwise : Access) (accesses : List Access) (i : ℕ) → blocking i accesses ≡ [] → OneInFront (or_else otherwise (blocking i accesses)) (otherwise ∷ [])
none-in-front otherwise accesses i e = record { before = []; one = otherwise; behind = []; all-is = ap (or_else otherwise) e; list-is = refl }

pub blockers-parts : (table : Table) (i k : ℕ) → MayBlockAt (accesses_of table) i k
    → blockers_of table i ≡ blocking i (take k (accesses_of table)) ++ (get_or (accesses_of table) k blank_access ∷ blocking i (drop (k + 1) (accesses_of table)))
blockers-parts table i k h = or-parts empty_access (accesses_of table) i k h

-- the latest of their answers is the same
latest-parts : (A : Access → Response) (xs ys : List Access) → latest_of (map A (xs ++ ys)) ≡ later (latest_of (map A xs)) (latest_of (map A ys))
latest-parts A [] ys = sym (later_first (latest_of (map A ys)))
latest-parts A (x ∷ xs) ys =
    latest-front (A x) (map A (xs ++ ys))
    ∙ ap (later (A x)) (latest-parts A xs ys)
    ∙ sym (later-assoc (A x) (latest_of (map A xs)) (latest_of (map A ys)))
    ∙ ap (λ (r : Response). later r (latest_of (map A ys))) (sym (latest-front (A x) (map A xs)))

pub latest-in-front : (A : Access → Response) {all list : List Access} → OneInFront all list → latest_of (map A list) ≡ latest_of (map A all)
latest-in-front A p =
    let F = A p.one in
    let B = latest_of (map A p.before) in
    let H = latest_of (map A p.behind) in
    ap (λ (l : List Access). latest_of (map A l)) p.list-is
    ∙ latest-front F (map A (p.before ++ p.behind))
    ∙ ap (later F) (latest-parts A p.before p.behind)
    ∙ sym (later-assoc F B H)
    ∙ ap (λ (r : Response). later r H) (later_swap F B)
    ∙ later-assoc B F H
    ∙ ap (later B) (sym (latest-front F (map A p.behind)))
    ∙ sym (latest-parts A p.before (p.one ∷ p.behind))
    ∙ sym (ap (λ (l : List Access). latest_of (map A l)) p.all-is)

-- and what holds of each holds of each
every-parts : (Q : Access → Type 0) (xs ys : List Access) → Every Q (xs ++ ys) → Every Q xs × Every Q ys
every-parts Q [] ys p = (tt, p)
every-parts Q (x ∷ xs) ys p = let w = every-parts Q xs ys p.1 in ((p.0, w.0), w.1)

every-both : (Q : Access → Type 0) (xs ys : List Access) → Every Q xs → Every Q ys → Every Q (xs ++ ys)
every-both Q [] ys p q = q
every-both Q (x ∷ xs) ys p q = (p.0, every-both Q xs ys p.1 q)

pub every-in-front : (Q : Access → Type 0) {all list : List Access} → OneInFront all list → Every Q all → Every Q list
every-in-front Q p e =
    let w = every-parts Q p.before (p.one ∷ p.behind) (subst (Every Q) p.all-is e) in
    subst (Every Q) (sym p.list-is) (w.1.0, every-both Q p.before p.behind w.0 w.1.1)

-- ---- what a search is told of it

-- of an access that takes no time
pub plain-blocks : (i : ℕ) → MayBlock empty_access i
plain-blocks i = record { ceiling = zero-le; lasts = omega arith }

module _ (table : Table) (i : ℕ) (p : AcceptedTable table) where
  pub access-blocks : (n : ℕ) → MayBlockAt (accesses_of table) i n → MayBlock (get_or (accesses_of table) n blank_access) i
  unfolding access_at
  access-blocks n h =
      let a = access_at table n in
      record {
        ceiling = leb-true a.ceiling i (and_right (ltb i a.task) (leb a.ceiling i) h.1);
        lasts = (p.accesses n (omega (arith, h.0, length-take-le table.access_count table.accesses p.listed))).lasts.1;
      }

  -- of each that may block the task
  pub blocking-block : Every (λ a. MayBlock a i) (blocking i (accesses_of table))
  blocking-block =
      every-blocking (λ a. MayBlock a i) i (accesses_of table)
      (every_of (λ a. may_block i a ≡ true → MayBlock a i) (accesses_of table) blank_access (λ n h e. access-blocks n (h, e)))

  pub blockers-block : Every (λ a. MayBlock a i) (blockers_of table i)
  blockers-block = every-or (λ a. MayBlock a i) empty_access (blocking i (accesses_of table)) (plain-blocks i) blocking-block

  -- and of those behind the place of one
  pub behind-block : (k : ℕ) → MayBlockAt (accesses_of table) i k → Every (λ a. MayBlock a i) (blocking i (drop (k + 1) (accesses_of table)))
  behind-block k h =
      (every-parts (λ a. MayBlock a i) (blocking i (take k (accesses_of table))) (get_or (accesses_of table) k blank_access ∷ blocking i (drop (k + 1) (accesses_of table)))
      (subst (Every (λ a. MayBlock a i)) (blocking-parts (accesses_of table) i k h) blocking-block)).1.1
