-- What reads take off the bytes of a reader, and what then stands in a buffer.
use Rattle.std.proofs.Common.{◌≡◌, ℕ, ◌+◌, ◌≤◌, List, [], ◌++◌, ◌-◌, append-nil, drop, length-drop, take-append-drop, Some, None, IfSome, length, take, arith, sym, ap, subst, ◌∙◌, take_all, length-take, length-take-le}
use Rattle.std.proofs.lemmas.List.{take-append-le}
use Rattle.std.proofs.Math.Seq.{take-append_seam, take-append-add}
use Rattle.std.specs.Prelude.{Option, Result, Ok, Err, OnErr, ◌<◌}
use Rattle.std.specs.Io.KnownBytes.{Consumes, IsAtEnd, Appends, Keeps}
use Rattle.std.proofs.KnownBytes.{Consumes-trans, Consumes-whole, Consumes-kept, Appends-trans, Appends-kept}
use Rattle.streams.specs.Bytes.{ConsumesLess, AppendsPart}

-- ---- one read behind what came: xs is the buffer before, and ys the part that was read into

pub more_came : (a b c : Option (List ℕ)) (xs ys rest : List ℕ) (at n : ℕ) → at ≤ length xs → n ≤ length ys → Consumes a b (take at xs) → Consumes b c (take n ys)
    → Consumes a c (take (at + n) (take at xs ++ (ys ++ rest)))
more_came a b c xs ys rest at n within fits before read =
    let both : take (at + n) (take at xs ++ (ys ++ rest)) ≡ take at xs ++ take n ys =
    ap (λ m. take (m + n) (take at xs ++ (ys ++ rest))) (sym (length-take-le at xs within)) ∙ take-append-add (take at xs) (ys ++ rest) n
    ∙ ap (λ l. take at xs ++ l) (take-append-le n ys rest fits) in
    subst (Consumes a c) (sym both) (Consumes-trans a b c (take at xs) (take n ys) before read)

-- a read that gives nothing
pub none_came : (a b c : Option (List ℕ)) (xs ys rest : List ℕ) (at n : ℕ) → at ≤ length xs → n ≡ 0 → Consumes a b (take at xs) → Consumes b c (take n ys)
    → Consumes a c (take at (take at xs ++ (ys ++ rest)))
none_came a b c xs ys rest at n within none before read =
    let same : at + n ≡ at = omega arith in
    subst (λ m. Consumes a c (take m (take at xs ++ (ys ++ rest)))) same (more_came a b c xs ys rest at n within (omega arith) before read)

-- ---- all that came: n bytes at the start of the buffer xs

-- the reader is at its end
pub all_came : (a b : Option (List ℕ)) (xs : List ℕ) (n : ℕ) → Consumes a b (take n xs) → IsAtEnd b → IfSome a (λ bytes. take n xs ≡ take (length xs) bytes)
all_came a b xs n p end =
    Consumes-whole a b (take n xs) (λ bytes. take n xs ≡ take (length xs) bytes) p end (sym (take_all (length xs) (take n xs) (omega (arith, length-take n xs))))

-- the buffer is full
pub full_came : (a b : Option (List ℕ)) (xs : List ℕ) (n : ℕ) → length xs ≤ n → Consumes a b (take n xs) → IfSome a (λ bytes. take n xs ≡ take (length xs) bytes)
full_came None b xs n full p = tt
full_came (Some x) None xs n full p = absurd p
full_came (Some x) (Some y) xs n full p =
    let whole = take_all n xs full in
    whole ∙ sym (ap (take (length xs)) (p ∙ ap (λ l. l ++ y) whole) ∙ take-append_seam xs y)

-- ---- what was written

-- nothing more is what there was
kept : (a b : Option (List ℕ)) → Appends a b [] → Keeps a b
kept None b p = tt
kept (Some x) None p = absurd p
kept (Some x) (Some y) p = p ∙ append-nil x

pub none_written : (a b : Option (List ℕ)) (bs : List ℕ) (n : ℕ) → n ≡ 0 → Appends a b (take n bs) → Keeps a b
none_written a b bs n none wrote = kept a b (subst (λ m. Appends a b (take m bs)) none wrote)

-- the first bytes of bs, and then n of those behind them
pub more_written : (a b c : Option (List ℕ)) (bs : List ℕ) (at n : ℕ) → at ≤ length bs → Appends a b (take at bs) → Appends b c (take n (take (length bs - at) (drop at bs)))
    → Appends a c (take (at + n) bs)
more_written a b c bs at n within before wrote =
    let front = take-append-drop at bs in
    let behind : take (length bs - at) (drop at bs) ≡ drop at bs = take_all (length bs - at) (drop at bs) (omega (arith, length-drop at bs)) in
    let both : take (at + n) bs ≡ take at bs ++ take n (drop at bs) =
    ap (take (at + n)) (sym front)
    ∙ ap (λ m. take (m + n) (take at bs ++ drop at bs)) (sym (length-take-le at bs within))
    ∙ take-append-add (take at bs) (drop at bs) n in
    subst (Appends a c) (sym both) (Appends-trans a b c (take at bs) (take n (drop at bs)) before (subst (λ rest. Appends b c (take n rest)) behind wrote))

-- ---- where a call has failed

pub on_error : {A B : Type 0} (r : Result A B) (P : Type 0) → P → OnErr r P
on_error (Ok x) P p = tt
on_error (Err e) P p = p

pub for_some : (a : Option (List ℕ)) (P : List ℕ → Type 0) → ((x : List ℕ) → P x) → IfSome a P
for_some None P p = tt
for_some (Some x) P p = p x

-- what was taken before is all that was taken
pub less_came : (a b c : Option (List ℕ)) (xs : List ℕ) (at most : ℕ) → at < most → Consumes a b (take at xs) → Keeps b c → ConsumesLess most a c
less_came a b c xs at most short before failed = (take at xs, omega (arith, length-take at xs), Consumes-kept a b c (take at xs) before failed)

-- what was written before is all that was written
pub less_written : (a b c : Option (List ℕ)) (bs : List ℕ) (at : ℕ) → at < length bs → Appends a b (take at bs) → Keeps b c → AppendsPart a c bs
less_written a b c bs at short before failed = (at, short, Appends-kept a b c (take at bs) before failed)

-- all was written
pub all_written : (a b : Option (List ℕ)) (bs : List ℕ) (at : ℕ) → length bs ≤ at → Appends a b (take at bs) → Appends a b bs
all_written a b bs at past wrote = subst (Appends a b) (take_all at bs past) wrote

-- in a buffer of 16,385 bytes
pub less_most : (a b : Option (List ℕ)) (most : ℕ) → ConsumesLess most a b → most ≡ 16385 → ConsumesLess 16385 a b
less_most a b most p e = subst (λ m. ConsumesLess m a b) e p

-- what came of it
pub all_read : (had : Option (List ℕ)) (buf : List ℕ) (len : ℕ) → length buf ≡ 16385 → IfSome had (λ bytes. take len buf ≡ take (length buf) bytes)
    → IfSome had (λ bytes. take len buf ≡ take 16385 bytes)
all_read None buf len room came = tt
all_read (Some bytes) buf len room came = came ∙ ap (λ n. take n bytes) room
