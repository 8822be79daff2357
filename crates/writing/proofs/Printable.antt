-- Printable bytes: of texts that are put together, of numbers, marks and names.
use Rattle.std.proofs.Common.{◌≡◌, ℕ, zero, suc, ◌+◌, ◌/◌, ◌%◌, ◌≤◌, ◌<◌, true, ◌&&◌, ◌||◌, inl, inr, List, [], ◌∷◌, ◌++◌, length, length-take, map, flat_map, replicate, refl, arith, eqb, leb}
use Rattle.std.proofs.Math.Decide.{dec_lt}
use Rattle.std.proofs.lemmas.Bool.{and_from, and_parts, or_cases, or_right, lt-ltb, le-ltb, le-leb, leb-true, eqb-true}
use Rattle.std.proofs.lemmas.List.{get_or_past}
use Rattle.std.proofs.lemmas.List.Folds.{list_all-append}
use Rattle.std.specs.List.{list_all, join_with_byte}
use Rattle.cache.specs.declared.useful.Form.{Form}
use Rattle.cache.specs.declared.useful.Form.TheVariants.{Hex, Digits}
use Rattle.cache.specs.declared.useful.Useful.{Useful}
use Rattle.cache.specs.declared.sets.CacheSet.{CacheSet}
use Rattle.cache.specs.Words.{number_of}
use Rattle.cache.specs.UsefulField.{ways_of}
use Rattle.cache.specs.Counts.{Counts}
use Rattle.cache.specs.Levels.{set_at, counts}
use Rattle.cache.proofs.LevelLaws.{heights-le}
use Rattle.texts.specs.Bytes.{is_name_byte}
use Rattle.texts.specs.Fields.{is_name}
use Rattle.texts.specs.Cut.{up_to}
use Rattle.table.specs.Tasks.{name_text, blank}
use Rattle.table.specs.declared.Table.{Table}
use Rattle.table.specs.Tables.{tasks_of, at}
use Rattle.table.specs.Accepted.{AcceptedTable}
use Rattle.writing.specs.Printable.{is_printable_byte}
use Rattle.writing.specs.Text.{digit_byte, spelled, hex_byte, hex_digits, after_tab, line_of}
use Rattle.writing.specs.Marks.{marks_text, count_digits, useful_text}
use Rattle.writing.proofs.Spelling.{spelled_low, spelled_high, by_digits}

abbrev pub Printable : List ℕ → Type 0
Printable text = list_all is_printable_byte text ≡ true

-- ---- texts that are put together

module _ (s t : List ℕ) (p : Printable s) (q : Printable t) where
  pub append-printable : Printable (s ++ t)
  append-printable = rw (list_all-append is_printable_byte s t, p, q) refl

abbrev pub AllPrintable : List (List ℕ) → Type 0
AllPrintable [] = Unit {0}
AllPrintable (s ∷ ss) = Printable s × AllPrintable ss

module _ {X : Type 0} (f : X → List ℕ) (each : (x : X) → Printable (f x)) where
  pub flat_map-printable : (xs : List X) → Printable (flat_map f xs)
  flat_map-printable [] = refl
  flat_map-printable (x ∷ xs) = append-printable (f x) (flat_map f xs) (each x) (flat_map-printable xs)

  pub map-printable : (xs : List X) → AllPrintable (map f xs)
  map-printable [] = tt
  map-printable (x ∷ xs) = (each x, map-printable xs)

fields-printable : (fields : List (List ℕ)) → AllPrintable fields → Printable (flat_map after_tab fields)
fields-printable [] p = refl
fields-printable (s ∷ ss) p = append-printable s (flat_map after_tab ss) p.0 (fields-printable ss p.1)

pub line-printable : (first : List ℕ) (others : List (List ℕ)) → Printable first → AllPrintable others → Printable (line_of first others)
line-printable first others p q =
    append-printable (first ++ flat_map after_tab others) (10 ∷ []) (append-printable first (flat_map after_tab others) p (fields-printable others q)) refl

pub joined-printable : (fields : List (List ℕ)) → AllPrintable fields → Printable (join_with_byte 9 fields)
joined-printable [] p = refl
joined-printable (s ∷ []) p = p.0
joined-printable (s ∷ t ∷ ss) p = append-printable s (9 ∷ join_with_byte 9 (t ∷ ss)) p.0 (joined-printable (t ∷ ss) p.1)

pub ended-printable : (text : List ℕ) → Printable text → Printable (text ++ (10 ∷ []))
ended-printable text p = append-printable text (10 ∷ []) p refl

pub spaces-printable : (n : ℕ) → Printable (replicate n 32)
spaces-printable zero = refl
spaces-printable (suc n) = spaces-printable n

-- ---- numbers, marks and names

shown-byte : (b : ℕ) → 32 ≤ b → b ≤ 126 → is_printable_byte b ≡ true
shown-byte b low high = or_right _ (leb 32 b && leb b 126) (and_from (leb 32 b) (leb b 126) (le-leb 32 b low) (le-leb b 126 high))

byte-printable : (b : ℕ) → 32 ≤ b → b ≤ 126 → Printable (b ∷ [])
byte-printable b low high = rw (shown-byte b low high) refl

pub number-printable : (n : ℕ) → Printable (spelled n)
number-printable =
    by_digits (λ n. Printable (spelled n))
    (λ n l. rw (spelled_low n l) (byte-printable (48 + n) (omega arith) (omega arith)))
    (λ n l ih. rw (spelled_high n l) (append-printable (spelled (n / 10)) (digit_byte (n % 10) ∷ []) ih (byte-printable (48 + n % 10) (omega arith) (omega arith))))

hex-byte-printable : (d : ℕ) → d < 16 → Printable (hex_byte d ∷ [])
unfolding hex_byte
hex-byte-printable d h = elim (dec_lt d 10) [
  | yes l ↦ rw (lt-ltb d 10 l) (byte-printable (48 + d) (omega arith) (omega arith))
  | no l ↦ rw (le-ltb d 10 (omega arith)) (byte-printable (87 + d) (omega arith) (omega arith))
]

hex-printable : (k n : ℕ) → Printable (hex_digits k n)
unfolding hex_digits
hex-printable zero n = refl
hex-printable (suc k) n = append-printable (hex_digits k (n / 16)) (hex_byte (n % 16) ∷ []) (hex-printable k (n / 16)) (hex-byte-printable (n % 16) (omega arith))

pub marks-printable : (sets : ℕ) (c : CacheSet) → Printable (marks_text sets c)
unfolding marks_text
marks-printable sets c = hex-printable (sets / 4) (number_of c)

counts-printable : (n : ℕ) (U : Counts) → ((s : ℕ) → U s ≤ 8) → Printable (count_digits n U)
unfolding count_digits
counts-printable zero U few = refl
counts-printable (suc n) U few = append-printable ((48 + U n) ∷ []) (count_digits n U) (byte-printable (48 + U n) (omega arith) (omega (arith, few n))) (counts-printable n U few)

pub useful-printable : (form : Form) → ways_of form ≤ 8 → (sets : ℕ) (u : Useful) → Printable (useful_text form sets u)
unfolding useful_text
useful-printable Hex few sets u = marks-printable sets (set_at u.levels 0)
useful-printable (Digits ways) few sets u = counts-printable sets (counts ways u) (λ s. omega (arith, heights-le ways u.levels s))

name-byte-printable : (b : ℕ) → is_name_byte b ≡ true → is_printable_byte b ≡ true
name-byte-printable b e = elim (or_cases ((leb 97 b && leb b 122) || (leb 48 b && leb b 57)) (eqb b 45) e) [
  | inl other ↦ elim (or_cases (leb 97 b && leb b 122) (leb 48 b && leb b 57) other) [
    | inl letter ↦ (let p = and_parts (leb 97 b) (leb b 122) letter in let low = leb-true 97 b p.0 in let high = leb-true b 122 p.1 in shown-byte b (omega arith) (omega arith))
    | inr digit ↦ (let p = and_parts (leb 48 b) (leb b 57) digit in let low = leb-true 48 b p.0 in let high = leb-true b 57 p.1 in shown-byte b (omega arith) (omega arith))
  ]
  | inr dash ↦ (let is = eqb-true b 45 dash in shown-byte b (omega arith) (omega arith))
]

name-bytes-printable : (s : List ℕ) → list_all is_name_byte s ≡ true → Printable s
name-bytes-printable [] e = refl
name-bytes-printable (b ∷ s) e = let p = and_parts (is_name_byte b) (list_all is_name_byte s) e in rw (name-byte-printable b p.0) (name-bytes-printable s p.1)

pub name-printable : (s : List ℕ) → is_name s ≡ true → Printable s
unfolding is_name
name-printable s e = name-bytes-printable s (and_parts (leb 1 (length s) && leb (length s) 12) (list_all is_name_byte s) e).1

-- ---- the names of a table's tasks

no-name-printable : Printable (name_text blank.name)
unfolding up_to
no-name-printable = refl

module _ (table : Table) (accepted : AcceptedTable table) where
  -- at a position without a task none stands
  pub name-at-printable : (k : ℕ) → Printable (name_text (at table k).name)
  unfolding at
  name-at-printable k = elim (dec_lt k table.count) [
    | yes h ↦ name-printable (name_text (at table k).name) (accepted.tasks k h).name
    | no h ↦ rw (get_or_past (tasks_of table) k blank (omega (arith, length-take table.count table.tasks))) no-name-printable
  ]
