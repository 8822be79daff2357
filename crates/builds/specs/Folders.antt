-- What reports do to the folder in which their builds lie.
use Rattle.std.specs.Prelude.{ℕ, ◌≡◌, Bool, true, false, List, [], ◌∷◌, ◌++◌, length, take, Option, Some, None, IfSome, IsSomeAnd}
use Rattle.crpd.specs.Operations.{printed}
use Rattle.lists.specs.declared.Fate.{Fate}
use Rattle.lists.specs.declared.Fate.TheVariants.{Unread, Unwritten}
use Rattle.builds.specs.Fates.{fate_of}

-- what lies in a folder: the text of each build, by the way to it, where it can be read; of which builds a report can be put there; and the reports that were put
-- there, one after the other, each with the way to its build
pub record Held : Type 0 where
  pub texts : List ℕ → Option (List ℕ)
  pub takes : List ℕ → Bool
  pub reports : List (List ℕ × List ℕ)

-- the text of a build stands at the buffer's start, as much of it as there is room for
abbrev pub HasText : Option Held → List ℕ → ℕ → List ℕ → Type 0
HasText held way len buf = IfSome held (λ h. IsSomeAnd (h.texts way) (λ text. take len buf ≡ take (length buf) text))

-- the text of a build cannot be read
abbrev pub HasNoText : Option Held → List ℕ → Type 0
HasNoText held way = IfSome held (λ h. h.texts way ≡ None)

-- reports more
abbrev pub with_reports : Held → List (List ℕ × List ℕ) → Held
with_reports h more = record h { reports = h.reports ++ more }

-- a report more, of that build
abbrev pub Gains : Option Held → Option Held → List ℕ → List ℕ → Type 0
Gains held after way report = IfSome held (λ h. (h.takes way ≡ true) × (after ≡ Some (with_reports h ((way, report) ∷ []))))

-- no report of that build can be put there
abbrev pub TakesNone : Option Held → List ℕ → Type 0
TakesNone held way = IfSome held (λ h. h.takes way ≡ false)

-- what is told of a build: what becomes of its text, unless it cannot be read or no report be put there
abbrev pub fate_by : Option (List ℕ) → Bool → Fate
fate_by None takes = Unread
fate_by (Some text) true = fate_of text
fate_by (Some text) false = Unwritten

abbrev pub fate_told : Held → List ℕ → Fate
fate_told h way = fate_by (h.texts way) (h.takes way)

-- the report that is put there of it: what is printed of its text
abbrev pub reports_by : List ℕ → Option (List ℕ) → Bool → List (List ℕ × List ℕ)
reports_by way None takes = []
reports_by way (Some text) true = (way, printed text) ∷ []
reports_by way (Some text) false = []

abbrev pub reports_told : Held → List ℕ → List (List ℕ × List ℕ)
reports_told h way = reports_by way (h.texts way) (h.takes way)

-- of a build: what is told of it, and what lies in the folder after that
pub record BuildTold (before : Held) (way : List ℕ) (fate : Fate) (after : Option Held) : Type 0 where
  pub told : fate ≡ fate_told before way
  pub put : after ≡ Some (with_reports before (reports_told before way))

abbrev pub ReportsBuild : Option Held → List ℕ → Fate → Option Held → Type 0
ReportsBuild held way fate after = IfSome held (λ h. BuildTold h way fate after)
