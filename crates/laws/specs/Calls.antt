-- When two calls of an operation agree.
use Rattle.std.specs.Prelude.{ℕ, ◌≤◌, ◌≡◌, ◌⊎◌, List, ◌++◌, length, drop}
use Rattle.writing.specs.declared.writer.TheConstants.{ROOM}
use Rattle.crpd.specs.Operations.{answer_to, WritesText, report_to}
use Rattle.laws.specs.declared.any_worker.Replies.{Replies}
use Rattle.laws.specs.declared.any_worker.Reports.{Reports}

-- a buffer with some bytes at its start, and after them as it was
abbrev pub started_with : List ℕ → List ℕ → List ℕ
started_with bytes before = bytes ++ drop (length bytes) before

-- two calls agree, each with its buffer as it was before it and after it: they answer the same, put the same bytes at the starts of their buffers, and
-- leave all else there as it was
pub record CallsAgree {A : Type 0} (one other : A) (before after before' after' : List ℕ) : Type 0 where
  pub answers : one ≡ other
  pub bytes : List ℕ
  pub after_is : after ≡ started_with bytes before
  pub after'-is : after' ≡ started_with bytes before'

-- two buffers have the same room for a text of at most so many bytes: they are equally long, or it fits into both
abbrev pub SameRoom : ℕ → List ℕ → List ℕ → Type 0
SameRoom most before before' = (length before ≡ length before') ⊎ ((most ≤ length before) × (most ≤ length before'))

-- what is promised of two calls of `answer`, and of two calls of `report`
pub record AnsweredTwice (text : List ℕ) (m i : ℕ) (r : Replies) : Type 0 where
  pub is : r.one ≡ answer_to text m i
  pub same : r.one ≡ r.other

pub record ReportedTwice (text before after before' after' : List ℕ) (r : Reports) : Type 0 where
  pub one : WritesText ROOM (report_to text) before r.one after
  pub other : WritesText ROOM (report_to text) before' r.other after'
  pub agree : SameRoom 2746 before before' → CallsAgree r.one r.other before after before' after'
