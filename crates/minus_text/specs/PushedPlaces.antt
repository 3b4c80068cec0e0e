-- The places of the rows that a push leaves.
use Rattle.std.specs.Prelude.{◌≡◌, ℕ, ◌+◌, ◌≤◌, List, ◌++◌, length, take, drop}
use Rattle.std.specs.Coded.{le_prop, Coded-set, coded_list, coded_ℕ}
use Rattle.minus_text.specs.contracts.rows.Span as span
use Rattle.minus_text.specs.declared.rows.Span.{Span}
use Rattle.minus_text.specs.declared.formed.Restart.{Restart}
use Rattle.minus_text.specs.Lines.{cut}
use Rattle.minus_text.specs.Document.{Document}
use Rattle.minus_text.specs.Fragments.{Fragment}
use Rattle.minus_text.specs.Kept.{stored_from}
use Rattle.minus_text.specs.LinePlaces.{row_places}

-- the place in a text, in bytes, at which a push begins to form
abbrev pub formed_from : Restart → ℕ
formed_from start = start.finished.bytes + start.bytes

-- the places in the whole text of the rows that it forms of a tail, which stands at that place
abbrev pub tail_places : Restart → Fragment → List Span
tail_places start tail = stored_from tail.wrap (formed_from start) (cut tail.text)

-- the first rows of a document stay where they are, and the others are those of the tail: what follows a place of its
-- text, and the piece
pub record PlacesGoOn (d after : Document) (piece : List ℕ) (kept : ℕ) (start : Restart)
    (tail : Fragment) : Type 0 where
  pub places : row_places after ≡ take kept (row_places d) ++ tail_places start tail
  pub few : kept ≤ length (row_places d)
  pub within : formed_from start ≤ length d.text
  pub follows : tail.text ≡ drop (formed_from start) d.text ++ piece

-- this is a fact
spans_set : IsSet (List Span)
spans_set = Coded-set (coded_list span.the_row.coded)

bytes_set : IsSet (List ℕ)
bytes_set = Coded-set (coded_list coded_ℕ)

pub PlacesGoOn-prop : (d after : Document) (piece : List ℕ) (kept : ℕ) (start : Restart) (tail : Fragment) → IsProp
    (PlacesGoOn d after piece kept start tail)
PlacesGoOn-prop d after piece kept start tail = hlevel (le_prop, spans_set, bytes_set)
