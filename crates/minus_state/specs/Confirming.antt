-- What is left where a query is taken: Enter at the search prompt.
use Rattle.std.specs.Prelude.{ℕ, unwrap_or, slice_get, List, Bool, codes, Option, Some, None, if◌then◌else◌}
use Rattle.regex.specs.Patterns.{Re}
use Rattle.minus_state.specs.Control.{Control, matches_of, searched_for, with_message}
use Rattle.minus_state.specs.ClampedMark.{clamp}
use Rattle.minus_state.specs.Prompting.{closed}

-- the mark goes to the match that the prompt row reports, if there is one
abbrev pub at_match : Control → Control
at_match c = clamp (record c { mark = unwrap_or (slice_get (matches_of c) c.search_mark) c.mark })

-- the query's pattern is the term, and the mark goes to its match
abbrev pub confirmed : Control → Re → Control
confirmed c query = at_match (searched_for c (Some query))

-- and where there is a pattern: nothing changes without one
abbrev pub confirmed_by : Control → Option Re → Control
confirmed_by c None = c
confirmed_by c (Some query) = confirmed c query

-- the message where a query that is taken has no pattern
abbrev pub no_pattern : List ℕ
no_pattern = codes "Invalid regular expression. Press Enter"

-- an edited query is taken: its pattern is the term, or, without one, a message says so
abbrev pub taken_by : Control → Option Re → Control
taken_by c None = with_message c no_pattern
taken_by c (Some query) = confirmed c query

-- the prompt is closed, and its query is taken if it was edited
abbrev pub entered : Control → Bool → Option Re → Control
entered c was_edited found = closed (if was_edited then taken_by c found else c)
