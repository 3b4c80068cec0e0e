-- Where jumps among the rows that match lead.
use Rattle.std.specs.Prelude.{ℕ, ◌-◌, ◌==◌, nat_lt, length, slice_get, unwrap_or, Option, Some, None, if◌then◌else◌}
use Rattle.minus_text.specs.Matches.{nth_match}
use Rattle.minus_state.specs.Control.{Control, matches_of}

-- the match that a jump on goes to, counted from the mark, past the last one on at the
-- first; where no row matches, the one before
abbrev pub next_match : Control → ℕ → ℕ
next_match c jump = unwrap_or (nth_match (matches_of c) c.mark jump) c.search_mark

-- its row, if some row matches
abbrev pub next_match_row : Control → ℕ → Option ℕ
next_match_row c jump = slice_get (matches_of c) (next_match c jump)

-- the match that a jump back goes to, counted from the one that the prompt row reports, not
-- before the first; where no row matches, that one
abbrev pub prev_match : Control → ℕ → ℕ
prev_match c jump = if length (matches_of c) == 0 then c.search_mark else c.search_mark - jump

-- a row, if there is one and it stands above a mark
abbrev pub row_above : ℕ → Option ℕ → Option ℕ
row_above mark None = None
row_above mark (Some row) = if nat_lt row mark then Some row else None

-- its row, if there is such a match and it stands above the mark
abbrev pub prev_match_row : Control → ℕ → Option ℕ
prev_match_row c jump = row_above c.mark (slice_get (matches_of c) (prev_match c jump))

-- the prompt row reports the match that a jump on goes to
abbrev pub telling_next : Control → ℕ → Control
telling_next c jump = record c { search_mark = next_match c jump }

-- the prompt row reports the match that a jump back goes to
abbrev pub telling_prev : Control → ℕ → Control
telling_prev c jump = record c { search_mark = prev_match c jump }
