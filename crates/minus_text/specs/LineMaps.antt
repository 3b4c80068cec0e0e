-- What the calls of a map from lines to first rows say.
use Rattle.std.specs.Prelude.{◌≡◌, ◌==◌, ℕ, ◌+◌, ◌-◌, ◌<◌, ◌≤◌, Bool, List, length, take, slice_index, if◌then◌else◌}

-- the entries that stay before more are put behind them: all where nothing goes on the last line, and else all but the
-- last
abbrev pub entries_kept : List ℕ → Bool → List ℕ
entries_kept entries clean = if clean then entries else take (length entries - 1) entries

-- the last line whose first row is at or before a row, or line 0 where even its first row is after it
pub record IsLineOfRow (entries : List ℕ) (row line : ℕ) : Type 0 where
  pub within : line < length entries
  pub begins : 0 < line → slice_index entries line ≤ row
  pub ends : line + 1 < length entries → row < slice_index entries (line + 1)

-- the line of a row, and whether the line begins with it
abbrev pub IsLineIn : List ℕ → ℕ → ℕ → Bool → Type 0
IsLineIn entries row line first = IsLineOfRow entries row line × (first ≡ (slice_index entries line == row))
