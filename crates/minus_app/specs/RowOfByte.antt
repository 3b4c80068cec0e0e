-- The row in which a byte of the text stands.
use Rattle.std.specs.Prelude.{◌≡◌, ℕ, ◌+◌, ◌<◌, ◌⊎◌, length, true, false, Bool, List, Option, None, Some, nat_le}
use Rattle.std.specs.Prelude.{slice_get}
use Rattle.minus_text.specs.declared.rows.Span.{Span}
use Rattle.minus_text.specs.Document.{rows_of}
use Rattle.minus_text.specs.LinePlaces.{row_places}
use Rattle.minus_state.specs.declared.state.PagerState.{PagerState}

-- whether there is a row, and it begins with a byte of the text or before it
abbrev pub starts_by : Option Span → ℕ → Bool
starts_by None byte = false
starts_by (Some place) byte = nat_le place.start byte

-- whether a row begins with a byte or before it; one that is not there does not
abbrev pub begins_by : PagerState → (byte row : ℕ) → Bool
begins_by state byte row = starts_by (slice_get (row_places state.screen.document) row) byte

-- a byte stands in a row: that begins with it or before it, or is the first one of all, and
-- the next row, where there is one, does not
abbrev pub StandsIn : PagerState → (byte row : ℕ) → Type 0
StandsIn state byte row =
    ((row ≡ 0) ⊎ (begins_by state byte row ≡ true))
    × (row + 1 < length (rows_of state.screen.document) → begins_by state byte (row + 1) ≡ false)
