-- The lines of a text and its rows, as an action asks for them.
use Rattle.std.specs.Prelude.{◌≡◌, ℕ, ◌-◌, ◌^◌, [], ◌⊎◌, slice_get, unwrap_or}
use Rattle.minus_text.specs.Document.{line_map}
use Rattle.minus_text.specs.LineMaps.{IsLineOfRow}
use Rattle.minus_state.specs.declared.state.PagerState.{PagerState}

-- the first row of a line, counted from 0; one behind all where there is no such line
abbrev pub row_of_line : PagerState → ℕ → ℕ
row_of_line state line = unwrap_or (slice_get (line_map state.screen.document) line) (2 ^ 64 - 1)

-- the first row of the page is of this line, counted from 0; the first one where there is no line
abbrev pub IsTopLine : PagerState → ℕ → Type 0
IsTopLine state line =
    IsLineOfRow (line_map state.screen.document) state.upper_mark line
    ⊎ ((line_map state.screen.document ≡ []) × (line ≡ 0))
