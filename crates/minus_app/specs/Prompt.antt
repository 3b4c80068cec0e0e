-- What the prompt row of the program says.
use Rattle.std.specs.Prelude.{◌≡◌, ℕ, ◌+◌, ◌-◌, ◌/◌, List, [], ◌++◌, ◌⊎◌, Option, None, Some, unwrap_or, codes, length}
use Rattle.std.specs.Prelude.{min, slice_get}
use Rattle.std.specs.Fmt.{decimal}
use Rattle.minus_term.specs.PageRows.{page_len}
use Rattle.minus_text.specs.declared.rows.Span.{Span}
use Rattle.minus_text.specs.Document.{line_map, rows_of}
use Rattle.minus_text.specs.LineMaps.{IsLineOfRow}
use Rattle.minus_text.specs.LinePlaces.{row_places}
use Rattle.minus_state.specs.declared.state.PagerState.{PagerState}
use Rattle.minus_view.specs.declared.prompt_place.Place.{Place}
use Rattle.minus_view.specs.PromptPlace.{place_text}
use Rattle.minus_app.specs.declared.prompt.Notice.{Notice}
use Rattle.minus_app.specs.declared.prompt.Notice.TheVariants.{Nothing, CutShort, OutOfMemory, NotFound, Reading}
use Rattle.minus_app.specs.declared.prompt.Notice.TheVariants.{NotCopied}

-- what is said of a text of `bytes` bytes besides the place of the page
abbrev pub notice_text : Notice → ℕ → List ℕ
notice_text Nothing bytes = []
notice_text CutShort bytes = codes "(cut short) "
notice_text OutOfMemory bytes = codes "(out of memory) "
notice_text NotFound bytes = codes "(pattern not found) "
notice_text NotCopied bytes = codes "(nothing copied: tmux) "
notice_text Reading bytes = codes "(reading " ++ (decimal (bytes / 1000000) ++ codes " MB) ")

-- the number of the line of a row, counted from 1; 0 where there is no line
abbrev pub IsLineNumber : PagerState → (row number : ℕ) → Type 0
IsLineNumber state row number =
    ((line : ℕ) × IsLineOfRow (line_map state.screen.document) row line × (number ≡ line + 1))
    ⊎ ((line_map state.screen.document ≡ []) × (number ≡ 0))

-- where the row begins whose place this is, in bytes of the text; where there is no such row, where the text ends
abbrev pub start_or_end : ℕ → Option Span → ℕ
start_or_end bytes None = bytes
start_or_end bytes (Some place) = place.start

-- where a row begins, in bytes of the text; where there is no such row, where the text ends
abbrev pub start_of : PagerState → ℕ → ℕ
start_of state row = start_or_end (length state.screen.document.text) (slice_get (row_places state.screen.document) row)

-- the row behind the page, counted from 0; the prompt row is none of the text
abbrev pub row_behind : PagerState → ℕ
row_behind state = min (length (rows_of state.screen.document)) (state.upper_mark + page_len state.rows)

-- where in its text the page is
pub record IsPlace (state : PagerState) (place : Place) : Type 0 where
  pub first : IsLineNumber state state.upper_mark place.first
  pub last : IsLineNumber state (row_behind state - 1) place.last
  pub lines : place.lines ≡ length (line_map state.screen.document)
  pub end : place.end ≡ start_of state (row_behind state)
  pub bytes : place.bytes ≡ length state.screen.document.text

-- what is said of the text, and behind it what the application says, or else the title and the place of the
-- page, for a prompt row with `columns` columns
abbrev pub prompt_text : ℕ → Option (List ℕ) → List ℕ → Place → Notice → List ℕ
prompt_text columns own title place notice =
    let said = notice_text notice place.bytes in
    said ++ unwrap_or own (place_text (columns - length said) title place)
