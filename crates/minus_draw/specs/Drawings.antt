-- How the page is drawn.
use Rattle.std.specs.Prelude.{◌≡◌, ℕ, ◌-◌, ◌++◌, min, List, [], Option, None, Some}
use Rattle.std.specs.Prelude.{if◌then◌else◌, ◌==◌, length}
use Rattle.minus_term.specs.PageRows.{page_len}
use Rattle.minus_term.specs.Operations.{Op}
use Rattle.std.specs.List.{flat_map}
use Rattle.minus_term.specs.FullRedraw.{full_ops, row_ops}
use Rattle.minus_term.specs.Scroll.{scroll_ops}
use Rattle.minus_term.specs.Append.{append_ops}
use Rattle.minus_term.specs.SearchPrompt.{opening_ops, cursor_ops, edit_ops, closing_ops}
use Rattle.minus_draw.specs.declared.drawings.Drawing.{Drawing}
use Rattle.minus_draw.specs.declared.drawings.Drawing.TheVariants.{Nothing, Page, Scroll, Append, LastRow}
use Rattle.minus_draw.specs.declared.drawings.WholePage.{WholePage}
use Rattle.minus_draw.specs.declared.drawings.WholePage.TheVariants.{Plain, Typed, Closing}
use Rattle.minus_draw.specs.declared.drawings.LastRow.TheVariants.{Prompt, Opening, Cursor}
use Rattle.minus_draw.specs.declared.drawings.LastRow.{LastRow as LastRowKind}
use Rattle.minus_state.specs.Control.{Control, text_rows}
use Rattle.minus_state.specs.Appending.{first_changed}
use Rattle.minus_state.specs.ClampedMark.{moved_to}
use Rattle.minus_state.specs.declared.change.Redraw.TheVariants.{Moved, Stays, Whole, Appended, PromptRow}
use Rattle.minus_state.specs.Confirming.{confirmed, confirmed_by}
use Rattle.regex.specs.Patterns.{Re}
use Rattle.minus_state.specs.OpenSearches.{OpenSearch, typed_in}
use Rattle.minus_state.specs.Page.{shown}
use Rattle.minus_state.specs.ShownPrompt.{prompt_row}
use Rattle.minus_draw.specs.PromptRowDrawing.{whole_prompt, changed_prompt}
use Rattle.minus_state.specs.declared.change.Redraw.{Redraw}
use Rattle.minus_state.specs.declared.change.Redraw.TheVariants as redraws

-- the list that draws a page whole
abbrev pub whole_page : Control → List Op
whole_page c = full_ops c.rows (shown c) (prompt_row c)

-- the list that puts the rows of text of a page, from where the cursor is
abbrev pub page_rows : Control → List Op
page_rows c = flat_map row_ops (shown c)

-- the list that draws the rows of text of a page from row `first` of the text on, counted
-- from 0, where the text had `were` rows
abbrev pub append_from : Control → ℕ → ℕ → List Op
append_from c first were = append_ops (first - c.mark) (min (were - c.mark) (page_len c.rows)) (shown c)

-- the list that draws a whole page on a terminal with this number of rows, from where the
-- pattern leads, with these bytes in its last row
abbrev pub preview_ops : ℕ → Control → Re → List ℕ → List Op
preview_ops rows c pattern last = full_ops rows (shown (confirmed c pattern)) last

-- the list that draws a whole page, from where the pattern leads, if there is one, with these bytes in its last row
abbrev pub page_by : Control → Option Re → List ℕ → List Op
page_by c pattern last = full_ops c.rows (shown (confirmed_by c pattern)) last

-- the list that draws a search prompt as it opens, if one is open
abbrev pub opening_under : ℕ → Option OpenSearch → List Op
opening_under rows None = []
opening_under rows (Some o) = opening_ops rows (typed_in o.prompt)

-- as its cursor moves
abbrev pub cursor_under : ℕ → Option OpenSearch → List Op
cursor_under rows None = []
cursor_under rows (Some o) = cursor_ops rows o.prompt.editor.cursor

-- and the page with it, after an edit of its query
abbrev pub edit_under : Control → Option OpenSearch → List Op
edit_under c None = []
edit_under c (Some o) = edit_ops c.rows (shown (confirmed_by c o.preview)) (typed_in o.prompt) o.prompt.editor.cursor

-- how what is asked for is drawn over the page of a control, by the mark that the clamp leaves: a move not at all where
-- the mark stays, and an append in full where it does not
abbrev pub drawing_by : Redraw → Control → ℕ → Drawing
drawing_by Stays old mark = Nothing
drawing_by Whole old mark = Page Plain
drawing_by Moved old mark = if mark == old.mark then Nothing else Scroll old.mark mark
drawing_by Appended old mark =
    if mark == old.mark then Append (first_changed old) (length (text_rows old)) else Page Plain
drawing_by PromptRow old mark = LastRow Prompt
drawing_by redraws.Opening old mark = LastRow Opening
drawing_by redraws.Cursor old mark = LastRow Cursor
drawing_by redraws.Edit old mark = Page Typed
drawing_by redraws.Closing old mark = Page Closing

-- the list that draws a page whole, where a change leads to a control
abbrev pub page_ops : WholePage → Control → List Op
page_ops Plain new = whole_page new
page_ops Typed new = edit_under new new.search
page_ops Closing new = closing_ops new.rows (shown new) (prompt_row new)

-- the list that draws the last row of a page, where a change leads to a control
abbrev pub last_row_ops : LastRowKind → Control → List Op
last_row_ops Prompt new = whole_prompt new
last_row_ops Opening new = opening_under new.rows new.search
last_row_ops Cursor new = cursor_under new.rows new.search

-- the list that a drawing of a change is, where it leads to a control
abbrev pub ops_of : Drawing → Control → List Op
ops_of Nothing new = []
ops_of (Page page) new = page_ops page new
ops_of (Scroll from to) new = scroll_ops new.rows from to (shown new) (prompt_row new)
ops_of (Append first old_count) new = append_from new first old_count
ops_of (LastRow row) new = last_row_ops row new

-- the list of a step: what does not draw the prompt row is followed by it where it is another one than before
abbrev pub ops_of_step : Drawing → Control → Control → List Op
ops_of_step Nothing old new = changed_prompt old new
ops_of_step (Append first old_count) old new = append_from new first old_count ++ changed_prompt old new
ops_of_step drawing old new = ops_of drawing new

-- the list that a move of the mark is drawn by
abbrev pub scroll_to : Control → ℕ → List Op
scroll_to c mark = ops_of (drawing_by Moved c (moved_to c mark).mark) (moved_to c mark)

-- the search prompt alone has changed
abbrev pub EditsAlone : Control → Control → Type 0
EditsAlone old new = (o : OpenSearch) → new.search ≡ Some o → new ≡ record old { search = Some o }

-- a change can be drawn so: where the query was edited, nothing else has changed
abbrev pub IsDrawable : Drawing → Control → Control → Type 0
IsDrawable (Page Typed) old new = EditsAlone old new
IsDrawable drawing old new = Unit {0}
