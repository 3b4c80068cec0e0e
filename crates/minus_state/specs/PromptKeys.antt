-- What a key does to an open search prompt.
use Rattle.std.specs.Prelude.{◌≡◌, Bool, true, Option, None, Some}
use Rattle.regex.specs.Patterns.{Re}
use Rattle.minus_term.specs.declared.event.Event.{Event}
use Rattle.minus_term.specs.Refusals.{Refusal, for_memory, for_query}
use Rattle.minus_state.specs.declared.change.Change.{Change}
use Rattle.minus_state.specs.declared.change.Redraw.{Redraw}
use Rattle.minus_state.specs.declared.change.Redraw.TheVariants.{Stays, Cursor, Edit, Closing}
use Rattle.minus_state.specs.declared.search.keys.QueryEdit.{QueryEdit}
use Rattle.minus_state.specs.declared.search.keys.QueryEdit.TheVariants.{Confirms}
use Rattle.minus_state.specs.declared.search.query.Fed.{Fed}
use Rattle.minus_state.specs.declared.search.query.Fed.TheVariants.{Unchanged, Moved, Edited, Confirmed, Cancelled}
use Rattle.minus_state.specs.declared.state.PagerState.{PagerState}
use Rattle.minus_state.specs.Changes.{Leads}
use Rattle.minus_state.specs.Conditions.{Judges, MayPreview}
use Rattle.minus_state.specs.Confirming.{entered}
use Rattle.minus_state.specs.Control.{Control}
use Rattle.minus_state.specs.OpenPrompts.{Prompt, fed}
use Rattle.minus_state.specs.OpenSearches.{OpenSearch}
use Rattle.minus_state.specs.Prompting.{closed, typed, edited}
use Rattle.minus_state.specs.QueryEditor.{told_of, refuses, takes_memory}
use Rattle.minus_state.specs.QueryKeys.{edit_of}
use Rattle.minus_state.specs.QueryPatterns.{MayTake}
use Rattle.minus_state.specs.States.{control_of}

-- what a key leaves that did this to the prompt, whose prompt is this one then, and what was found for it
abbrev pub left_by : Fed → Control → Bool → Prompt → Option Re → Control
left_by Unchanged c was_edited p found = c
left_by Moved c was_edited p found = typed c p
left_by Edited c was_edited p found = edited c p found
left_by Confirmed c was_edited p found = entered c was_edited found
left_by Cancelled c was_edited p found = closed c

-- how much of the page that asks to be drawn
abbrev pub redraw_by : Fed → Redraw
redraw_by Unchanged = Stays
redraw_by Moved = Cursor
redraw_by Edited = Edit
redraw_by Confirmed = Closing
redraw_by Cancelled = Closing

-- what may be found at an event that did this to a search prompt in a state: for the query that it leaves where it
-- edited that, under the condition that is kept, and for the query before where it took that
abbrev pub MayFindBy : {Q : Type 0} → Fed → Judges Q → Option Q → PagerState → OpenSearch → Event → Option Re → Type 0
MayFindBy Unchanged judges condition s o event found = found ≡ None
MayFindBy Moved judges condition s o event found = found ≡ None
MayFindBy Edited judges condition s o event found = MayPreview judges condition s o.prompt event found
MayFindBy Confirmed judges condition s o event found = MayTake o found
MayFindBy Cancelled judges condition s o event found = found ≡ None

-- what an edit does to an open search prompt: nothing, a move of the cursor, a change of the
-- query, or it confirms or cancels the query
abbrev pub told_by : OpenSearch → QueryEdit → Fed
told_by o edit = told_of o.prompt.editor edit

-- the control that an edit of an open search prompt leaves, where `found` is the pattern that was found for it, or none
abbrev pub keyed : Control → OpenSearch → QueryEdit → Option Re → Control
keyed c o edit found = left_by (told_by o edit) c o.edited (fed o.prompt edit) found

-- how much of the page an edit of an open search prompt asks to be drawn
abbrev pub keyed_redraw : OpenSearch → QueryEdit → Redraw
keyed_redraw o edit = redraw_by (told_by o edit)

-- the pattern, or none, may be found at an event in a state with an open search prompt,
-- under the condition that is kept
abbrev pub MayFind : {Q : Type 0} → Judges Q → Option Q → PagerState → OpenSearch → Event → Option Re → Type 0
MayFind judges condition s o event found = MayFindBy (told_by o (edit_of event)) judges condition s o event found

-- what a key may lead to, where this search prompt is open in a state, if one is
abbrev pub MayLead : {Q : Type 0} → Judges Q → Option Q → PagerState → Event → Change → Option OpenSearch → Type 0
MayLead judges condition s event change None = Leads s change (control_of s)
MayLead judges condition s event change (Some o) =
    (found : Option Re) × MayFind judges condition s o event found
    × Leads s change (keyed (control_of s) o (edit_of event) found)

-- how much of the page an edit asks to be drawn: nothing where no search prompt is open
abbrev pub redraw_at : Option OpenSearch → QueryEdit → Redraw
redraw_at None edit = Stays
redraw_at (Some o) edit = keyed_redraw o edit

-- whether a key takes memory before it is done: it removes or inserts a character, or takes an edited query
abbrev pub key_takes_memory : OpenSearch → QueryEdit → Bool
key_takes_memory o Confirms = o.edited
key_takes_memory o edit = takes_memory edit

-- why a key was not taken: the memory that it takes was refused, or it types a character
-- to a query that has as many as it may have
abbrev pub IsUnkeyed : Refusal → OpenSearch → QueryEdit → Type 0
IsUnkeyed for_memory o edit = key_takes_memory o edit ≡ true
IsUnkeyed for_query o edit = refuses o.prompt.editor edit ≡ true
IsUnkeyed refusal o edit = ⊥

-- why a key was not taken, where this search prompt is open, if one is; without one no key is refused
abbrev pub IsUnkeyedAt : Refusal → Option OpenSearch → QueryEdit → Type 0
IsUnkeyedAt refusal None edit = ⊥
IsUnkeyedAt refusal (Some o) edit = IsUnkeyed refusal o edit
