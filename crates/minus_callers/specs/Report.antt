-- The key of the tool, and what it answers.
use Rattle.std.specs.Prelude.{ℕ, [], ◌∷◌, true, slice_get, Option, None, Some, codes}
use Rattle.minus_input.specs.declared.bound.ActionOf.{ActionOf}
use Rattle.minus_input.specs.declared.event_form.EventWrapper.{EventWrapper}
use Rattle.minus_input.specs.DefaultBindings.{default_register}
use Rattle.minus_input.specs.Described.{IsKey}
use Rattle.minus_input.specs.Register.{Register}
use Rattle.minus_input.specs.RegisterCalls.{IsAdded}
use Rattle.minus_state.specs.declared.input.InputEvent.{InputEvent}
use Rattle.minus_state.specs.declared.input.InputEvent.TheVariants.{UpdateUpperMark, Ignore}
use Rattle.minus_state.specs.declared.state.PagerState.{PagerState}
use Rattle.minus_text.specs.Document.{line_map}
use Rattle.minus_callers.specs.declared.report.GoToLine.{GoToLine}

-- the page is asked to begin at a row, if there is one, and else nothing is asked for
abbrev pub row_answer : Option ℕ → InputEvent
row_answer None = Ignore
row_answer (Some row) = UpdateUpperMark row

-- the page is asked to begin at the first row of a line, where the text has that line
abbrev pub line_answer : ℕ → PagerState → InputEvent
line_answer line state = row_answer (slice_get (line_map state.screen.document) line)

-- the key goes to this line
abbrev pub summary_key : ℕ → GoToLine
summary_key line = record { line = line }

-- a register of the default bindings in which `s` is bound so
abbrev pub HasSummaryKey : ℕ → Register EventWrapper (ActionOf GoToLine) → Type 0
HasSummaryKey line register =
    IsAdded IsKey (codes "s" ∷ []) true (summary_key line) (codes "go to the summary") default_register register
