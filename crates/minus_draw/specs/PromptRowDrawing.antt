-- When the prompt row is drawn: as a part of a drawing, or behind one where it has changed.
use Rattle.std.specs.Prelude.{List, [], bytes_eq, Bool, true, false, if◌then◌else◌}
use Rattle.minus_term.specs.Operations.{Op}
use Rattle.minus_term.specs.FullRedraw.{prompt_ops}
use Rattle.minus_draw.specs.declared.drawings.Drawing.{Drawing}
use Rattle.minus_draw.specs.declared.drawings.Drawing.TheVariants.{Nothing, Page, Scroll, Append, LastRow}
use Rattle.minus_state.specs.Control.{Control}
use Rattle.minus_state.specs.ShownPrompt.{prompt_row}

-- the list that draws the prompt row
abbrev pub whole_prompt : Control → List Op
whole_prompt c = prompt_ops c.rows (prompt_row c)

-- the list that draws a prompt row which is another one than before
abbrev pub changed_prompt : Control → Control → List Op
changed_prompt old new = if bytes_eq (prompt_row new) (prompt_row old) then [] else whole_prompt new

-- whether a drawing draws the prompt row, or what stands in its place
abbrev pub draws_prompt : Drawing → Bool
draws_prompt Nothing = false
draws_prompt (Page whole) = true
draws_prompt (Scroll from to) = true
draws_prompt (Append first old_count) = false
draws_prompt (LastRow row) = true
