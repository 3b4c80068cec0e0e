-- What waits for a start or for a program that performs commands manually, and what is queued in the place of a drawing,
-- a move and the opening of a search prompt.
use Rattle.std.specs.Prelude.{ℕ, List, [], ◌∷◌, ◌++◌, Bool, Option, None, Some, if◌then◌else◌}
use Rattle.std.specs.Option.{option_map}
use Rattle.minus_state.specs.Control.{Control}
use Rattle.minus_state.specs.declared.change.Redraw.{Redraw}
use Rattle.minus_state.specs.declared.change.Redraw.TheVariants.{Whole, Appended, Opening}
use Rattle.minus_commands.specs.declared.command_queue.CommandQueueOf.{CommandQueueOf}
use Rattle.minus_commands.specs.declared.commands.CommandOf.{CommandOf}
use Rattle.minus_commands.specs.declared.pager.PagerOf.{PagerOf}
use Rattle.minus_commands.specs.declared.commands.IoCommand.{IoCommand}
use Rattle.minus_commands.specs.declared.commands.IoCommand.TheVariants.{RedrawPrompt, RedrawDisplay, SetUpperMark}
use Rattle.minus_commands.specs.declared.commands.IoCommand.TheVariants.{FetchSearchQuery}
use Rattle.minus_commands.specs.Shapes.{Effect}
use Rattle.minus_commands.specs.Table.{Wanted, effect_of}

-- the commands that wait in a queue, the first that came first
abbrev pub waiting_in : {P H E Q K : Type 0} → CommandQueueOf P H E Q K → List (CommandOf P H E Q K)
waiting_in queue = queue.commands.items

-- the commands that wait in a pager for its start, the first that came first
abbrev pub waiting_of : {P H E Q K : Type 0} → PagerOf P H E Q K → List (CommandOf P H E Q K)
waiting_of pager = pager.queue.items

-- the command for what is asked to be drawn, or for the prompt row where only that may have changed, if either is drawn
abbrev pub drawing_command : Redraw → (row_only : Bool) → Option IoCommand
drawing_command Whole row_only = Some RedrawDisplay
drawing_command Appended row_only = Some RedrawDisplay
drawing_command Opening row_only = Some FetchSearchQuery
drawing_command redraw row_only = if row_only then Some RedrawPrompt else None

-- the command for a move to a mark, if the mark is moved
abbrev pub move_command : Option ℕ → Option IoCommand
move_command to = option_map (λ mark. SetUpperMark mark) to

-- the commands that there are
abbrev pub listed : Option IoCommand → List IoCommand
listed None = []
listed (Some command) = command ∷ []

-- the commands that are queued for an effect: the drawing, and then the move
abbrev pub queued_for : Effect → List IoCommand
queued_for e = listed (drawing_command e.redraw e.row_only) ++ listed (move_command e.moves_to)

-- the commands that are queued for a request in a control: the drawing, and then the move
abbrev pub queued : {Q K : Type 0} → Control → Wanted Q K → List IoCommand
queued c w = queued_for (effect_of c w)
