-- Commands that are handled manually.
use Rattle.std.proofs.Common.{◌≡◌, ℕ, List, ◌++◌, map, true, false, Option, None, Some, is_some, sym, ap, ◌∙◌}
use Rattle.std.proofs.lemmas.List.{append_assoc, map-append}
use Rattle.minus_term.specs.Refusals.{Refusal, for_hook_id, for_free_hook_id}
use Rattle.minus_state.specs.Classifying.{Classifies}
use Rattle.minus_state.specs.Control.{Control}
use Rattle.minus_state.specs.Prompting.{opening_redraw}
use Rattle.minus_state.specs.declared.change.Redraw.{Redraw}
use Rattle.minus_state.specs.declared.search.SearchMode.{SearchMode}
use Rattle.minus_state.specs.declared.search.SearchMode.TheVariants.{Forward, Reverse, Unknown}
use Rattle.minus_commands.specs.declared.commands.CommandOf.{CommandOf}
use Rattle.minus_commands.specs.declared.commands.IoCommand.{IoCommand}
use Rattle.minus_commands.specs.declared.commands.IoCommand.TheVariants.{RedrawPrompt, RedrawDisplay, DrawAppendedText, SetUpperMark, FetchSearchQuery}
use Rattle.minus_commands.specs.declared.ev_handler.Handled.{Handled}
use Rattle.minus_commands.specs.declared.parts.PartsOf.{PartsOf}
use Rattle.minus_draw.specs.Drawings.{IsDrawable, drawing_by}
use Rattle.minus_commands.specs.declared.outcome.Outcome.{Outcome}
use Rattle.minus_commands.specs.EvHandler.{HandlesAs, IsQueued, IsDone, IsRequestTo, CannotHandle}
use Rattle.minus_commands.specs.Outcomes.{IsUnformed}
use Rattle.minus_commands.specs.Queued.{listed, queued, drawing_command, move_command}
use Rattle.minus_commands.specs.Reads.{as_command, io_wanted, kept_of}
use Rattle.minus_commands.specs.Shapes.{Effect}
use Rattle.minus_commands.specs.Unmoved.{IsUnmoved}
use Rattle.minus_commands.specs.Table.{Wanted, moves_mark, fetches_query, effect_of, changed_by, drawing_of, IsFault, IsFaultBeside}
use Rattle.minus_state.specs.declared.hooks.HookId.{HookId}
use Rattle.minus_commands.proofs.OutcomeLaws.{memory_or}
use Rattle.minus_draw.proofs.KeyedLaws.{moved_drawable}

-- a command that asks for a drawing waits
pub waits : {P H E Q K : Type 0} (io : Option IoCommand) (says : Classifies K) (old : PartsOf P H E Q K) (waiting : List (CommandOf P H E Q K)) (command : CommandOf P H E Q K) (new : PartsOf P H E Q K) (queue : List (CommandOf P H E Q K)) (handled : Handled)
    → is_some io ≡ true → IsQueued old waiting command new queue handled → HandlesAs io says old waiting command new queue handled
waits (Some io) says old waiting command new queue handled is queued = queued
waits None says old waiting command new queue handled is queued = absurd (let no : false ≡ true = is in cc)

-- any other is done
pub is_done : {P H E Q K : Type 0} (io : Option IoCommand) (says : Classifies K) (old : PartsOf P H E Q K) (waiting : List (CommandOf P H E Q K)) (command : CommandOf P H E Q K) (new : PartsOf P H E Q K) (queue : List (CommandOf P H E Q K)) (handled : Handled) (w : Wanted Q K)
    → is_some io ≡ false → IsRequestTo says old command w → IsDone old waiting w new queue handled → HandlesAs io says old waiting command new queue handled
is_done (Some io) says old waiting command new queue handled w is request h = absurd (let no : true ≡ false = is in cc)
is_done None says old waiting command new queue handled w is request h = (w, request, h)

fetch_drawable : (mode : SearchMode) (c new : Control) (mark : ℕ) → IsDrawable (drawing_by (opening_redraw mode) c mark) c new
fetch_drawable Forward c new mark = tt
fetch_drawable Reverse c new mark = tt
fetch_drawable Unknown c new mark = tt

-- no command that asks for a drawing edits the query of a search prompt
pub io_drawable : (Q K : Type 0) (c new : Control) (io : IoCommand) → IsDrawable (drawing_of {Q = Q} {K = K} c (io_wanted io)) c new
io_drawable Q K c new RedrawPrompt = tt
io_drawable Q K c new RedrawDisplay = tt
io_drawable Q K c new (DrawAppendedText unfinished rows style) = tt
io_drawable Q K c new (SetUpperMark mark) = moved_drawable c new (changed_by (effect_of {Q = Q} {K = K} c (moves_mark mark))).mark
io_drawable Q K c new FetchSearchQuery = fetch_drawable c.mode c new (changed_by (effect_of {Q = Q} {K = K} c fetches_query)).mark

-- the drawing waits behind what waited, and the move behind that
pub both_wait : {P H E Q K : Type 0} (c : Control) (w : Wanted Q K) (outcome : Outcome) (drawing movement : Option IoCommand) (waiting kept first last : List (CommandOf P H E Q K)) → IsUnmoved c w outcome → drawing ≡ drawing_command outcome.change.redraw outcome.row_only → movement ≡ move_command outcome.moves_to → kept ≡ waiting
    → first ≡ kept ++ map as_command (listed drawing) → last ≡ first ++ map as_command (listed movement) → last ≡ waiting ++ map as_command (queued c w)
both_wait {P = P} {H = H} {E = E} {Q = Q} {K = K} c w outcome drawing movement waiting kept first last is drawing_is movement_is same drawn moved =
    let commands : List IoCommand → List (CommandOf P H E Q K) = map as_command in
    let e : Effect = effect_of c w in
    let behind : last ≡ waiting ++ (commands (listed drawing) ++ commands (listed movement)) = moved ∙ ap (λ l. l ++ commands (listed movement)) (drawn ∙ ap (λ l. l ++ commands (listed drawing)) same) ∙ append_assoc waiting (commands (listed drawing)) (commands (listed movement)) in
    let draws : drawing ≡ drawing_command e.redraw e.row_only = drawing_is ∙ ap (λ (r : Redraw). drawing_command r outcome.row_only) is.redraw ∙ ap (drawing_command e.redraw) is.row_only in
    let both : listed drawing ++ listed movement ≡ queued c w = ap (λ d. listed d ++ listed movement) draws ∙ ap (λ m. listed (drawing_command e.redraw e.row_only) ++ listed m) (movement_is ∙ ap move_command is.moves_to) in
    behind ∙ ap (λ l. waiting ++ l) (sym (map-append as_command (listed drawing) (listed movement)) ∙ ap commands both)

-- a fault is one beside any ids of hooks
fault_beside : {Q K : Type 0} (ids : List HookId) (refusal : Refusal) (w : Wanted Q K) → IsFault refusal w → IsFaultBeside ids refusal w
fault_beside ids (for_hook_id hook id) w fault = absurd fault
fault_beside ids for_free_hook_id w fault = absurd fault
fault_beside ids refusal w fault = fault

-- why a request was not formed is why its command is not handled
pub cannot_form : {P H E Q K : Type 0} (refusal : Refusal) (says : Classifies K) (parts : PartsOf P H E Q K) (command : CommandOf P H E Q K) (w : Wanted Q K) → IsRequestTo says parts command w → IsUnformed refusal w → CannotHandle refusal says parts command
cannot_form {Q = Q} {K = K} refusal says parts command w request h =
    memory_or {A = λ (r : Refusal). IsFault r w} {B = λ (r : Refusal). (v : Wanted Q K) × IsRequestTo says parts command v × IsFaultBeside (kept_of parts).ids r v} refusal (λ r fault. (w, request, fault_beside (kept_of parts).ids r w fault)) h
