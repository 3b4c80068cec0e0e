-- Commands that a program handles manually, one at a time.
use Rattle.std.specs.Prelude.{◌≡◌, List, ◌∷◌, [], ◌++◌, map, Bool, true, false, Option, None, Some, string_bytes}
use Rattle.std.specs.Option.{option_map}
use Rattle.minus_term.specs.Counts.{SinkSeen, AppendsFront, Stays, Rises, RisesBy}
use Rattle.minus_term.specs.Operations.{Op}
use Rattle.minus_term.specs.Refusals.{Refusal, for_memory, at_drawing}
use Rattle.minus_term.specs.Written.{written_all}
use Rattle.minus_state.specs.Classifying.{Classifies}
use Rattle.minus_state.specs.declared.change.Redraw.{Redraw}
use Rattle.minus_state.specs.Control.{Control}
use Rattle.minus_state.specs.States.{control_of, IsFormed}
use Rattle.minus_commands.specs.declared.commands.CommandOf.{CommandOf}
use Rattle.minus_commands.specs.declared.commands.IoCommand.{IoCommand}
use Rattle.minus_commands.specs.declared.commands.IoCommand.TheVariants.{SetUpperMark}
use Rattle.minus_commands.specs.declared.ev_handler.Handled.{Handled}
use Rattle.minus_commands.specs.declared.parts.PartsOf.{PartsOf}
use Rattle.minus_commands.specs.Reads.{IsRequest, as_command, io_of, io_wanted, kept_of, wanted_of}
use Rattle.minus_commands.specs.Outcomes.{MemoryOr}
use Rattle.minus_draw.specs.Drawings.{ops_of}
use Rattle.minus_draw.specs.DrawsFormed.{DrawsFormed}
use Rattle.minus_commands.specs.Registration.{kept_after, classifier_after, condition_after, IsFreeFor}
use Rattle.minus_commands.specs.Queued.{queued}
use Rattle.minus_commands.specs.Table.{Wanted, effect_of, handed, changed_by, drawing_of, IsFaultBeside}
use Rattle.minus_commands.specs.Unmoved.{unmoved}

-- a command that asks for a drawing waits behind all others, and nothing else is done
pub record IsQueued {P H E Q K : Type 0} (old : PartsOf P H E Q K) (waiting : List (CommandOf P H E Q K))
    (command : CommandOf P H E Q K)
    (new : PartsOf P H E Q K) (queue : List (CommandOf P H E Q K)) (handled : Handled) : Type 0 where
  pub parts : new ≡ old
  pub queue_is : queue ≡ waiting ++ command ∷ []
  pub exited : handled.exited ≡ false
  pub copied : handled.copied ≡ None

-- what a command asks for was done without its move, its drawing and the opening of a search prompt:
-- these wait behind all others. An exit is answered. What that leaves of the control and the queue, and
-- what is copied, is said of a state that is formed
pub record IsDone {P H E Q K : Type 0} (old : PartsOf P H E Q K) (waiting : List (CommandOf P H E Q K)) (w : Wanted Q K)
    (new : PartsOf P H E Q K) (queue : List (CommandOf P H E Q K)) (handled : Handled) : Type 0 where
  pub control : IsFormed old.state → control_of new.state ≡ unmoved (control_of old.state) w
  pub free : IsFreeFor (kept_of old).ids (handed w)
  pub kept : kept_of new ≡ kept_after (kept_of old) (handed w)
  pub classifier : new.classifier ≡ classifier_after old.classifier (handed w)
  pub condition : new.condition ≡ condition_after old.condition (handed w)
  pub queue_is : IsFormed old.state → queue ≡ waiting ++ map as_command (queued (control_of old.state) w)
  pub exited : handled.exited ≡ (effect_of (control_of old.state) w).is_exit
  pub copied : IsFormed old.state → option_map string_bytes handled.copied ≡ (effect_of (control_of old.state) w).copies

-- the request that a command makes, with the classifier of these parts
abbrev pub IsRequestTo : {P H E Q K : Type 0} → Classifies K → PartsOf P H E Q K → CommandOf P H E Q K → Wanted Q K
    → Type 0
IsRequestTo says parts command w = IsRequest says parts.classifier (control_of parts.state).help (wanted_of command) w

-- a command was handled, by the drawing that it asks for, if it asks for one: such a command waits
-- itself, and what any other asks for is done
abbrev pub HandlesAs :
    {P H E Q K : Type 0} → Option IoCommand → Classifies K → PartsOf P H E Q K → List (CommandOf P H E Q K)
    → CommandOf P H E Q K → PartsOf P H E Q K → List (CommandOf P H E Q K) → Handled → Type 0
HandlesAs (Some io) says old waiting command new queue handled = IsQueued old waiting command new queue handled
HandlesAs {Q = Q} {K = K} None says old waiting command new queue handled =
    (w : Wanted Q K) × IsRequestTo says old command w × IsDone old waiting w new queue handled

-- a command was handled: one that asks for a drawing waits behind all others, and what any other asks for is done
abbrev pub Handles :
    {P H E Q K : Type 0} → Classifies K → PartsOf P H E Q K → List (CommandOf P H E Q K) → CommandOf P H E Q K
    → PartsOf P H E Q K → List (CommandOf P H E Q K) → Handled → Type 0
Handles says old waiting command new queue handled =
    HandlesAs (io_of command) says old waiting command new queue handled

-- nothing has changed
pub record IsUnhandled {P H E Q K : Type 0} (old : PartsOf P H E Q K) (waiting : List (CommandOf P H E Q K))
    (new : PartsOf P H E Q K) (queue : List (CommandOf P H E Q K)) : Type 0 where
  pub control : control_of new.state ≡ control_of old.state
  pub kept : kept_of new ≡ kept_of old
  pub classifier : new.classifier ≡ old.classifier
  pub condition : new.condition ≡ old.condition
  pub queue_is : queue ≡ waiting

-- why a command is not handled: out of memory, or for what cannot be done
abbrev pub CannotHandle : {P H E Q K : Type 0} → Refusal → Classifies K → PartsOf P H E Q K → CommandOf P H E Q K
    → Type 0
CannotHandle {Q = Q} {K = K} refusal says parts command =
    MemoryOr
    (λ (r : Refusal). (w : Wanted Q K) × IsRequestTo says parts command w × IsFaultBeside (kept_of parts).ids r w)
    refusal

-- the control that a command leaves which asks for a drawing
abbrev pub io_left : (Q K : Type 0) → Control → IoCommand → Control
io_left Q K c io = changed_by (effect_of {Q = Q} {K = K} c (io_wanted io))

-- how much of the page a command asks to be drawn
abbrev pub io_redraw : (Q K : Type 0) → Control → IoCommand → Redraw
io_redraw Q K c io = (effect_of {Q = Q} {K = K} c (io_wanted io)).redraw

-- whether it moves the mark
abbrev pub is_io_move : IoCommand → Bool
is_io_move (SetUpperMark mark) = true
is_io_move io = false

-- the operations by which a command is drawn that asks for a drawing
abbrev pub io_ops : (Q K : Type 0) → Control → IoCommand → List Op
io_ops Q K c io = ops_of (drawing_of {Q = Q} {K = K} c (io_wanted io)) (io_left Q K c io)

-- the control that such commands leave, done one after another
abbrev pub all_io_left : (Q K : Type 0) → Control → List IoCommand → Control
all_io_left Q K c [] = c
all_io_left Q K c (io ∷ rest) = all_io_left Q K (io_left Q K c io) rest

-- the law that a command which is performed manually leaves, after what waits for it is
-- done too, what the table says of it
abbrev pub ByHandAsByTheTable : (Q K : Type 0) → Type 0
ByHandAsByTheTable Q K =
    (c : Control) (w : Wanted Q K) → all_io_left Q K (unmoved c w) (queued c w) ≡ changed_by (effect_of c w)

-- what it asks for was done, and drawn on a sink: what that leaves, and the drawing, are said of a state that is formed
pub record IsIoDone {S P H E Q K : Type 0} (sink : S → SinkSeen) (old : PartsOf P H E Q K) (before : S) (io : IoCommand)
    (new : PartsOf P H E Q K) (after : S) : Type 0 where
  pub control : IsFormed old.state → control_of new.state ≡ io_left Q K (control_of old.state) io
  pub drawn : DrawsFormed sink old.state before (io_ops Q K (control_of old.state) io) after
  pub stays : Stays (sink before).refusals (sink after).refusals
  pub settled : RisesBy (sink before).settles (sink after).settles 1

-- why it was not: out of memory, and nothing has changed; or the sink refused the drawing, of
-- which a beginning was written, of what is done
abbrev pub IsIoUndone : {S P H E Q K : Type 0} → Refusal → (S → SinkSeen) → PartsOf P H E Q K → S → IoCommand
    → PartsOf P H E Q K → S → Type 0
IsIoUndone for_memory sink old before io new after = (control_of new.state ≡ control_of old.state) × (after ≡ before)
IsIoUndone {Q = Q} {K = K} at_drawing sink old before io new after =
    (IsFormed old.state → control_of new.state ≡ io_left Q K (control_of old.state) io)
    × (IsFormed old.state
    → AppendsFront (sink before).bytes (sink after).bytes (written_all (io_ops Q K (control_of old.state) io)))
    × Rises (sink before).refusals (sink after).refusals
IsIoUndone refusal sink old before io new after = ⊥
