-- Commands that are performed manually.
use Rattle.std.specs.Prelude.{◌≡◌, ◌⊎◌, List, [], ◌∷◌, Option, None, Some, string_bytes}
use Rattle.std.specs.Option.{option_map}
use Rattle.minus_term.specs.Refusals.{Refusal, for_memory, at_drawing}
use Rattle.minus_state.specs.Classifying.{Classifies}
use Rattle.minus_state.specs.declared.state.PagerState.{PagerState}
use Rattle.minus_state.specs.Control.{Control}
use Rattle.minus_state.specs.States.{control_of, IsFormed}
use Rattle.minus_commands.specs.declared.commands.CommandOf.{CommandOf}
use Rattle.minus_commands.specs.declared.commands.IoCommand.{IoCommand}
use Rattle.minus_commands.specs.declared.ev_handler.Handled.{Handled}
use Rattle.minus_commands.specs.declared.parts.PartsOf.{PartsOf}
use Rattle.minus_commands.specs.EvHandler.{IsRequestTo, CannotHandle, io_left}
use Rattle.minus_commands.specs.Registration.{kept_after, classifier_after, condition_after}
use Rattle.minus_commands.specs.Reads.{io_of, kept_of}
use Rattle.minus_commands.specs.Table.{Wanted, effect_of, handed, changed_by}

-- the control that a command leaves which waited: what it asks for is done, if it asks for a drawing
abbrev pub left_by : (Q K : Type 0) → Control → Option IoCommand → Control
left_by Q K c None = c
left_by Q K c (Some io) = io_left Q K c io

-- a state that was formed has that control
abbrev pub LeavesBy : (Q K : Type 0) → (old : PagerState) → Option IoCommand → (new : PagerState) → Type 0
LeavesBy Q K old io new = IsFormed old → control_of new ≡ left_by Q K (control_of old) io

-- the control that commands leave which waited, done one after another
abbrev pub left_by_all : {P H E Q K : Type 0} → Control → List (CommandOf P H E Q K) → Control
left_by_all c [] = c
left_by_all {Q = Q} {K = K} c (command ∷ rest) = left_by_all (left_by Q K c (io_of command)) rest

-- a command was performed, with all that waited for it: what it registers is kept, what the table answers is answered,
-- and a state that was formed has the control that the table gives
pub record IsPerformed {P H E Q K : Type 0} (says : Classifies K) (old : PartsOf P H E Q K)
    (command : CommandOf P H E Q K) (new : PartsOf P H E Q K) (handled : Handled) : Type 0 where
  pub wanted : Wanted Q K
  pub asked : IsRequestTo says old command wanted
  pub control : IsFormed old.state → control_of new.state ≡ changed_by (effect_of (control_of old.state) wanted)
  pub kept : kept_of new ≡ kept_after (kept_of old) (handed wanted)
  pub classifier : new.classifier ≡ classifier_after old.classifier (handed wanted)
  pub condition : new.condition ≡ condition_after old.condition (handed wanted)
  pub exited : handled.exited ≡ (effect_of (control_of old.state) wanted).is_exit
  pub copied : IsFormed old.state
      → option_map string_bytes handled.copied ≡ (effect_of (control_of old.state) wanted).copies

-- why what waits is not done: out of memory, or the sink refused a drawing
abbrev pub IsIoFault : Refusal → Type 0
IsIoFault for_memory = Unit {0}
IsIoFault at_drawing = Unit {0}
IsIoFault refusal = ⊥

-- why a command is not performed: what waited was not done, or the command was not handled
abbrev pub CannotPerform : {P H E Q K : Type 0} → Refusal → Classifies K → PartsOf P H E Q K → CommandOf P H E Q K
    → Type 0
CannotPerform refusal says parts command = IsIoFault refusal ⊎ CannotHandle refusal says parts command
