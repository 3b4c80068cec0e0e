-- What a session asks for at events as long as its classifier is a register of the default bindings.
use Rattle.std.specs.Prelude.{◌≡◌, ◌+◌, min}
use Rattle.minus_term.specs.declared.event.Event.{Event}
use Rattle.minus_state.specs.declared.state.PagerState.{PagerState}
use Rattle.minus_state.specs.Classifying.{Classifies}
use Rattle.minus_state.specs.Conditions.{Judges}
use Rattle.minus.specs.Says.{says_of}
use Rattle.minus_state.specs.States.{control_of, IsFormed}
use Rattle.minus_input.specs.DefaultAnswers.{max, steps_of}
use Rattle.minus_input.specs.DefaultBindings.{default_asks, event_of, plain}
use Rattle.minus.specs.Asked.{Asks}
use Rattle.minus_commands.specs.Reads.{IsRequest, event_wanted, an_event}
use Rattle.minus.specs.Seen.{Seen}
use Rattle.minus_commands.specs.Table.{Wanted, moves_mark}

-- an event asks for what the table of the default bindings has for it, in a formed state
-- that holds the control, and for nothing else
abbrev pub EventsAskByTheTable : {Q K : Type 0} → Judges Q → Classifies K → (K → Type 0) → Seen Q K → Type 0
EventsAskByTheTable {Q} {K} judges events IsFirst seen =
    (e : Event) (w : Wanted Q K) → IsFirst seen.classifier → Asks (says_of judges events) seen (an_event e) w
    → (state : PagerState) × IsFormed state × (control_of state ≡ seen.control)
    × IsRequest events seen.classifier seen.control.help (event_wanted (default_asks e state)) w

-- the key `j` asks for a move of the mark by as many rows as the typed prefix says
abbrev pub JMovesByThePrefix : {Q K : Type 0} → Judges Q → Classifies K → (K → Type 0) → Seen Q K → Type 0
JMovesByThePrefix {Q} {K} judges events IsFirst seen =
    (w : Wanted Q K) → IsFirst seen.classifier → Asks (says_of judges events) seen (an_event (event_of (plain 106))) w
    → w ≡ moves_mark (min (seen.control.mark + steps_of seen.control) max)
