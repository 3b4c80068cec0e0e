-- What an input asks for.
use Rattle.std.specs.Prelude.{◌≡◌, Bool, false, Option, None, Some}
use Rattle.minus_state.specs.declared.input.InputEvent.{InputEvent}
use Rattle.minus_state.specs.declared.state.PagerState.{PagerState}
use Rattle.minus_state.specs.TypedPrefix.{cleared}
use Rattle.minus_state.specs.States.{control_of, IsFormed}
use Rattle.minus_commands.specs.Reads.{answer_wanted, Told, a_command, an_event, IsRequest}
use Rattle.minus_state.specs.OpenSearches.{OpenSearch}
use Rattle.minus.specs.Says.{Says}
use Rattle.minus.specs.Seen.{Seen}
use Rattle.minus.specs.Waiting.{checked_as}
use Rattle.minus_commands.specs.Table.{Wanted}
use Rattle.minus_commands.specs.TypedPrefix.{lets_prefix_go}

-- what is asked for: a command asks by itself, an event by an answer that the classifier which is kept may
-- give, in a formed state that holds the control
abbrev pub Asks : {Q K : Type 0} → Says Q K → Seen Q K → Told Q K → Wanted Q K → Type 0
Asks says seen (a_command asked) wanted = IsRequest says.events seen.classifier seen.control.help asked wanted
Asks says seen (an_event event) wanted =
    (state : PagerState) × (answer : Option InputEvent) × IsFormed state × (control_of state ≡ seen.control)
    × says.events.allows seen.classifier event state answer
    × IsRequest says.events seen.classifier seen.control.help (answer_wanted answer) wanted

-- what an input is checked as before it is performed, or before it waits where the search prompt is open
abbrev pub Wants : {Q K : Type 0} → Says Q K → Seen Q K → Option OpenSearch → Told Q K → Wanted Q K → Type 0
Wants says seen None told wanted = Asks says seen told wanted
Wants says seen (Some open_search) told wanted = checked_as told ≡ Some wanted

-- the typed prefix goes with an event that types nothing; a command leaves it
abbrev pub clears_prefix : {Q K : Type 0} → Told Q K → Wanted Q K → Bool
clears_prefix (a_command asked) wanted = false
clears_prefix (an_event event) wanted = lets_prefix_go wanted

-- what a session is seen as once an input that asks for this was taken: the typed prefix is gone, or stays
abbrev pub taken : {Q K : Type 0} → Seen Q K → Told Q K → Wanted Q K → Seen Q K
taken seen told wanted = record seen { control = cleared (clears_prefix told wanted) seen.control }
