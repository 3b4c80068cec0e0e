use Rattle.minus_input.specs.EventEquality.{same_event_laws}
use Rattle.minus_input.specs.EventForm.{same_event}
use Rattle.minus_input.proofs.LookupLaws.{removed_are_gone}
use Rattle.minus_input.proofs.lookups.removed_keys_are_gone.Goals as goal

pub returns : goal.returns
returns g c = removed_are_gone same_event same_event_laws
