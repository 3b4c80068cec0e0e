use Rattle.minus_input.specs.EventEquality.{same_event_laws}
use Rattle.minus_input.specs.EventForm.{same_event}
use Rattle.minus_input.proofs.LookupLaws.{bound_are_found}
use Rattle.minus_input.proofs.lookups.bound_keys_are_found.Goals as goal

pub returns : goal.returns
returns g c = bound_are_found same_event same_event_laws
