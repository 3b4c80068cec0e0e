use Rattle.minus_input.proofs.DescriptionLaws.{each_text}
use Rattle.minus_input.proofs.register.EventTable.remove_mouse_events.Goals as goal

pub remove_described-requires : goal.remove_described-requires
remove_described-requires g c text key error is fault = (each_text text).1.never_both is.0 error is.1 fault
