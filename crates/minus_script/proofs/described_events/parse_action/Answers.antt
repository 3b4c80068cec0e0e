use Rattle.std.proofs.Common.{◌∙◌}
use Rattle.minus_script.proofs.DescribedEventsLaws.{mouse_read}
use Rattle.minus_script.proofs.described_events.parse_action.Goals as goal

pub returns : goal.returns
returns c = c.ok.ensures.value ∙ mouse_read c.args.text.now c.parse_mouse_event.result c.parse_mouse_event.ensures.ok c.parse_mouse_event.ensures.err
