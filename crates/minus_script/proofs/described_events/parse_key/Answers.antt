use Rattle.std.proofs.Common.{◌∙◌}
use Rattle.minus_script.proofs.DescribedEventsLaws.{key_read}
use Rattle.minus_script.proofs.described_events.parse_key.Goals as goal

pub returns : goal.returns
returns c = c.ok.ensures.value ∙ key_read c.args.text.now c.parse_key_event.result c.parse_key_event.ensures.ok c.parse_key_event.ensures.err
