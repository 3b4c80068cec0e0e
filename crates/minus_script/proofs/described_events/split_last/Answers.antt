use Rattle.minus_script.proofs.DescribedEventsLaws.{last_split}
use Rattle.minus_script.proofs.described_events.split_last.Goals as goal

pub returns : goal.returns
returns c = last_split c.args.text.now c.rsplit_once.result c.rsplit_once.ensures.cases
