use Rattle.minus_input.proofs.HelpTableLaws.{kept_once, new_once}
use Rattle.minus_input.proofs.help_table.push_once.Goals as goal

pub returns-in_ok-push : goal.returns-in_ok-push
returns-in_ok-push c = new_once c.deref.result.now c.args.texts.now.items c.push.new.self.items c.args.text c.contains.result c.deref.ensures.value c.contains.ensures.value c.if-not-contains.true c.in_ok-push.ensures.items

pub returns-else-not-contains : goal.returns-else-not-contains
returns-else-not-contains c = kept_once c.deref.result.now c.args.texts.now.items c.args.text.now c.contains.result c.deref.ensures.value c.contains.ensures.value c.if-not-contains.false
