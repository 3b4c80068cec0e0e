-- What is formed stands in the old one's place.
use Rattle.minus_text.proofs.screen.Screen.set_text.Goals as goal

pub returns-clause-ok : goal.returns-clause-ok
returns-clause-ok c = c.in_ok-fresh.ensures.ok

pub returns-clause-told : goal.returns-clause-told
returns-clause-told c = c.in_ok-fresh.ensures.told
