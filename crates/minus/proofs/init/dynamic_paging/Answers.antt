-- It is the start that it calls.
use Rattle.minus.proofs.init.dynamic_paging.Goals as goal

pub returns-clause-started : goal.returns-clause-started
returns-clause-started g c = c.init_core.ensures.started

pub returns-clause-refused : goal.returns-clause-refused
returns-clause-refused g c = c.init_core.ensures.refused
