use Rattle.minus_term.specs.Written.{written}
use Rattle.minus_term.proofs.writes.clear_entire_screen.Goals as goal

pub returns-clause-ok : goal.returns-clause-ok
unfolding written
returns-clause-ok g c = c.write_formed.ensures.ok

pub returns-clause-err : goal.returns-clause-err
unfolding written
returns-clause-err g c = c.write_formed.ensures.err
