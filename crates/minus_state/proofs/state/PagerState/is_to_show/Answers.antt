-- The condition is asked what it sees.
use Rattle.minus_state.proofs.state.PagerState.is_to_show.Goals as goal

pub returns-in_ok-opts-in-Some : goal.returns-in_ok-opts-in-Some
returns-in_ok-opts-in-Some g c = rw c.in-Some.is (c.in_ok-opts-in-Some.opts, c.in_ok-opts-in-Some.ensures, c.ask.ensures)
