use Rattle.std.proofs.Common.{rules}
use Rattle.minus_state.proofs.state.PagerState.mark_led_to.Goals as goal

pub returns-then-from-page_len : goal.returns-then-from-page_len
returns-then-from-page_len c = search rules
