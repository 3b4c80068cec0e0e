-- The page of the mark that is clamped.
use Rattle.minus_draw.proofs.sink_calls.drawn_whole.Goals as goal

pub returns-clause-bytes : goal.returns-clause-bytes
returns-clause-bytes c f = c.in_ok-bytes.ensures.bytes f _ (c.moved_to-clamped.ensures.next f) tt
