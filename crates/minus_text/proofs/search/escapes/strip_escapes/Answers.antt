-- The text of the line that is parted.
use Rattle.minus_text.proofs.search.escapes.strip_escapes.Goals as goal

pub returns : goal.returns
returns c = c.in_ok-part_line.ensures.text
