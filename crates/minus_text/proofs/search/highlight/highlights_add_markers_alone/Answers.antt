use Rattle.minus_text.proofs.MarkersLaws.{adds_markers_alone}
use Rattle.minus_text.proofs.search.highlight.highlights_add_markers_alone.Goals as goal

pub returns : goal.returns
returns c = adds_markers_alone
