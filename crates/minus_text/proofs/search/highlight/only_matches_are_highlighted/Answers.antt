use Rattle.minus_text.proofs.MarkersLaws.{no_match_no_change}
use Rattle.minus_text.proofs.search.highlight.only_matches_are_highlighted.Goals as goal

pub returns : goal.returns
returns c = no_match_no_change
