use Rattle.std.proofs.Common.{false, map, string_bytes, ap, ap₂, ◌∙◌}
use Rattle.minus_text.specs.Escapes.{stripped, escapes, outside, inside, insert_of}
use Rattle.minus_text.specs.Highlight.{highlighted, highlighted_text, line_matches, matches_text}
use Rattle.minus_text.specs.FoundRows.{finder_pattern}
use Rattle.minus_text.proofs.formatted.highlight_row.Goals as goal

pub returns-clause-line : goal.returns-clause-line
unfolding highlighted stripped escapes
returns-clause-line c =
    let line = c.args.line.now in
    let places = c.deref.ensures.value ∙ c.in_ok-places.ensures.found in
    c.in_ok-highlight.ensures.line
    ∙ ap (λ re. highlighted_text re false (string_bytes c.in_ok-parted.parted.text) (map insert_of c.in_ok-parted.parted.escapes.items)) c.escape_places.ensures.same
    ∙ ap₂ (highlighted_text (finder_pattern c.args.finder.now) false) (c.in_ok-parted.ensures.text ∙ ap (outside line 0) places) (c.in_ok-parted.ensures.escapes ∙ ap (inside line 0 0) places)

pub returns-clause-matches : goal.returns-clause-matches
unfolding line_matches stripped
returns-clause-matches c =
    let line = c.args.line.now in
    let places = c.deref.ensures.value ∙ c.in_ok-places.ensures.found in
    c.in_ok-highlight.ensures.matches ∙ ap₂ matches_text c.escape_places.ensures.same (c.in_ok-parted.ensures.text ∙ ap (outside line 0) places)
