use Rattle.std.proofs.Common.{string_bytes, map, ap, ap₂, ◌∙◌}
use Rattle.regex.specs.Strings.{regex_pattern}
use Rattle.minus_text.specs.Escapes.{insert_of}
use Rattle.minus_text.specs.Highlight.{highlighted, highlighted_text, line_matches, matches_text}
use Rattle.minus_text.proofs.search.highlight.HighlightMatchesArgs.new.Goals as goal

pub returns-clause-line : goal.returns-clause-line
unfolding highlighted
returns-clause-line c =
    c.in_ok-highlight.ensures.line ∙ ap (λ re. highlighted_text re c.args.accurate (string_bytes c.in_ok-parted.parted.text) (map insert_of c.in_ok-parted.parted.escapes.items)) c.in_ok-matcher.ensures.pattern
    ∙ ap₂ (highlighted_text (regex_pattern c.args.query.now) c.args.accurate) c.in_ok-parted.ensures.text c.in_ok-parted.ensures.escapes

pub returns-clause-matches : goal.returns-clause-matches
unfolding line_matches
returns-clause-matches c =
    c.in_ok-highlight.ensures.matches ∙ ap₂ matches_text c.in_ok-matcher.ensures.pattern c.in_ok-parted.ensures.text

pub of_parted-requires : goal.of_parted-requires
of_parted-requires c = c.in_ok-parted.ensures.stand
