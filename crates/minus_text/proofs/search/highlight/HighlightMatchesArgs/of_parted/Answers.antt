use Rattle.std.proofs.Common.{◌≡◌, eqb, not, length, map, string_bytes, sym, ap, ap₂, ◌∙◌, subst}
use Rattle.regex.specs.Strings.{matcher_pattern}
use Rattle.minus_text.specs.FixedPatterns.{match_places}
use Rattle.minus_text.specs.Escapes.{insert_of, CutsText}
use Rattle.minus_text.specs.Highlight.{ordered, put_in, StandIn}
use Rattle.minus_text.proofs.StandLaws.{ordered_stand}
use Rattle.minus_text.proofs.MatchPlacesLaws.{some_found}
use Rattle.minus_text.proofs.search.highlight.HighlightMatchesArgs.of_parted.Goals as goal

pub invariant_of-result : goal.invariant_of-result
invariant_of-result c =
    let text = string_bytes c.args.parted.text in
    let items = c.in_ok-matches.matches.items in
    let cuts = subst (λ t. CutsText t 0 items) c.deref.ensures c.in_ok-matches.ensures.cuts in
    let stand = ordered_stand text c.args.accurate 0 items (map insert_of c.args.parted.escapes.items) cuts c.requires in
    let puts = c.in_ok-puts.ensures ∙ ap₂ (λ ms es. ordered c.args.accurate ms (map insert_of es)) c.deref-2.ensures.value c.deref-3.ensures.value in
    record { stand = subst (StandIn text 0) (sym puts) stand }

pub returns-clause-line : goal.returns-clause-line
returns-clause-line c =
    let text = string_bytes c.args.parted.text in
    let pattern = matcher_pattern c.args.matcher.now in
    let places : c.in_ok-matches.matches.items ≡ match_places pattern text = c.in_ok-matches.ensures.found ∙ ap (match_places pattern) c.deref.ensures in
    let puts : map insert_of c.in_ok-puts.puts.items ≡ ordered c.args.accurate (match_places pattern text) (map insert_of c.args.parted.escapes.items) =
    c.in_ok-puts.ensures ∙ ap₂ (λ ms es. ordered c.args.accurate ms (map insert_of es)) c.deref-2.ensures.value c.deref-3.ensures.value
    ∙ ap (λ ms. ordered c.args.accurate ms (map insert_of c.args.parted.escapes.items)) places in
    ap (put_in text 0) puts

pub returns-clause-matches : goal.returns-clause-matches
returns-clause-matches c =
    let text = string_bytes c.args.parted.text in
    let pattern = matcher_pattern c.args.matcher.now in
    let places : c.in_ok-matches.matches.items ≡ match_places pattern text = c.in_ok-matches.ensures.found ∙ ap (match_places pattern) c.deref.ensures in
    ap not (c.is_empty.ensures ∙ ap (λ n. eqb n 0) (c.in_ok-matches.matches.ok.0 ∙ ap length places)) ∙ some_found pattern text
