-- The matches that are shown stand in order, and so do all that is put in.
use Rattle.std.proofs.Common.{◌≡◌, ℕ, List, map, string_bytes, false, sym, ap, ap₂, ◌∙◌, subst}
use Rattle.minus_text.specs.Escapes.{insert_of, outside, inside, CutsText}
use Rattle.minus_text.specs.Highlight.{ordered, put_in, StandIn}
use Rattle.minus_text.specs.ShownMatches.{shown_matches}
use Rattle.minus_text.proofs.StandLaws.{ordered_stand}
use Rattle.minus_text.proofs.search.highlight.HighlightMatchesArgs.of_shown.Goals as goal

pub invariant_of-result : goal.invariant_of-result
invariant_of-result c =
    let text = string_bytes c.in_ok-text.field-0.text in
    let shown = c.in_ok-shown.shown.items in
    let escapes = c.in_ok-text.field-0.escapes.items in
    let cuts = subst (λ t. CutsText t 0 shown) c.deref.ensures c.in_ok-shown.ensures.cuts in
    let stand = ordered_stand text false 0 shown (map insert_of escapes) cuts c.in_ok-text.ensures.stand in
    let puts = c.in_ok-puts.ensures ∙ ap₂ (λ ms es. ordered false ms (map insert_of es)) c.deref-2.ensures.value c.deref-3.ensures.value in
    record { stand = subst (StandIn text 0) (sym puts) stand }

pub returns : goal.returns
returns c =
    let row = c.args.row.now in
    let places = c.args.escape_places.now in
    let ms = c.args.matches.now in
    let left = c.args.window.left in
    let width = c.args.window.width in
    let text = string_bytes c.in_ok-text.field-0.text in
    let body = outside row 0 places in
    let own : c.deref.result.now ≡ body = c.deref.ensures ∙ c.in_ok-text.ensures.text in
    let shown = c.in_ok-shown.ensures.shown ∙ ap (λ (t : List ℕ). shown_matches left width t ms) own in
    let puts = c.in_ok-puts.ensures ∙ ap₂ (λ xs es. ordered false xs (map insert_of es)) c.deref-2.ensures.value c.deref-3.ensures.value in
    ap (put_in text 0) (puts ∙ ap₂ (ordered false) shown c.in_ok-text.ensures.escapes)
    ∙ ap (λ t. put_in t 0 (ordered false (shown_matches left width body ms) (inside row 0 0 places))) c.in_ok-text.ensures.text
