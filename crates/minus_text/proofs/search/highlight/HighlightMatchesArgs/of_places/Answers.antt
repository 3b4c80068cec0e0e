use Rattle.std.proofs.Common.{map, string_bytes, false, sym, ap, ◌∙◌, subst}
use Rattle.minus_text.specs.Escapes.{insert_of, CutsText}
use Rattle.minus_text.specs.Highlight.{ordered, StandIn}
use Rattle.minus_text.proofs.StandLaws.{ordered_stand}
use Rattle.minus_text.proofs.search.highlight.HighlightMatchesArgs.of_places.Goals as goal

pub invariant_of-result : goal.invariant_of-result
invariant_of-result c =
    let text = string_bytes c.in_ok-text.field-0.text in
    let cuts = subst (λ t. CutsText t 0 c.args.matches.now) (sym c.in_ok-text.ensures.text) c.requires.matches in
    let stand = ordered_stand text false 0 c.args.matches.now (map insert_of c.in_ok-text.field-0.escapes.items) cuts c.in_ok-text.ensures.stand in
    let puts = c.in_ok-puts.ensures ∙ ap (λ es. ordered false c.args.matches.now (map insert_of es)) c.deref.ensures.value in
    record { stand = subst (StandIn text 0) (sym puts) stand }
