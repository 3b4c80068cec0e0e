use Rattle.std.proofs.Common.{◌≡◌, map, take, drop, refl, sym, ap, ◌∙◌}
use Rattle.std.proofs.lemmas.List.{take-map, drop-map}
use Rattle.minus_text.specs.Escapes.{insert_of}
use Rattle.minus_text.specs.Highlight.{before, behind}
use Rattle.minus_text.proofs.HighlightLaws.{matched}
use Rattle.minus_text.proofs.search.highlight.put_match.Goals as goal

pub returns-clause-puts : goal.returns-clause-puts
returns-clause-puts c =
    let es = map insert_of c.args.escapes.now in
    let start = c.args.place.0 in
    let outer : map insert_of c.split_at.result.0.now ≡ before start es =
    ap (map insert_of) c.split_at.ensures.front ∙ sym (take-map insert_of _ c.args.escapes.now) ∙ ap (λ n. take n es) c.count_before.ensures.count in
    let later : map insert_of c.split_at.result.1.now ≡ behind start es =
    ap (map insert_of) c.split_at.ensures.back ∙ sym (drop-map insert_of _ c.args.escapes.now) ∙ ap (λ n. drop n es) c.count_before.ensures.count in
    let inner : map insert_of (take c.count_before-count.result c.split_at.result.1.now) ≡ before c.args.place.1 (behind start es) =
    sym (take-map insert_of _ c.split_at.result.1.now) ∙ ap (λ n. take n (map insert_of c.split_at.result.1.now)) c.count_before-count.ensures.count
    ∙ ap (before c.args.place.1) later in
    matched c.args.accurate c.args.place c.args.puts.now.items _ _ _ _ _ es _
    c.in_ok-extend_from_slice.ensures.items c.in_ok-push.ensures.items refl outer inner c.in_ok-put_end.ensures
