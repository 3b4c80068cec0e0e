-- One match more, and what is left behind the last.
use Rattle.std.proofs.Common.{◌≡◌, ◌+◌, ◌++◌, min, length, drop, arith, sym, ap, ◌∙◌}
use Rattle.std.proofs.lemmas.List.{drop_more, drop_all}
use Rattle.minus_text.specs.ShownMatches.{marked_stretch}
use Rattle.minus_text.proofs.ShownMatchesLaws.{plain_shown, plain_boundary}
use Rattle.minus_text.proofs.search.shown_matches.push_plain.Goals as goal

pub loop-place-init : goal.loop-place-init
loop-place-init g c = record {
  so_far = ap (λ bs. g.T.PushText.bytes c.args.out.now ++ bs) (c.near-standing.ensures c.args.text.now c.requires.cuts
      ∙ ap (λ n. marked_stretch c.args.text.now n c.min-end.result c.args.matches.now) c.min-at.ensures);
  order = omega (arith, c.min-at.ensures);
}

pub push_match-requires : goal.push_match-requires
push_match-requires g c =
    let end : c.min-end.result ≡ min (c.args.window.left + c.args.window.width) (length c.args.text.now) = omega (arith, c.min-end.ensures, c.saturating_add.ensures) in
    record {
      order = c.loop-place.invariant.order;
      bytes = λ n l. plain_boundary c.args.window.left c.args.window.width c.args.text.now c.utf8.text c.requires.plain n (omega (arith, l, end));
    }

pub loop-place-preserved : goal.loop-place-preserved
loop-place-preserved g c =
    let i = c.loop-place.place-index in
    let ms = c.near-standing.result.now in
    record {
      so_far = c.in_ok-at.ensures.text (drop (i + 1) ms)
          ∙ ap (λ l. g.T.PushText.bytes c.loop-place.out ++ marked_stretch c.args.text.now c.loop-place.at c.min-end.result l) (sym (drop_more ms i (0, 0) c.loop-place-test.true)) ∙ c.loop-place.invariant.so_far;
      order = c.in_ok-at.ensures.order;
    }

pub range-requires : goal.range-requires
range-requires g c =
    let end : c.min-end.result ≡ min (c.args.window.left + c.args.window.width) (length c.args.text.now) = omega (arith, c.min-end.ensures, c.saturating_add.ensures) in
    let cut = plain_boundary c.args.window.left c.args.window.width c.args.text.now c.utf8.text c.requires.plain in
    let order = c.loop-place.invariant.order in
    record {
      start_le_end = order;
      start_boundary = λ _. cut c.loop-place.at (omega (arith, order, end));
      end_boundary = cut c.min-end.result (omega (arith, end));
    }

pub returns : goal.returns
returns g c =
    let left = c.args.window.left in
    let width = c.args.window.width in
    let text = c.args.text.now in
    let ms = c.args.matches.now in
    let out = g.T.PushText.bytes c.loop-place.out in
    let end : c.min-end.result ≡ min (left + width) (length text) = omega (arith, c.min-end.ensures, c.saturating_add.ensures) in
    let near = c.near-standing.result.now in
    let none = drop_all c.loop-place.place-index near c.loop-place-test.false in
    c.in_ok-push_text.ensures ∙ ap (λ s. out ++ s) c.range.ensures.value
    ∙ ap (λ l. out ++ marked_stretch text c.loop-place.at c.min-end.result l) (sym none) ∙ c.loop-place.invariant.so_far
    ∙ ap (λ n. g.T.PushText.bytes c.args.out.now ++ marked_stretch text (min left n) n ms) end
    ∙ ap (λ bs. g.T.PushText.bytes c.args.out.now ++ bs) (sym (plain_shown left width text c.utf8.text c.requires.plain ms c.requires.cuts))
