use Rattle.std.proofs.Common.{rules, ◌≡◌, ◌≤◌, ◌+◌, [], ◌++◌, map, drop, length, get_or, refl, sym, ap, ◌∙◌, subst}
use Rattle.std.specs.Fmt.{HasWritten}
use Rattle.minus_text.specs.declared.search.escapes.Insert.{Insert}
use Rattle.std.proofs.Output.{has_written_append, has_written_of_eq}
use Rattle.std.proofs.lemmas.List.{drop_all}
use Rattle.minus_text.specs.Escapes.{insert_of}
use Rattle.minus_text.specs.Highlight.{put_in, StandIn}
use Rattle.minus_text.specs.Shown.{shown_line}
use Rattle.minus_text.proofs.StandLaws.{stands_at, stand_here, one_more_put}
use Rattle.minus_text.proofs.search.highlight.HighlightMatchesArgsDisplay.fmt.Goals as goal

pub range-requires-clause-end_boundary : goal.range-requires-clause-end_boundary
range-requires-clause-end_boundary g c =
    let text = c.as_str-text.result.now in
    let puts = c.deref-put-items.result.now in
    let at = c.loop-put.at in
    let i = c.loop-put.put-index in
    let stand = subst (λ ps. StandIn text at (map insert_of (drop i ps))) (sym c.deref-put-items.ensures.value) c.loop-put.invariant.0 in
    stands_at text _ _ (stand_here text puts i at _ c.loop-put-test.true stand).2

pub loop-put-preserved : goal.loop-put-preserved
loop-put-preserved g c =
    let text = c.as_str-text.result.now in
    let puts = c.deref-put-items.result.now in
    let at = c.loop-put.at in
    let i = c.loop-put.put-index in
    let same = c.deref-put-items.ensures.value in
    let none : Insert = record { place = 0; text = record { ref_ptr = (0, 0); now = [] } } in
    let put = get_or puts i none in
    let stand = subst (λ ps. StandIn text at (map insert_of (drop i ps))) (sym same) c.loop-put.invariant.0 in (
      subst (λ ps. StandIn text put.place (map insert_of (drop (i + 1) ps))) same (stand_here text puts i at none c.loop-put-test.true stand).2,
      λ plain.
          let so_far = c.loop-put.invariant.1 plain in
          let left = ap (λ ps. so_far.0 ++ put_in text at (map insert_of (drop i ps))) same ∙ so_far.2 in
          let before : HasWritten g.W.Write.write_str_gives c.args.f.now (so_far.0 ++ c.range.result.now) c.write_str.new.self =
          has_written_append _ _ _ _ _ _ so_far.1 (search rules) in (
            (so_far.0 ++ c.range.result.now) ++ put.text.now,
            has_written_append _ _ _ _ _ _ before (search rules),
            subst (λ ps. ((so_far.0 ++ c.range.result.now) ++ put.text.now) ++ put_in text put.place (map insert_of (drop (i + 1) ps)) ≡ shown_line c.args.self.now) same
                (one_more_put text puts i at none c.loop-put-test.true so_far.0 (so_far.0 ++ c.range.result.now) _ _ left (ap (λ r. so_far.0 ++ r) c.range.ensures.value) refl),
          ),
    )

pub returns-clause-writes : goal.returns-clause-writes
returns-clause-writes g c = λ plain ok.
    let so_far = c.loop-put.invariant.1 plain in
    let text = c.as_str-text.result.now in
    let at = c.loop-put.at in
    let i = c.loop-put.put-index in
    let past = subst (λ ps. length ps ≤ i) c.deref-put-items.ensures.value c.loop-put-test.false in
    let all = ap (λ r. so_far.0 ++ r) c.range_from.ensures.value
    ∙ ap (λ ps. so_far.0 ++ put_in text at (map insert_of ps)) (sym (drop_all i c.args.self.now.puts.items past)) ∙ so_far.2 in
    has_written_of_eq _ _ _ _ _ all (has_written_append _ _ _ _ _ _ so_far.1 (c.write_str-2.ensures.writes so_far.1.plain ok))
