-- A text may be cut behind a space.
use Rattle.std.proofs.Common.{◌-◌, arith, ap, ◌∙◌, drop, length}
use Rattle.std.proofs.lemmas.List.{length-drop, take_all}
use Rattle.std.specs.List.{prefix_len}
use Rattle.std.specs.Int.{is_in_range}
use Rattle.minus_view.proofs.TabLaws.{behind_spaces}
use Rattle.minus_view.proofs.tab_marks.cut_at_tab.Goals as goal

pub range_from-requires : goal.range_from-requires
range_from-requires c = λ _.
    let start = c.args.tab.start - c.args.place in
    let end = c.args.tab.end - c.args.place in
    let bytes = c.as_bytes-bytes.result.now in
    let whole = take_all (length bytes - start) (drop start bytes) (omega (arith, length-drop start bytes)) in
    behind_spaces c.args.text.now start end c.run_len.result c.utf8.text (omega (arith, c.if-tab-place.false, c.if-tab.false))
    (omega (arith, c.if-bytes-start.false, c.as_bytes-bytes.ensures.len))
    (c.run_len.ensures.is ∙ ap (prefix_len (is_in_range 32 32)) whole ∙ ap (λ xs. prefix_len (is_in_range 32 32) (drop start xs)) c.as_bytes-bytes.ensures.value) c.if-run_len-end.false
