-- The columns are bytes, as far as they are read.
use Rattle.std.proofs.Common.{◌≡◌, ◌+◌, [], length, min, slice_range, sym, ap, arith, ◌∙◌}
use Rattle.minus_text.proofs.ShownMatchesLaws.{plain_boundary, plain_shown}
use Rattle.minus_text.proofs.crop.plain_part.Goals as goal

pub range-requires : goal.range-requires
range-requires c =
    let plain = c.is_plain_in.ensures c.if-not-is_plain_in.false in
    let cut = plain_boundary c.args.left c.args.width c.args.text.now c.utf8.text plain in
    let end : c.min-end.result ≡ min (c.args.left + c.args.width) (length c.args.text.now) = omega (arith, c.min-end.ensures, c.saturating_add.ensures) in
    record {
      start_le_end = omega (arith, c.min.ensures);
      start_boundary = λ _. cut c.min.result (omega (arith, c.min.ensures, end));
      end_boundary = cut c.min-end.result (omega (arith, end));
    }

pub returns : goal.returns
returns c =
    let left = c.args.left in
    let text = c.args.text.now in
    let plain = c.is_plain_in.ensures c.if-not-is_plain_in.false in
    let end : c.min-end.result ≡ min (left + c.args.width) (length text) = omega (arith, c.min-end.ensures, c.saturating_add.ensures) in
    c.range.ensures.value ∙ ap (λ n. slice_range text n c.min-end.result) c.min.ensures ∙ ap (λ n. slice_range text (min left n) n) end
    ∙ sym (plain_shown left c.args.width text c.utf8.text plain [] (plain_boundary left c.args.width text c.utf8.text plain 0 (omega arith)))
