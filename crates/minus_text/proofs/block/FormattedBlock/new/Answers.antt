-- What is formed of the text alone.
use Rattle.std.proofs.Common.{rules, subst, ◌≡◌, ◌+◌, ◌-◌, [], length, refl, ap, ◌∙◌, arith}
use Rattle.std.specs.Str.Lines.{lines}
use Rattle.std.specs.String.{string_bytes}
use Rattle.std.proofs.lemmas.Str.{IsUtf8-string_bytes}
use Rattle.minus_text.specs.RowText.{IsUnescapedFrom}
use Rattle.minus_text.specs.Layouts.{margin, wrapped}
use Rattle.minus_text.proofs.ScreenLaws.{form-unfinished}
use Rattle.minus_text.proofs.BlockLaws.{fresh_restart, fresh_form, block_formed}
use Rattle.minus_text.proofs.block.FormattedBlock.new.Goals as goal

pub form-requires-clause-start : goal.form-requires-clause-start
form-requires-clause-start c = ([], string_bytes c.args.text, fresh_restart c.of-wrap.result c.args.first_row, IsUtf8-string_bytes c.args.text, c.deref-2.ensures)

pub overflow_sub-unfinished : goal.overflow_sub-unfinished
overflow_sub-unfinished c =
    let h = fresh_form c.of-wrap.result c.args.first_row (string_bytes c.args.text) c.deref-2.result.now c.in_ok-formed.formed (IsUtf8-string_bytes c.args.text) c.deref-2.ensures c.in_ok-formed.ensures in
    omega (arith, (form-unfinished c.of-wrap.result [] (string_bytes c.args.text) _ c.in_ok-formed.formed h).0, c.len.ensures, c.in_ok-formed.formed.rows.ok.0)

pub invariant_of-result-2 : goal.invariant_of-result-2
invariant_of-result-2 c =
    let text = string_bytes c.args.text in
    let h = fresh_form c.of-wrap.result c.args.first_row text c.deref-2.result.now c.in_ok-formed.formed (IsUtf8-string_bytes c.args.text) c.deref-2.ensures c.in_ok-formed.ensures in
    let count : c.line_count.result ≡ length (lines text) = c.line_count.ensures.value ∙ ap (λ t. length (lines t)) c.deref.ensures in
    let columns : c.margin-columns.result ≡ margin c.args.layout.numbers (c.args.lines_before + length (lines text)) = c.margin-columns.ensures ∙ ap (λ n. margin c.args.layout.numbers (c.args.lines_before + n)) count in
    let wrap = c.of-wrap.ensures ∙ ap (λ n. wrapped c.args.layout.wrapping n) (c.saturating_sub.ensures ∙ ap (λ n. c.args.layout.cols - n) columns) in
    let kept : c.args.first_row + 0 ≡ c.args.first_row = omega arith in
    let size : c.len.result ≡ length c.in_ok-formed.formed.rows.items = c.len.ensures ∙ c.in_ok-formed.formed.rows.ok.0 in
    block_formed _ c.args.layout c.args.lines_before _ c.in_ok-formed.formed.longest c.args.first_row c.of-wrap.result text c.in_ok-formed.formed refl kept refl wrap h
    (ap (λ n. (c.args.first_row + n) - c.in_ok-formed.formed.finished.rows) size) refl c.requires.lines

-- the text is searched for its last ESC
pub invariant_of-result : goal.invariant_of-result
invariant_of-result c =
    let escapes : IsUnescapedFrom c.escapes_end-escapes_end.result (string_bytes c.args.text) = subst (λ t. IsUnescapedFrom c.escapes_end-escapes_end.result t) c.deref-3.ensures (c.escapes_end-escapes_end.ensures [] refl refl) in
    search (rules, escapes)
