-- The lines that newlines end, and one more unless the piece ends with one.
use Rattle.std.proofs.Common.{◌≡◌, ◌≢◌, ◌++◌, not, [], length, ap, sym, arith, lit<, ◌∙◌}
use Rattle.std.specs.Str.Lines.{lines}
use Rattle.std.specs.String.{string_bytes}
use Rattle.std.proofs.lemmas.Bool.{eqb-true, eqb-false}
use Rattle.std.proofs.lemmas.List.{append-nil, nil_from_length}
use Rattle.std.proofs.lemmas.Str.{IsUtf8-string_bytes}
use Rattle.std.proofs.lemmas.Str.Pattern.{ends_char}
use Rattle.minus_text.specs.Layouts.{wrap_of}
use Rattle.minus_text.specs.Document.{Document}
use Rattle.minus_text.proofs.ScreenLaws.{formed-lines, finished_at}
use Rattle.minus_text.proofs.LineCountLaws.{lines_counted, one_unless, bit_few}
use Rattle.minus_text.proofs.store.Store.lines_after.Goals as goal

pub returns-then-is_empty : goal.returns-then-is_empty
returns-then-is_empty c =
    let none : c.args.piece.now ≡ [] = nil_from_length c.args.piece.now (eqb-true (length c.args.piece.now) 0 (sym c.is_empty.ensures ∙ c.if-is_empty.true)) in
    c.len.ensures.value ∙ formed-lines (string_bytes c.self.inside.text) c.self.inside.layout c.self.inside.rows.items c.self.inside.first_rows c.self.inside.finished c.self.inside.longest c.self.inside.border c.args.self.now c.self.view_is c.self.invariant.0
    ∙ ap (λ t. length (lines t)) (sym (append-nil c.args.self.now.text)) ∙ ap (λ xs. length (lines (c.args.self.now.text ++ xs))) (sym none)

pub overflow_add-result : goal.overflow_add-result
overflow_add-result c =
    let at = finished_at (string_bytes c.self.inside.text) (wrap_of c.self.inside.layout (length (lines (string_bytes c.self.inside.text)))) c.self.inside.rows.items c.self.inside.first_rows c.self.inside.finished c.self.inside.longest c.self.inside.border (IsUtf8-string_bytes c.self.inside.text) c.self.invariant.0 in
    omega (arith, at.2, c.self.inside.text.bytes.ok.0, c.self.inside.text.bytes.ok.1, c.self.inside.text.bytes.small, c.newlines.ensures.small)

pub overflow_add-result-2 : goal.overflow_add-result-2
overflow_add-result-2 c =
    let at = finished_at (string_bytes c.self.inside.text) (wrap_of c.self.inside.layout (length (lines (string_bytes c.self.inside.text)))) c.self.inside.rows.items c.self.inside.first_rows c.self.inside.finished c.self.inside.longest c.self.inside.border (IsUtf8-string_bytes c.self.inside.text) c.self.invariant.0 in
    omega (arith, at.2, c.self.inside.text.bytes.ok.0, c.self.inside.text.bytes.ok.1, c.self.inside.text.bytes.small, c.newlines.ensures.small, c.from.ensures, bit_few (not c.ends_with.result))

pub returns : goal.returns
returns c =
    let filled : length c.args.piece.now ≢ 0 = eqb-false (length c.args.piece.now) 0 (sym c.is_empty.ensures ∙ c.if-is_empty.false) in
    let ends = ends_char 10 c.args.piece.now c.ends_with.result c.ends_with.ensures.cases (lit< tt) in
    let count = lines_counted (string_bytes c.self.inside.text) c.args.piece.now c.ends_with.result (omega (arith, filled)) ends.0 ends.1 in
    omega (arith, count, c.self.invariant.0.its_finish.by_lines, c.newlines.ensures.value, c.from.ensures, one_unless c.ends_with.result)
    ∙ ap (λ (x : Document). length (lines (x.text ++ c.args.piece.now))) c.self.view_is
