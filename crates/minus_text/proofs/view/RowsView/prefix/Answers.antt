-- What stands before a row is that of its line in the text with the push.
use Rattle.std.proofs.Common.{◌≡◌, ◌+◌, ◌++◌, length, take, sym, subst, ap, ap₂, ◌∙◌, arith}
use Rattle.minus_text.specs.declared.line_numbers.LineNumbers.{LineNumbers}
use Rattle.minus_text.specs.NumberPrefix.{is_on}
use Rattle.minus_text.specs.declared.layout.Layout.{Layout}
use Rattle.minus_text.specs.Views.{viewed}
use Rattle.minus_text.proofs.StoredKeptLaws.{nothing_before}
use Rattle.minus_text.specs.Document.{Document, line_count, line_map, pushed}
use Rattle.minus_text.specs.Pending.{Pending}
use Rattle.minus_text.specs.NextPushes.{IsPendingBehind}
use Rattle.minus_text.proofs.PendingLaws.{lines_pending}
use Rattle.minus_text.proofs.StoredLaws.{prefix_of_line, no_line}
use Rattle.minus_text.proofs.view.RowsView.prefix.Goals as goal

pub returns-then-not-is_on : goal.returns-then-not-is_on
returns-then-not-is_on c =
    let d : Document = (viewed c.args.self).document in
    nothing_before d c.args.i (ap (λ (l : Layout). is_on l.numbers) (sym c.layout.ensures) ∙ sym c.is_on.ensures ∙ c.if-not-is_on.true)

pub returns-in_default-line_in : goal.returns-in_default-line_in
returns-in_default-line_in c =
    let d = c.args.self.store.now in
    let n = c.in-Some.next in
    let p = n.pending.now.push in
    let is = subst (IsPendingBehind d) c.in-Some.is c.args.self.pending in
    let lines = ap (λ (p : Pending). p.kept_lines) c.push-push.ensures in
    let same : c.min-kept.result ≡ p.kept_lines = omega (arith, c.min-kept.ensures, c.len.ensures.value, ap length c.lines_to_row_map-lines.ensures, is.few_lines, c.kept_lines.ensures, lines) in
    let behind = c.first_rows-behind.ensures ∙ ap (λ (p : Pending). p.first_rows) c.push-push.ensures in
    let map = ap₂ (λ k m. take k m ++ c.first_rows-behind.result.now) same c.lines_to_row_map-lines.ensures ∙ ap (λ m. take p.kept_lines (line_map d) ++ m) behind ∙ sym is.map in
    rw c.in-Some.is (λ row e. absurd (no_line (pushed d n.text.now p.numbers p.cols) c.args.i row (sym map ∙ c.in_default-line_in.ensures) e))

pub returns : goal.returns
returns c =
    let d = c.args.self.store.now in
    let n = c.in-Some.next in
    let p = n.pending.now.push in
    let is = subst (IsPendingBehind d) c.in-Some.is c.args.self.pending in
    let lines = ap (λ (p : Pending). p.kept_lines) c.push-push.ensures in
    let same : c.min-kept.result ≡ p.kept_lines = omega (arith, c.min-kept.ensures, c.len.ensures.value, ap length c.lines_to_row_map-lines.ensures, is.few_lines, c.kept_lines.ensures, lines) in
    let behind = c.first_rows-behind.ensures ∙ ap (λ (p : Pending). p.first_rows) c.push-push.ensures in
    let entries = take c.min-kept.result c.lines_to_row_map-lines.result.now ++ c.first_rows-behind.result.now in
    let map = ap₂ (λ k m. take k m ++ c.first_rows-behind.result.now) same c.lines_to_row_map-lines.ensures ∙ ap (λ m. take p.kept_lines (line_map d) ++ m) behind ∙ sym is.map in
    let on = c.is_on-2.ensures ∙ ap (λ (n : LineNumbers). is_on n) (c.numbers.ensures ∙ ap (λ (p : Pending). p.numbers) c.push-push.ensures) in
    let count : c.min-kept.result + c.len-2.result ≡ line_count (pushed d n.text.now p.numbers p.cols) = omega (arith, lines_pending d n.text.now p.numbers p.cols p is, same, c.len-2.ensures.value, ap length behind) in
    rw c.in-Some.is (prefix_of_line (pushed d n.text.now p.numbers p.cols) entries c.args.i c.in-Some-line_in.line c.is_on-2.result (c.min-kept.result + c.len-2.result) c.in-Some-line_in.is_first on count map c.in-Some-line_in.ensures.0 c.in-Some-line_in.ensures.1)
