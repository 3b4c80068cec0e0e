-- The lines that stay and those that are formed.
use Rattle.std.proofs.Common.{◌≡◌, length, subst, ap, arith}
use Rattle.minus_text.specs.Pending.{Pending}
use Rattle.minus_text.specs.NextPushes.{IsPendingBehind}
use Rattle.minus_text.proofs.PendingLaws.{lines_pending}
use Rattle.minus_text.proofs.view.RowsView.line_count.Goals as goal

pub returns-in-Some : goal.returns-in-Some
returns-in-Some c =
    let d = c.args.self.store.now in
    let n = c.in-Some.next in
    let p = n.pending.now.push in
    let is = subst (IsPendingBehind d) c.in-Some.is c.args.self.pending in
    let kept : c.min-kept.result ≡ p.kept_lines = omega (
      arith,
      c.min-kept.ensures,
      c.len.ensures.value,
      ap length c.lines_to_row_map.ensures,
      is.few_lines,
      c.kept_lines.ensures,
      ap (λ (p : Pending). p.kept_lines) c.push-push.ensures,
    ) in
    let behind = ap length c.first_rows.ensures in
    let its = ap (λ (p : Pending). length p.first_rows) c.push-push.ensures in
    rw c.in-Some.is (omega (arith, lines_pending d n.text.now p.numbers p.cols p is, kept, c.len-in-Some.ensures.value, behind, its))
