use Rattle.std.proofs.Common.{◌≡◌, ◌+◌, length, sym, ap, ap₂, ◌∙◌, length-append, arith}
use Rattle.minus_text.specs.Found.{found_above, jump_rows}
use Rattle.minus_text.specs.FoundBy.{found_rows}
use Rattle.minus_text.specs.Searched.{SearchedPush}
use Rattle.minus_text.proofs.JumpLaws.{jumps_both}
use Rattle.minus_text.proofs.pending.PendingPush.match_count.Goals as goal

pub overflow_add-result : goal.overflow_add-result
overflow_add-result c = omega (arith, c.count_above.ensures.few, c.len.ensures.few)

pub returns : goal.returns
returns c =
    let p = c.args.self.now in
    let old = found_rows c.args.found.now in
    let above = found_above p.push.kept_rows old in
    let kept = c.kept_rows.ensures.value ∙ ap (λ (q : SearchedPush). q.push.kept_rows) c.self.view_is in
    let staying : c.count_above.result ≡ length (jump_rows above) = c.count_above.ensures.value ∙ ap (λ n. length (jump_rows (found_above n old))) kept in
    let formed : c.len.result ≡ length (jump_rows p.found) = c.len.ensures.value ∙ ap (λ (q : SearchedPush). length (jump_rows q.found)) c.self.view_is in
    ap₂ (λ m n. m + n) staying formed ∙ sym (ap length (jumps_both above p.found) ∙ length-append (jump_rows above) (jump_rows p.found))
