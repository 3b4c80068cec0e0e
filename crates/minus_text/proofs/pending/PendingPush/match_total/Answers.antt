use Rattle.std.proofs.Common.{◌+◌, ◌^◌, ◌-◌, min, ap, ap₂, sym, ◌∙◌}
use Rattle.minus_text.specs.Found.{found_above, match_total, matches_above}
use Rattle.minus_text.specs.JumpRows.{counted}
use Rattle.minus_text.proofs.LineFindsLaws.{total_both}
use Rattle.minus_text.specs.FoundBy.{found_rows}
use Rattle.minus_text.specs.Searched.{SearchedPush}
use Rattle.minus_text.proofs.JumpLaws.{counted_sum}
use Rattle.minus_text.proofs.pending.PendingPush.match_total.Goals as goal

pub returns : goal.returns
returns c =
    let p = c.args.self.now in
    let old = found_rows c.args.found.now in
    let above = found_above p.push.kept_rows old in
    let kept = c.kept_rows.ensures.value ∙ ap (λ (q : SearchedPush). q.push.kept_rows) c.self.view_is in
    let staying = c.matches_above.ensures ∙ ap (λ n. counted (matches_above n old)) kept in
    let formed = c.match_total.ensures ∙ ap (λ (q : SearchedPush). counted (match_total q.found)) c.self.view_is in
    c.saturating_add.ensures ∙ ap₂ (λ m n. min (m + n) (2 ^ 64 - 1)) staying formed ∙ counted_sum (match_total above) (match_total p.found)
    ∙ ap counted (sym (total_both above p.found))
