use Rattle.std.proofs.Common.{◌+◌, ◌^◌, ◌-◌, min, ap, ap₂, sym, subst, ◌∙◌, arith}
use Rattle.minus_text.specs.Found.{Ascend, matches_above}
use Rattle.minus_text.specs.JumpRows.{counted}
use Rattle.minus_text.proofs.FoundInLaws.{weaker}
use Rattle.minus_text.specs.FoundBy.{found_rows}
use Rattle.minus_text.specs.Searched.{SearchedPush}
use Rattle.minus_text.proofs.JumpLaws.{above_sum, counted_sum}
use Rattle.minus_text.proofs.pending.PendingPush.matches_above.Goals as goal

pub matches_above-requires-2-clause-ascend : goal.matches_above-requires-2-clause-ascend
matches_above-requires-2-clause-ascend c = weaker 0 c.self.inside.push.kept_rows (found_rows c.self.inside.found) (omega arith) c.self.invariant.0.ascend

pub returns : goal.returns
returns c =
    let p = c.args.self.now in
    let old = found_rows c.args.found.now in
    let k = p.push.kept_rows in
    let kept = c.kept_rows-kept.ensures.value ∙ ap (λ (q : SearchedPush). q.push.kept_rows) c.self.view_is in
    let ascend : Ascend k p.found = subst (λ (q : SearchedPush). Ascend q.push.kept_rows q.found) c.self.view_is c.self.invariant.0.ascend in
    let staying = c.matches_above.ensures ∙ ap (λ n. counted (matches_above n old)) (c.min.ensures ∙ ap (min c.args.row) kept) in
    let formed = c.matches_above-2.ensures ∙ ap (λ (q : SearchedPush). counted (matches_above c.args.row q.found)) c.self.view_is in
    c.saturating_add.ensures ∙ ap₂ (λ m n. min (m + n) (2 ^ 64 - 1)) staying formed ∙ counted_sum (matches_above (min c.args.row k) old) (matches_above c.args.row p.found)
    ∙ ap counted (sym (above_sum c.args.row k old p.found c.requires.ascend ascend))
