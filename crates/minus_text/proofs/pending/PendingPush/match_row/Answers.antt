use Rattle.std.proofs.Common.{◌≡◌, ◌-◌, length, ap, ◌∙◌, arith}
use Rattle.std.specs.List.{slice_get}
use Rattle.minus_text.specs.Found.{found_above, jump_rows}
use Rattle.minus_text.specs.FoundBy.{found_rows}
use Rattle.minus_text.specs.Searched.{SearchedPush}
use Rattle.minus_text.proofs.JumpLaws.{place_staying, place_forming}
use Rattle.minus_text.proofs.pending.PendingPush.match_row.Goals as goal

pub returns-then-i-kept : goal.returns-then-i-kept
returns-then-i-kept c =
    let p = c.args.self.now in
    let old = found_rows c.args.found.now in
    let kept = c.kept_rows.ensures.value ∙ ap (λ (q : SearchedPush). q.push.kept_rows) c.self.view_is in
    let staying : c.count_above-kept.result ≡ length (jump_rows (found_above p.push.kept_rows old)) = c.count_above-kept.ensures.value ∙ ap (λ n. length (jump_rows (found_above n old))) kept in
    c.row.ensures ∙ place_staying p.push.kept_rows c.args.i old p.found c.requires.ascend (omega (arith, staying, c.if-i-kept.true))

pub returns : goal.returns
returns c =
    let p = c.args.self.now in
    let old = found_rows c.args.found.now in
    let kept = c.kept_rows.ensures.value ∙ ap (λ (q : SearchedPush). q.push.kept_rows) c.self.view_is in
    let above = found_above p.push.kept_rows old in
    let staying : c.count_above-kept.result ≡ length (jump_rows above) = c.count_above-kept.ensures.value ∙ ap (λ n. length (jump_rows (found_above n old))) kept in
    c.row-2.ensures ∙ ap (λ (q : SearchedPush). slice_get (jump_rows q.found) (c.args.i - c.count_above-kept.result)) c.self.view_is
    ∙ ap (λ n. slice_get (jump_rows p.found) (c.args.i - n)) staying ∙ place_forming p.push.kept_rows c.args.i old p.found (omega (arith, staying, c.if-i-kept.false))
