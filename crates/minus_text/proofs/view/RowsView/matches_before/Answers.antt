-- The first match that counts stays, or is found in the rows that are formed.
use Rattle.std.proofs.Common.{◌<◌, ◌≤◌, List, length, ap, ◌∙◌, arith}
use Rattle.std.specs.List.{position_or_len}
use Rattle.minus_text.specs.Found.{RowMatches, found_above, jump_rows}
use Rattle.minus_text.specs.FoundBy.{found_rows}
use Rattle.minus_text.specs.Matches.{counts_first}
use Rattle.minus_text.specs.Pending.{Pending}
use Rattle.minus_text.proofs.FoundInLaws.{weaker}
use Rattle.minus_text.proofs.ViewLaws.{counts_staying, counts_forming}
use Rattle.minus_text.proofs.view.RowsView.matches_before.Goals as goal

pub returns-then-before-kept : goal.returns-then-before-kept
returns-then-before-kept c =
    let test = counts_first c.args.mark c.args.jump in
    let p = c.in-Some.next.pending.now in
    let found = found_rows c.args.self.found.now in
    let kept = c.count_above-kept.ensures.value ∙ ap (λ n. length (jump_rows (found_above n found))) (c.kept_rows.ensures.value ∙ ap (λ (p : Pending). p.kept_rows) c.push.ensures) in
    let less : position_or_len test (jump_rows found) < length (jump_rows (found_above p.push.kept_rows found)) = omega (arith, c.if-before-kept.true, c.count_before-before.ensures.value, kept) in
    rw c.in-Some.is (c.count_before-before.ensures.value ∙ counts_staying test p.push.kept_rows found p.found less)

pub count_before-requires : goal.count_before-requires
count_before-requires c = record {
  ascend = weaker 0 c.in-Some.next.pending.now.push.kept_rows (found_rows c.found.result.now) (omega arith) c.found.ensures.stand.ascend;
  jumps = c.found.ensures.jumps;
}

pub returns : goal.returns
returns c =
    let test = counts_first c.args.mark c.args.jump in
    let p = c.in-Some.next.pending.now in
    let found = found_rows c.args.self.found.now in
    let kept = c.count_above-kept.ensures.value ∙ ap (λ n. length (jump_rows (found_above n found))) (c.kept_rows.ensures.value ∙ ap (λ (p : Pending). p.kept_rows) c.push.ensures) in
    let more : length (jump_rows (found_above p.push.kept_rows found)) ≤ position_or_len test (jump_rows found) = omega (arith, c.if-before-kept.false, c.count_before-before.ensures.value, kept) in
    let fresh = c.count_before.ensures.value ∙ ap (λ (rs : List RowMatches). position_or_len test (jump_rows rs)) c.found.ensures.value in
    rw c.in-Some.is (omega (arith, kept, fresh, counts_forming test p.push.kept_rows found p.found more))
