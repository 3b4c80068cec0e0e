-- One jump more is moved.
use Rattle.std.proofs.Common.{◌≡◌, ◌<◌, set, length, get_or, sym, ap, ap₂, ◌∙◌, arith}
use Rattle.std.proofs.lemmas.List.{get_or_default}
use Rattle.minus_text.specs.JumpRows.{jump_behind}
use Rattle.minus_text.specs.declared.search.jump_rows.Jump.{Jump}
use Rattle.minus_text.proofs.JumpLaws.{one_more_moved, moved_size}
use Rattle.minus_text.proofs.search.jump_rows.count_behind.Goals as goal

pub loop-i-preserved : goal.loop-i-preserved
loop-i-preserved c =
    let js = c.args.jumps.now.items in
    let now = c.loop-i.jumps.items in
    let i = c.loop-i.i in
    let d = c.index.result.now in
    let lt : i < length js = omega (arith, c.len-i-end.ensures, c.loop-i-test.true) in
    let long = moved_size c.args.matches js now i (omega (arith, lt)) c.loop-i.invariant in
    let here : get_or now i d ≡ d = sym c.index.ensures in
    let it : c.index_mut.result.now ≡ d = c.index_mut.ensures.value ∙ get_or_default now i c.index_mut.result.now d (omega (arith, long, lt)) ∙ here in
    let moved : (let j : Jump = record { row = c.index_mut.result.now.row; end = c.saturating_add.result } in j) ≡ jump_behind c.args.matches d =
    ap₂ (λ r e. (let j : Jump = record { row = r; end = e } in j)) (ap (λ (j : Jump). j.row) it) c.saturating_add.ensures in
    one_more_moved c.args.matches js now _ i d lt c.loop-i.invariant (ap (set now i) (moved ∙ ap (jump_behind c.args.matches) (sym here)))
