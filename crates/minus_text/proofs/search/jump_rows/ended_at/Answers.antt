-- The last of them tells.
use Rattle.std.proofs.Common.{◌≡◌, ◌+◌, ◌-◌, ◌<◌, length, sym, ap, ◌∙◌, arith}
use Rattle.minus_text.specs.JumpRows.{ended_at}
use Rattle.minus_text.proofs.JumpLaws.{end_of_last}
use Rattle.minus_text.proofs.search.jump_rows.ended_at.Goals as goal

pub returns : goal.returns
returns c =
    let js = c.args.jumps.now in
    let some = c.if-i-eq0.false in
    let at : (c.args.i - 1) + 1 ≡ c.args.i = omega (arith, some) in
    let within : c.args.i - 1 < length js = omega (arith, some, c.requires) in
    sym (end_of_last 0 (c.args.i - 1) js _ within) ∙ ap (ended_at 0 js) at
