-- One entry more.
use Rattle.std.proofs.Common.{◌≡◌, arith}
use Rattle.minus_text.proofs.FirstJumpLaws.{no_jump, jump_above, jump_here}
use Rattle.minus_text.proofs.search.finding.first_jump.Goals as goal
use Rattle.minus_text.proofs.search.finding.first_jump.Goals.{else-found-gt0-via-then-found-gt0+else-found-row, else-found-gt0-via-else-found-gt0}

pub returns-then-found-row : goal.returns-then-found-row
returns-then-found-row c =
    jump_here c.args.found.now c.loop-found.found-index c.found-item.result c.loop-found-test.true c.found-item.is c.args.row c.loop-found.invariant c.if-found-gt0.true c.if-found-row.true

pub loop-found-preserved : goal.loop-found-preserved
loop-found-preserved c = elim c.else-found-gt0.branch [
  | else-found-gt0-via-then-found-gt0+else-found-row w ↦
      jump_above c.args.found.now c.loop-found.found-index c.found-item.result c.loop-found-test.true c.found-item.is c.args.row c.loop-found.invariant w.if-found-row.false
  | else-found-gt0-via-else-found-gt0 w ↦
      let none : c.found-item.result.begins ≡ 0 = omega (arith, w.if-found-gt0.false) in
      no_jump c.args.found.now c.loop-found.found-index c.found-item.result c.loop-found-test.true c.found-item.is c.args.row c.loop-found.invariant none
]
