-- One number more.
use Rattle.minus_text.proofs.JumpNumbersLaws.{number_more}
use Rattle.minus_text.proofs.search.jump_rows.add_numbers.Goals as goal

pub loop-jump-preserved : goal.loop-jump-preserved
loop-jump-preserved c = number_more c.args.jumps.now c.loop-jump.jump-index _ c.args.numbers.now.keys c.loop-jump.numbers.keys _ c.loop-jump-test.true c.loop-jump.invariant c.in_ok-insert.ensures.keys
