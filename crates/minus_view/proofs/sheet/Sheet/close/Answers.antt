use Rattle.minus_view.proofs.ShownLaws.{read_reset}
use Rattle.minus_view.proofs.sheet.Sheet.close.Goals as goal
use Rattle.std.proofs.Common.{false}

pub returns-in_ok-put-clause-styled : goal.returns-in_ok-put-clause-styled
returns-in_ok-put-clause-styled c = (c.in_ok-put.ensures.put false (read_reset c.args.self.now.styled)).1
