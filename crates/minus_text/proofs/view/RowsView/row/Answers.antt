-- The row behind what stands before it.
use Rattle.std.proofs.Common.{◌∙◌}
use Rattle.minus_text.specs.Formatted.{prefix_of}
use Rattle.minus_text.specs.Views.{viewed}
use Rattle.minus_text.proofs.SearchedLaws.{stored_behind}
use Rattle.minus_text.proofs.view.RowsView.row.Goals as goal

pub returns : goal.returns
returns c = λ term found. c.row_behind.ensures term found ∙ stored_behind term (viewed c.args.self).document c.args.i (prefix_of c.prefix-prefix.result) c.prefix-prefix.ensures
