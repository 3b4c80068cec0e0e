-- The row without anything before it, as one of its own.
use Rattle.std.proofs.Common.{◌∙◌}
use Rattle.std.proofs.lemmas.Result.{IfOk-weaker}
use Rattle.minus_text.proofs.view.RowsView.highlighted_row.Goals as goal

pub returns : goal.returns
returns c = IfOk-weaker c.row_of.result _ _ (λ row e term found. e ∙ c.row_behind-row.ensures term found) c.row_of.ensures
