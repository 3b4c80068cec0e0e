-- What is said takes the columns that the indicators leave.
use Rattle.std.proofs.Common.{chars, arith}
use Rattle.minus_text.proofs.ShownColumnsLaws.{fitted_columns_fill}
use Rattle.minus_state.specs.PromptRow.{said, columns_left}
use Rattle.minus_state.proofs.prompt.prompt_fills_its_row.Goals as goal

pub returns : goal.returns
returns c = λ p. let fills = fitted_columns_fill (columns_left p) (chars (said p)) in omega (arith, fills)
