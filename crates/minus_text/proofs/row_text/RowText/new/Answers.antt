use Rattle.std.proofs.Common.{[], refl}
use Rattle.minus_text.proofs.row_text.RowText.new.Goals as goal

pub invariant_of-result : goal.invariant_of-result
invariant_of-result c = record { plain = c.escapes_end.ensures [] refl refl }
