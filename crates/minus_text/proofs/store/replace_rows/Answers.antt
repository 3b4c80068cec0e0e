use Rattle.std.proofs.Common.{rules}
use Rattle.minus_text.proofs.store.replace_rows.Goals as goal

pub returns-in_err-reserve-clause-rows_stay : goal.returns-in_err-reserve-clause-rows_stay
returns-in_err-reserve-clause-rows_stay c = search rules
