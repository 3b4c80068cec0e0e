-- What is formed of the rest of a text goes behind what is kept.
use Rattle.std.proofs.Common.{refl, sym, subst}
use Rattle.std.proofs.lemmas.Result.{IfOk-from_err, MatchResult-from_err}
use Rattle.minus_text.specs.Kept.{IsPrepared, GoesOnInSome}
use Rattle.minus_text.proofs.store.form_end.Goals as goal

pub form-requires-clause-start : goal.form-requires-clause-start
form-requires-clause-start c = subst (λ t. GoesOnInSome c.args.wrap t c.args.start) (sym c.range_from-end.ensures.value) c.requires.start

pub form-requires-clause-rows : goal.form-requires-clause-rows
form-requires-clause-rows c = c.requires.rows

pub returns-in_err-formed-clause-formed : goal.returns-in_err-formed-clause-formed
returns-in_err-formed-clause-formed c = IfOk-from_err _ _ c.from_residual.ensures.0

pub returns-in_err-formed-clause-rows : goal.returns-in_err-formed-clause-rows
returns-in_err-formed-clause-rows c = IfOk-from_err _ _ c.from_residual.ensures.0

pub returns-in_err-formed-clause-first_rows : goal.returns-in_err-formed-clause-first_rows
returns-in_err-formed-clause-first_rows c = IfOk-from_err _ _ c.from_residual.ensures.0

pub returns-in_err-formed-clause-rows_stay : goal.returns-in_err-formed-clause-rows_stay
returns-in_err-formed-clause-rows_stay c = MatchResult-from_err _ _ _ c.from_residual.ensures.0 (λ _. refl)

pub returns-in_err-formed-clause-first_rows_stay : goal.returns-in_err-formed-clause-first_rows_stay
returns-in_err-formed-clause-first_rows_stay c = MatchResult-from_err _ _ _ c.from_residual.ensures.0 (λ _. refl)

pub replace_rows-requires-clause-first_rows : goal.replace_rows-requires-clause-first_rows
replace_rows-requires-clause-first_rows c =
    c.requires.ascends c.in_ok-formed.formed (subst (λ t. IsPrepared c.args.wrap t c.args.start c.in_ok-formed.formed) c.range_from-end.ensures.value c.in_ok-formed.ensures)

pub returns-in_err-replace_rows-clause-formed : goal.returns-in_err-replace_rows-clause-formed
returns-in_err-replace_rows-clause-formed c = IfOk-from_err _ _ c.from_residual-in_err-replace_rows.ensures.0

pub returns-in_err-replace_rows-clause-rows : goal.returns-in_err-replace_rows-clause-rows
returns-in_err-replace_rows-clause-rows c = IfOk-from_err _ _ c.from_residual-in_err-replace_rows.ensures.0

pub returns-in_err-replace_rows-clause-first_rows : goal.returns-in_err-replace_rows-clause-first_rows
returns-in_err-replace_rows-clause-first_rows c = IfOk-from_err _ _ c.from_residual-in_err-replace_rows.ensures.0

pub returns-in_err-replace_rows-clause-rows_stay : goal.returns-in_err-replace_rows-clause-rows_stay
returns-in_err-replace_rows-clause-rows_stay c = MatchResult-from_err _ _ _ c.from_residual-in_err-replace_rows.ensures.0 (λ _. c.in_err-replace_rows.ensures.rows_stay)

pub returns-in_err-replace_rows-clause-first_rows_stay : goal.returns-in_err-replace_rows-clause-first_rows_stay
returns-in_err-replace_rows-clause-first_rows_stay c = MatchResult-from_err _ _ _ c.from_residual-in_err-replace_rows.ensures.0 (λ _. c.in_err-replace_rows.ensures.first_rows_stay)

pub returns-clause-formed : goal.returns-clause-formed
returns-clause-formed c = subst (λ t. IsPrepared c.args.wrap t c.args.start c.in_ok-formed.formed) c.range_from-end.ensures.value c.in_ok-formed.ensures

pub returns-clause-rows : goal.returns-clause-rows
returns-clause-rows c = c.in_ok-replace_rows.ensures.rows

pub returns-clause-first_rows : goal.returns-clause-first_rows
returns-clause-first_rows c = c.in_ok-replace_rows.ensures.first_rows
