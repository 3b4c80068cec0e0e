-- Refusals that are passed on.
use Rattle.std.proofs.Common.{◌≡◌, sym, subst, Result}
use Rattle.std.specs.Result.{IfErr, IsErr, IsErrAnd}
use Rattle.std.proofs.lemmas.Result.{err_from_is_err_and}

-- of a call, as it is: what its error meets
pub passed_on : {T E : Type 0} (r : Result T E) (P : E → Type 0) (cause : E) → IsErr r × IsErrAnd r (λ e. e ≡ cause) → P cause → IfErr r P
passed_on r P cause is met =
    let ended = err_from_is_err_and r is.1 in
    subst (λ x. IfErr x P) (sym ended.1) (subst P (sym ended.2) met)
