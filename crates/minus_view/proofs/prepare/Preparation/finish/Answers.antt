-- Where nothing was begun, there is nothing to end.
use Rattle.std.proofs.Common.{◌++◌, ap, sym, subst, ◌∙◌, string_bytes}
use Rattle.std.proofs.lemmas.Result.{IfOk-weaker}
use Rattle.minus_view.specs.Prepared.{held, IsPlainAt}
use Rattle.minus_view.proofs.prepare.Preparation.finish.Goals as goal

pub returns-clause-plain : goal.returns-clause-plain
returns-clause-plain c =
    IfOk-weaker c.pause.result _ _ (λ _ paused m tabs col plain.
    let same = c.in_ok-end.ensures.plain plain.0 in
    let out = paused m tabs col (subst (λ p. IsPlainAt m tabs col p) (sym same) plain) in
    (out.0, out.1 ∙ ap (λ p. string_bytes c.args.out.now ++ held p) same)) c.pause.ensures.plain
