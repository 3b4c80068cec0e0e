-- What was taken is handed out, or held.
use Rattle.std.proofs.Common.{ℕ, ◌++◌, ap, sym, subst, ◌∙◌, string_bytes}
use Rattle.std.proofs.lemmas.List.{append-nil}
use Rattle.std.proofs.lemmas.Result.{IfOk-weaker}
use Rattle.minus_view.specs.Prepared.{held, IsAt}
use Rattle.minus_view.proofs.prepare.Preparation.add.Goals as goal

pub returns-clause-plain : goal.returns-clause-plain
returns-clause-plain c =
    IfOk-weaker c.hand_out.result _ _ (λ _ handed m tabs col plain text.
    let taken = c.in_ok-take.ensures.text m tabs col plain.0 plain.1 text in
    let out = handed taken.plain in
    let column = c.hand_out.ensures.column m tabs taken.next taken.is_at in (
      (out.0, subst (λ (k : ℕ). IsAt m tabs k c.hand_out.new.self) taken.ends column),
      out.1 ∙ ap (λ xs. string_bytes c.args.out.now ++ xs) (sym (append-nil (held c.take.new.self)) ∙ taken.text),
    )) c.hand_out.ensures.plain
