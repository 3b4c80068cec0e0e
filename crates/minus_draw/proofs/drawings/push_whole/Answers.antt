-- The whole page of the control that the change leads to.
use Rattle.std.proofs.Common.{ℕ, List, ◌++◌, sym, ap, subst, ◌∙◌}
use Rattle.std.proofs.lemmas.Result.{on_ok_weaker}
use Rattle.minus_term.specs.FullRedraw.{full_ops}
use Rattle.minus_term.specs.SearchPrompt.{closing_ops}
use Rattle.minus_term.specs.Written.{written_all}
use Rattle.minus_state.specs.Page.{shown}
use Rattle.minus_state.specs.States.{control_of}
use Rattle.minus_state.proofs.ChangeLaws.{formed_for, shown_is}
use Rattle.minus_draw.specs.Drawings.{page_ops, IsDrawable}
use Rattle.minus_draw.specs.declared.drawings.Drawing.TheVariants.{Page}
use Rattle.minus_draw.specs.declared.drawings.WholePage.{WholePage}
use Rattle.minus_draw.proofs.drawings.push_whole.Goals as goal

pub returns-in-Plain : goal.returns-in-Plain
returns-in-Plain c =
    let out : List ℕ = c.args.out.now.items in
    on_ok_weaker c.push_page.result (λ e formed new h can same.
    e (formed_for c.args.state.now c.args.change.now new formed h)
    ∙ ap (λ (texts : List (List ℕ)). out ++ written_all (full_ops c.args.change.now.rows texts c.args.prompt.now)) (shown_is c.args.state.now c.args.change.now new formed h)
    ∙ ap (λ (n : ℕ). out ++ written_all (full_ops n (shown new) c.args.prompt.now)) h.rows_are
    ∙ ap (λ (row : List ℕ). out ++ written_all (full_ops new.rows (shown new) row)) same
    ∙ sym (ap (λ (w : WholePage). out ++ written_all (page_ops w new)) c.in-Plain.is)) c.push_page.ensures

pub returns-in-Typed : goal.returns-in-Typed
returns-in-Typed c =
    let out : List ℕ = c.args.out.now.items in
    on_ok_weaker c.push_edit.result (λ e formed new h can same. (e formed new h (subst (λ (w : WholePage). IsDrawable (Page w) (control_of c.args.state.now) new) c.in-Typed.is can) ∙ sym (ap (λ (w : WholePage). out ++ written_all (page_ops w new)) c.in-Typed.is))) c.push_edit.ensures

pub returns-in-Closing : goal.returns-in-Closing
returns-in-Closing c =
    let out : List ℕ = c.args.out.now.items in
    on_ok_weaker c.push_closing.result (λ e formed new h can same.
    e (formed_for c.args.state.now c.args.change.now new formed h)
    ∙ ap (λ (texts : List (List ℕ)). out ++ written_all (closing_ops c.args.change.now.rows texts c.args.prompt.now)) (shown_is c.args.state.now c.args.change.now new formed h)
    ∙ ap (λ (n : ℕ). out ++ written_all (closing_ops n (shown new) c.args.prompt.now)) h.rows_are
    ∙ ap (λ (row : List ℕ). out ++ written_all (closing_ops new.rows (shown new) row)) same
    ∙ sym (ap (λ (w : WholePage). out ++ written_all (page_ops w new)) c.in-Closing.is)) c.push_closing.ensures
