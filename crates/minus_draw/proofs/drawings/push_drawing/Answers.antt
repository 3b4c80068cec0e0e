-- What is drawn is the page of the control that the change leads to.
use Rattle.std.proofs.Common.{ℕ, List, ◌++◌, sym, ap, subst, ◌∙◌}
use Rattle.std.proofs.lemmas.Result.{on_ok_weaker}
use Rattle.minus_term.proofs.WrittenLaws.{no_op}
use Rattle.minus_term.specs.Scroll.{scroll_ops}
use Rattle.minus_term.specs.Written.{written_all}
use Rattle.minus_state.specs.Page.{shown}
use Rattle.minus_state.specs.States.{control_of}
use Rattle.minus_state.proofs.ChangeLaws.{formed_for, shown_is}
use Rattle.minus_draw.specs.Drawings.{ops_of, IsDrawable}
use Rattle.minus_draw.specs.declared.drawings.Drawing.{Drawing}
use Rattle.minus_draw.proofs.drawings.push_drawing.Goals as goal

pub returns-in-Nothing : goal.returns-in-Nothing
returns-in-Nothing c formed new h can same = rw c.in-Nothing.is (no_op c.args.out.now.items)

pub returns-in-Scroll : goal.returns-in-Scroll
returns-in-Scroll c =
    let out : List ℕ = c.args.out.now.items in
    on_ok_weaker c.push_scroll.result (λ e formed new h can same.
    e (formed_for c.args.state.now c.args.change.now new formed h)
    ∙ ap (λ (texts : List (List ℕ)). out ++ written_all (scroll_ops c.args.change.now.rows c.in-Scroll.from c.in-Scroll.to texts c.args.prompt.now)) (shown_is c.args.state.now c.args.change.now new formed h)
    ∙ ap (λ (n : ℕ). out ++ written_all (scroll_ops n c.in-Scroll.from c.in-Scroll.to (shown new) c.args.prompt.now)) h.rows_are
    ∙ ap (λ (row : List ℕ). out ++ written_all (scroll_ops new.rows c.in-Scroll.from c.in-Scroll.to (shown new) row)) same
    ∙ sym (ap (λ (d : Drawing). out ++ written_all (ops_of d new)) c.in-Scroll.is)) c.push_scroll.ensures

pub returns-in-Append : goal.returns-in-Append
returns-in-Append c =
    let out : List ℕ = c.args.out.now.items in
    on_ok_weaker c.push_append.result (λ e formed new h can same. e formed new h ∙ sym (ap (λ (d : Drawing). out ++ written_all (ops_of d new)) c.in-Append.is)) c.push_append.ensures

pub returns-in-Page : goal.returns-in-Page
returns-in-Page c =
    let out : List ℕ = c.args.out.now.items in
    let is = c.in-Page.is in
    on_ok_weaker c.push_whole.result (λ e formed new h can same. e formed new h (subst (λ (d : Drawing). IsDrawable d (control_of c.args.state.now) new) is can) same ∙ sym (ap (λ (d : Drawing). out ++ written_all (ops_of d new)) is)) c.push_whole.ensures

pub returns-in-LastRow : goal.returns-in-LastRow
returns-in-LastRow c =
    let out : List ℕ = c.args.out.now.items in
    let is = c.in-LastRow.is in
    on_ok_weaker c.push_last_row.result (λ e formed new h can same. e new h (subst (λ (d : Drawing). IsDrawable d (control_of c.args.state.now) new) is can) same ∙ sym (ap (λ (d : Drawing). out ++ written_all (ops_of d new)) is)) c.push_last_row.ensures
