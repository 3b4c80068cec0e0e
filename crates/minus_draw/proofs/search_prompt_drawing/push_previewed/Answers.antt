-- The rows of the preview, or those of the change.
use Rattle.std.proofs.Common.{ℕ, List, ◌++◌, Some, option_map, sym, ap, ◌∙◌}
use Rattle.std.proofs.lemmas.Result.{on_ok_weaker}
use Rattle.regex.specs.Strings.{regex_pattern}
use Rattle.minus_term.specs.FullRedraw.{full_ops}
use Rattle.minus_term.specs.Written.{written_all}
use Rattle.minus_state.specs.Confirming.{confirmed_by}
use Rattle.minus_state.specs.Control.{Control}
use Rattle.minus_state.specs.Page.{shown}
use Rattle.minus_state.specs.States.{control_of}
use Rattle.minus_state.proofs.ChangeLaws.{formed_for, shown_is}
use Rattle.minus_draw.proofs.PageLaws.{alone_shown}
use Rattle.minus_draw.proofs.search_prompt_drawing.push_previewed.Goals as goal

pub returns-in-Some : goal.returns-in-Some
returns-in-Some c =
    let out : List ℕ = c.args.out.now.items in
    let old : Control = control_of c.args.state.now in
    let found = regex_pattern c.in-Some.pattern.now in
    on_ok_weaker c.push_preview.result (λ e formed new h is.
    e formed
    ∙ ap (λ (n : ℕ). out ++ written_all (full_ops n (shown (confirmed_by old (Some found))) c.args.typed.now)) h.rows_are
    ∙ ap (λ (ts : List (List ℕ)). out ++ written_all (full_ops new.rows ts c.args.typed.now)) (alone_shown old new (Some found) is)
    ∙ sym (ap (λ p. out ++ written_all (full_ops new.rows (shown (confirmed_by new (option_map (λ r. regex_pattern r.now) p))) c.args.typed.now)) c.in-Some.is)) c.push_preview.ensures

pub returns-in-None : goal.returns-in-None
returns-in-None c =
    let out : List ℕ = c.args.out.now.items in
    on_ok_weaker c.push_page.result (λ e formed new h is.
    e (formed_for c.args.state.now c.args.change.now new formed h)
    ∙ ap (λ (ts : List (List ℕ)). out ++ written_all (full_ops c.args.change.now.rows ts c.args.typed.now)) (shown_is c.args.state.now c.args.change.now new formed h)
    ∙ ap (λ (n : ℕ). out ++ written_all (full_ops n (shown new) c.args.typed.now)) h.rows_are
    ∙ sym (ap (λ p. out ++ written_all (full_ops new.rows (shown (confirmed_by new (option_map (λ r. regex_pattern r.now) p))) c.args.typed.now)) c.in-None.is)) c.push_page.ensures
