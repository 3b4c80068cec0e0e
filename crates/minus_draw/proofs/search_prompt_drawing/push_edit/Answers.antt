-- The page, and the cursor of the search prompt that is open then, if one is.
use Rattle.std.proofs.Common.{◌≡◌, ℕ, List, ◌++◌, Option, None, Some, sym, ap, ◌∙◌}
use Rattle.std.proofs.lemmas.Result.{on_ok_weaker}
use Rattle.minus_term.specs.FullRedraw.{full_ops}
use Rattle.minus_term.specs.Operations.{Op}
use Rattle.minus_term.specs.SearchPrompt.{cursor_ops, edit_ops}
use Rattle.minus_term.specs.Written.{written_all}
use Rattle.minus_term.proofs.WrittenLaws.{no_op, ops_added}
use Rattle.minus_state.specs.Confirming.{confirmed_by}
use Rattle.minus_state.specs.Control.{Control}
use Rattle.minus_state.specs.OpenSearches.{OpenSearch}
use Rattle.minus_state.specs.Page.{shown}
use Rattle.minus_state.specs.States.{control_of}
use Rattle.minus_draw.specs.Drawings.{cursor_under, edit_under}
use Rattle.minus_draw.specs.Previews.{view_seen}
use Rattle.minus_draw.proofs.PageLaws.{open_as, closed_as}
use Rattle.minus_draw.proofs.search_prompt_drawing.push_edit.Goals as goal

pub returns-in_default : goal.returns-in_default
returns-in_default c formed new h alone =
    let out : List ℕ = c.args.out.now.items in
    let none : new.search ≡ None = sym h.search_is ∙ closed_as view_seen c.open_after.result _ c.in_default.is c.open_after.ensures in
    no_op out ∙ ap (λ (s : Option OpenSearch). out ++ written_all (edit_under new s)) (sym none)

pub returns : goal.returns
returns c =
    let out : List ℕ = c.args.out.now.items in
    let mid : List ℕ = c.push_previewed.new.out.items in
    let old : Control = control_of c.args.state.now in
    let o : OpenSearch = view_seen c.in-Some.view in
    on_ok_weaker c.push_cursor.result (λ e formed new h alone. (
    let is : new.search ≡ Some o = sym h.search_is ∙ open_as view_seen c.open_after.result _ _ c.in-Some.is c.open_after.ensures in
    let texts : List (List ℕ) = shown (confirmed_by new o.preview) in
    let first = c.in_ok-push_previewed.ensures formed new h (alone o is ∙ ap (λ (s : Option OpenSearch). let x : Control = record old { search = s } in x) (sym is)) in
    let row : List Op = full_ops new.rows texts c.as_str.result.now in
    let second = e new h ∙ ap (λ (s : Option OpenSearch). mid ++ written_all (cursor_under new.rows s)) is in
    ops_added out mid _ row (cursor_ops new.rows o.prompt.editor.cursor) first second
    ∙ ap (λ (t : List ℕ). out ++ written_all (edit_ops new.rows texts t o.prompt.editor.cursor)) (c.as_str.ensures.value ∙ c.in_ok-row.ensures)
    ∙ ap (λ (s : Option OpenSearch). out ++ written_all (edit_under new s)) (sym is)
    )) c.push_cursor.ensures
