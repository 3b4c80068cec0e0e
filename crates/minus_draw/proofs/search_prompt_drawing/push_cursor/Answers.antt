-- The cursor of the search prompt that is open then, if one is.
use Rattle.std.proofs.Common.{◌≡◌, ℕ, List, ◌++◌, Option, None, Some, sym, ap, ◌∙◌}
use Rattle.std.proofs.lemmas.Result.{on_ok_weaker}
use Rattle.minus_term.specs.SearchPrompt.{cursor_ops}
use Rattle.minus_term.specs.Written.{written_all}
use Rattle.minus_term.proofs.WrittenLaws.{no_op}
use Rattle.minus_state.specs.OpenSearches.{OpenSearch}
use Rattle.minus_draw.specs.Drawings.{cursor_under}
use Rattle.minus_draw.specs.Previews.{view_seen}
use Rattle.minus_draw.proofs.PageLaws.{open_as, closed_as}
use Rattle.minus_draw.proofs.search_prompt_drawing.push_cursor.Goals as goal

pub returns-in_default : goal.returns-in_default
returns-in_default c new h =
    let out : List ℕ = c.args.out.now.items in
    let none : new.search ≡ None = sym h.search_is ∙ closed_as view_seen c.open_after.result _ c.in_default.is c.open_after.ensures in
    no_op out ∙ ap (λ (s : Option OpenSearch). out ++ written_all (cursor_under new.rows s)) (sym none)

pub returns : goal.returns
returns c =
    let out : List ℕ = c.args.out.now.items in
    let o : OpenSearch = view_seen c.in-Some.view in
    on_ok_weaker c.write_search_cursor.result (λ e new h. (
    let is : new.search ≡ Some o = sym h.search_is ∙ open_as view_seen c.open_after.result _ _ c.in-Some.is c.open_after.ensures in
    e
    ∙ ap (λ (n : ℕ). out ++ written_all (cursor_ops n o.prompt.editor.cursor)) h.rows_are
    ∙ ap (λ (s : Option OpenSearch). out ++ written_all (cursor_under new.rows s)) (sym is)
    )) c.write_search_cursor.ensures
