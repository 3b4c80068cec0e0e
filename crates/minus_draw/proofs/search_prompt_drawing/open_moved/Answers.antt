-- The cursor alone is another one.
use Rattle.std.proofs.Common.{◌≡◌, ℕ, Option, Some, sym, ap, ◌∙◌}
use Rattle.minus_state.specs.declared.search.open_search.SearchChange.TheVariants.{Moves}
use Rattle.minus_state.specs.OpenSearches.{OpenSearch, seen_search, search_after}
use Rattle.minus_state.specs.States.{control_of}
use Rattle.minus_draw.specs.Previews.{with_cursor}
use Rattle.minus_draw.proofs.PageLaws.{open_as}
use Rattle.minus_draw.proofs.search_prompt_drawing.open_moved.Goals as goal

pub returns-in-Some : goal.returns-in-Some
returns-in-Some c =
    let o : OpenSearch = seen_search c.in-Some.search.now in
    let search : Option OpenSearch = (control_of c.args.state.now).search in
    let own : search ≡ Some o = open_as (λ s. seen_search s.now) c.open_search.result search c.in-Some.search c.in-Some.is c.open_search.ensures in
    ap (λ (x : OpenSearch). Some (let r : OpenSearch = record x { prompt = with_cursor x.prompt c.cursor_after.result } in r)) c.view_of.ensures
    ∙ ap (λ (n : ℕ). Some (let r : OpenSearch = record o { prompt = with_cursor o.prompt n } in r)) c.cursor_after.ensures.value
    ∙ sym (ap (search_after (Moves c.args.edit)) own)
