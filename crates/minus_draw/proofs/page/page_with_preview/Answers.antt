-- The rows that are shown once the query is taken.
use Rattle.std.proofs.Common.{◌<◌, ℕ, List, length, map, string_bytes, Some, sym, ap, ap₂, subst, ◌∙◌}
use Rattle.std.proofs.lemmas.List.{length-map}
use Rattle.regex.specs.Strings.{regex_pattern}
use Rattle.minus_term.specs.FullRedraw.{page_of}
use Rattle.minus_state.specs.Showing.{row_text}
use Rattle.minus_state.specs.States.{control_of}
use Rattle.minus_draw.proofs.PageLaws.{searched_fits}
use Rattle.minus_draw.proofs.page.page_with_preview.Goals as goal

pub page_rows-requires : goal.page_rows-requires
page_rows-requires c =
    let texts = ap (map row_text) c.deref-2.ensures.value ∙ c.in_ok-texts.ensures ∙ ap (map string_bytes) c.deref.ensures.value ∙ c.in_ok-found.ensures c.requires in
    let count = sym (length-map c.deref-2.result.now row_text) ∙ ap length texts in
    subst (λ (n : ℕ). n < c.args.state.now.rows) (sym count) (searched_fits (control_of c.args.state.now) (Some (regex_pattern c.args.pattern.now)) c.args.state.now.sized.some_rows)

pub returns-clause-rows : goal.returns-clause-rows
returns-clause-rows c =
    let texts = ap (map row_text) c.deref-2.ensures.value ∙ c.in_ok-texts.ensures ∙ ap (map string_bytes) c.deref.ensures.value ∙ c.in_ok-found.ensures c.requires in
    c.in_ok-page_rows.ensures ∙ ap₂ (λ (rows : List (List ℕ)) (last : List ℕ). (page_of c.args.state.now.rows rows last).texts) texts c.in_ok-last.ensures
