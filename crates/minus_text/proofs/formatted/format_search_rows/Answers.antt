use Rattle.std.proofs.Common.{◌≡◌, ℕ, ◌+◌, ◌<◌, Bool, false, List, [], ◌∷◌, ◌++◌, length, map, take, get_or, sym, ap, ap₂, ◌∙◌}
use Rattle.std.proofs.lemmas.List.{take_all, take_more, map-append}
use Rattle.std.proofs.lemmas.Result.{IfOk-from_err}
use Rattle.minus_text.specs.declared.formatted.FormattedRow.{FormattedRow}
use Rattle.minus_text.specs.declared.formatted.SearchFormattedRow.{SearchFormattedRow}
use Rattle.minus_text.specs.FoundRows.{pattern_of}
use Rattle.minus_text.specs.Formatted.{printed_under, printed_searched, row_matches}
use Rattle.minus_text.proofs.formatted.format_search_rows.Goals as goal

-- one more row, and what is known of it
one_more : {A B C : Type 0} (f : A → C) (g : B → C) (found new : List A) (x : A) (rows : List B) (i : ℕ) (d : B) → i < length rows → new ≡ found ++ (x ∷ [])
    → map f found ≡ map g (take i rows) → f x ≡ g (get_or rows i d) → map f new ≡ map g (take (i + 1) rows)
one_more f g found new x rows i d lt e h k =
    ap (map f) e ∙ map-append f found (x ∷ []) ∙ ap₂ (λ xs y. xs ++ (y ∷ [])) h k ∙ sym (map-append g (take i rows) (get_or rows i d ∷ [])) ∙ sym (ap (map g) (take_more rows i d lt))

pub returns-clause-printed : goal.returns-clause-printed
returns-clause-printed c =
    c.loop-row.invariant.1 ∙ ap (map (printed_under (pattern_of c.args.search_term))) (take_all c.loop-row.row-index c.args.rows.now c.loop-row-test.false)

pub returns-clause-matches : goal.returns-clause-matches
returns-clause-matches c =
    c.loop-row.invariant.2 ∙ ap (map (λ r. row_matches (pattern_of c.args.search_term) r.row.now)) (take_all c.loop-row.row-index c.args.rows.now c.loop-row-test.false)

pub loop-row-init : goal.loop-row-init
loop-row-init c = (c.in_ok-finder.ensures, ap (map (λ (r : SearchFormattedRow × Bool). printed_searched r.0)) c.new-found.ensures.items, ap (map (λ (r : SearchFormattedRow × Bool). r.1)) c.new-found.ensures.items)

pub returns-in_err-finder-clause-printed : goal.returns-in_err-finder-clause-printed
returns-in_err-finder-clause-printed c = IfOk-from_err _ _ c.from_residual.ensures.0

pub returns-in_err-finder-clause-matches : goal.returns-in_err-finder-clause-matches
returns-in_err-finder-clause-matches c = IfOk-from_err _ _ c.from_residual.ensures.0

pub returns-in_err-search_row-clause-printed : goal.returns-in_err-search_row-clause-printed
returns-in_err-search_row-clause-printed c = IfOk-from_err _ _ c.from_residual-in_err-search_row.ensures.0

pub returns-in_err-search_row-clause-matches : goal.returns-in_err-search_row-clause-matches
returns-in_err-search_row-clause-matches c = IfOk-from_err _ _ c.from_residual-in_err-search_row.ensures.0

pub returns-in_err-push-clause-printed : goal.returns-in_err-push-clause-printed
returns-in_err-push-clause-printed c = IfOk-from_err _ _ c.from_residual-in_err-push.ensures.0

pub returns-in_err-push-clause-matches : goal.returns-in_err-push-clause-matches
returns-in_err-push-clause-matches c = IfOk-from_err _ _ c.from_residual-in_err-push.ensures.0

pub loop-row-preserved : goal.loop-row-preserved
loop-row-preserved c =
    let rows = c.args.rows.now in
    let i = c.loop-row.row-index in
    let found = c.loop-row.found.items in
    let term = pattern_of c.args.search_term in
    let x = c.in_ok-search_row.field-0 in
    let none : FormattedRow = record { row = record { ref_ptr = (0, 0); now = [] }; prefix = record { numbers = false; line_count = 0; line = 0; is_first = false } } in (
      c.in_ok-search_row.ensures.same ∙ c.loop-row.invariant.0,
      one_more (λ (r : SearchFormattedRow × Bool). printed_searched r.0) (printed_under term) found _ x rows i none c.loop-row-test.true c.in_ok-push.ensures.items c.loop-row.invariant.1
          (c.in_ok-search_row.ensures.printed ∙ ap (λ t. printed_under t (get_or rows i none)) c.loop-row.invariant.0),
      one_more (λ (r : SearchFormattedRow × Bool). r.1) (λ (r : FormattedRow). row_matches term r.row.now) found _ x rows i none c.loop-row-test.true c.in_ok-push.ensures.items c.loop-row.invariant.2
          (c.in_ok-search_row.ensures.matches ∙ ap (λ t. row_matches t (get_or rows i none).row.now) c.loop-row.invariant.0),
    )
