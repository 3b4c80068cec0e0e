-- The page of the change that changes nothing.
use Rattle.std.proofs.Common.{option_map, Some, Global, sym, ap, ◌∙◌}
use Rattle.std.specs.declared.rc.Rc.{Rc}
use Rattle.regex.specs.declared.string.regex.Regex.{Regex}
use Rattle.std.proofs.lemmas.Result.{IfOk-weaker}
use Rattle.minus_term.specs.PlayedScreen.{ShownPage}
use Rattle.minus_state.specs.Control.{Control}
use Rattle.regex.specs.Strings.{regex_pattern}
use Rattle.minus_state.specs.Confirming.{confirmed_by}
use Rattle.minus_state.specs.Page.{page_with, shown}
use Rattle.minus_state.specs.States.{control_of}
use Rattle.minus_state.specs.declared.state.PagerState.{PagerState}
use Rattle.minus_state.proofs.ChangeLaws.{unchanged, shown_is}
use Rattle.minus_draw.proofs.DrawnLaws.{page_plain}
use Rattle.minus_draw.proofs.PageLaws.{page_of_prompt, open_as, closed_as}
use Rattle.minus_draw.proofs.page.page_of.Goals as goal

pub returns-clause-rows : goal.returns-clause-rows
returns-clause-rows c =
    let state : PagerState = c.args.state.now in
    let rows = shown_is state c.redrawn-change.result (control_of state) c.requires (unchanged state c.redrawn-change.result _ c.redrawn-change.ensures.is) in
    let plain = page_plain (control_of state) (closed_as _ c.open_search.result (control_of state).search c.in-None.is c.open_search.ensures) in
    IfOk-weaker c.page_of_change.result _ _ (λ p h. h ∙ ap (λ rs. (page_with (control_of state) rs).texts) rows ∙ sym (ap (λ (s : ShownPage). s.texts) plain)) c.page_of_change.ensures.rows

pub returns-clause-cursor : goal.returns-clause-cursor
returns-clause-cursor c =
    let state : PagerState = c.args.state.now in
    let plain = page_plain (control_of state) (closed_as _ c.open_search.result (control_of state).search c.in-None.is c.open_search.ensures) in
    IfOk-weaker c.page_of_change.result _ _ (λ p h. h ∙ sym (ap (λ (s : ShownPage). s.cursor) plain)) c.page_of_change.ensures.cursor

pub returns-in-Some-clause-rows : goal.returns-in-Some-clause-rows
returns-in-Some-clause-rows c =
    let state : PagerState = c.args.state.now in
    let control : Control = control_of state in
    let rows = shown_is state c.redrawn-change.result control c.requires (unchanged state c.redrawn-change.result _ c.redrawn-change.ensures.is) in
    let all = rows ∙ ap (λ p. shown (confirmed_by control (option_map (λ (b : Rc Regex Global). regex_pattern b.value) p))) (sym c.in-None-preview.is) in
    let typed = page_of_prompt control _ _ (open_as _ c.open_search.result control.search _ c.in-Some.is c.open_search.ensures) all in
    IfOk-weaker c.page_with_prompt.result _ _ (λ p h. h ∙ sym (ap (λ (s : ShownPage). s.texts) typed)) c.page_with_prompt.ensures.rows

pub returns-in-Some-clause-cursor : goal.returns-in-Some-clause-cursor
returns-in-Some-clause-cursor c =
    let state : PagerState = c.args.state.now in
    let control : Control = control_of state in
    let rows = shown_is state c.redrawn-change.result control c.requires (unchanged state c.redrawn-change.result _ c.redrawn-change.ensures.is) in
    let all = rows ∙ ap (λ p. shown (confirmed_by control (option_map (λ (b : Rc Regex Global). regex_pattern b.value) p))) (sym c.in-None-preview.is) in
    let typed = page_of_prompt control _ _ (open_as _ c.open_search.result control.search _ c.in-Some.is c.open_search.ensures) all in
    IfOk-weaker c.page_with_prompt.result _ _ (λ p h. h ∙ sym (ap (λ (s : ShownPage). s.cursor) typed)) c.page_with_prompt.ensures.cursor

pub returns-in-Some-preview-clause-rows : goal.returns-in-Some-preview-clause-rows
returns-in-Some-preview-clause-rows c =
    let control : Control = control_of c.args.state.now in
    let all = ap (λ (r : Regex). shown (confirmed_by control (Some (regex_pattern r)))) c.as_ref-pattern.ensures ∙ ap (λ p. shown (confirmed_by control (option_map (λ (b : Rc Regex Global). regex_pattern b.value) p))) (sym c.in-Some-preview.is) in
    let typed = page_of_prompt control _ _ (open_as _ c.open_search.result control.search _ c.in-Some.is c.open_search.ensures) all in
    IfOk-weaker c.page_with_preview.result _ _ (λ p h. h ∙ sym (ap (λ (s : ShownPage). s.texts) typed)) c.page_with_preview.ensures.rows

pub returns-in-Some-preview-clause-cursor : goal.returns-in-Some-preview-clause-cursor
returns-in-Some-preview-clause-cursor c =
    let control : Control = control_of c.args.state.now in
    let all = ap (λ (r : Regex). shown (confirmed_by control (Some (regex_pattern r)))) c.as_ref-pattern.ensures ∙ ap (λ p. shown (confirmed_by control (option_map (λ (b : Rc Regex Global). regex_pattern b.value) p))) (sym c.in-Some-preview.is) in
    let typed = page_of_prompt control _ _ (open_as _ c.open_search.result control.search _ c.in-Some.is c.open_search.ensures) all in
    IfOk-weaker c.page_with_preview.result _ _ (λ p h. h ∙ sym (ap (λ (s : ShownPage). s.cursor) typed)) c.page_with_preview.ensures.cursor
