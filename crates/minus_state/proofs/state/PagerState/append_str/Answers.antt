-- The rows that stay are as they were where the prefix takes the same columns.
use Rattle.std.proofs.Common.{◌≡◌, ℕ, ◌==◌, List, sym, ap, ap₂, rules, ◌∙◌}
use Rattle.minus_text.specs.Document.{Document, pushed}
use Rattle.minus_text.specs.Found.{RowMatches}
use Rattle.minus_text.specs.Finds.{finds}
use Rattle.minus_text.specs.FoundRows.{pattern_of}
use Rattle.minus_text.specs.Searched.{Searched}
use Rattle.minus_state.specs.Control.{Control}
use Rattle.minus_state.specs.States.{control_of, term_of}
use Rattle.minus_state.specs.declared.state.PagerState.{PagerState}
use Rattle.minus_state.proofs.AppendLaws.{document_is, keeps_by_prefix, search_mark_is, style_is, found_pushed}
use Rattle.minus_state.proofs.state.PagerState.append_str.Goals as goal

pub returns-clause-control : goal.returns-clause-control
returns-clause-control c = λ f.
    let s : PagerState = c.args.self.now in
    let k : Control = control_of s in
    let text : List ℕ = c.args.text.now in
    let told = c.in_ok-push_screen_buf.ensures in
    let term : pattern_of c.searching-term.result ≡ term_of s = search rules in
    let is = told.ok ∙ ap (λ (d : Document). pushed d text s.line_numbers s.cols) (document_is s f) in
    let keeps = ap₂ (λ (a b : ℕ). a == b) c.prefix.ensures c.prefix-columns.ensures ∙ keeps_by_prefix s text _ f told.ok in
    let found = found_pushed s c.push_screen_buf.new.self _ _ f term told.found is in
    ap₂ (λ (d : Document) (n : ℕ). let x : Control = record k { text = d.text; wrapping = d.layout.wrapping; match_lines = d.layout.match_lines; carry_style = d.layout.carry_style; search_mark = n } in x) is
    (search_mark_is k text _ _ _ keeps (ap (λ (x : Searched). x.found) c.view.ensures ∙ found) c.search_mark_behind-self.ensures)

pub returns-clause-formed : goal.returns-clause-formed
returns-clause-formed c = λ f.
    let s : PagerState = c.args.self.now in
    let text : List ℕ = c.args.text.now in
    let told = c.in_ok-push_screen_buf.ensures in
    let term : pattern_of c.searching-term.result ≡ term_of s = search rules in
    let is = told.ok ∙ ap (λ (d : Document). pushed d text s.line_numbers s.cols) (document_is s f) in
    let found = found_pushed s c.push_screen_buf.new.self _ _ f term told.found is in
    record {
      screen = ap₂ (λ (d : Document) (fs : List RowMatches). let x : Searched = record { document = d; found = fs } in x) is found
          ∙ sym (ap (λ (d : Document). let x : Document = record { text = d.text; layout = record { cols = s.cols; wrapping = d.layout.wrapping; match_lines = d.layout.match_lines; carry_style = d.layout.carry_style; numbers = s.line_numbers } } in let y : Searched = record { document = x; found = finds (term_of s) x } in y) is);
      mode = f.mode;
    }

pub returns-clause-style : goal.returns-clause-style
returns-clause-style c = λ f.
    let s : PagerState = c.args.self.now in
    let text : List ℕ = c.args.text.now in
    let told = c.in_ok-push_screen_buf.ensures in
    let keeps = ap₂ (λ (a b : ℕ). a == b) c.prefix.ensures c.prefix-columns.ensures ∙ keeps_by_prefix s text _ f told.ok in
    c.append_style.ensures ∙ style_is s text _ _ _ f told.ok keeps (c.first_changed-first.ensures f)
