-- The parts of the first control, and why there is none.
use Rattle.std.proofs.Common.{ℕ, List, string_bytes, [], sym, subst, ap, ◌∙◌}
use Rattle.minus_term.specs.Refusals.{refusal_of}
use Rattle.minus_term.specs.declared.error.MinusError.{MinusError}
use Rattle.minus_text.specs.Document.{Document}
use Rattle.minus_text.specs.declared.layout.Layout.{Layout}
use Rattle.minus_text.specs.Searched.{Searched}
use Rattle.minus_state.specs.Changes.{IsUnformedState}
use Rattle.minus_state.specs.Control.{Control}
use Rattle.minus_state.specs.States.{at_start, first_settings}
use Rattle.minus_state.proofs.RefusalLaws.{passed_on}
use Rattle.minus_state.proofs.state.PagerState.new.Goals as goal

pub returns-clause-control : goal.returns-clause-control
returns-clause-control c =
    let start : Control = at_start c.args.cols c.args.rows in
    let document = ap (λ (s : Searched). s.document) c.in_ok-formed.ensures.ok ∙ ap (λ (t : List ℕ). let d : Document = record { text = t; layout = c.plain.result } in d) c.new.ensures.bytes ∙ ap (λ (l : Layout). let d : Document = record { text = []; layout = l } in d) c.plain.ensures in
    ap (λ (d : Document). let k : Control = record start { text = d.text; wrapping = d.layout.wrapping; match_lines = d.layout.match_lines; carry_style = d.layout.carry_style; settings = record first_settings { prompt = string_bytes c.in_ok-from_str.field-0; prefix = string_bytes c.new-2.result } } in k) document
    ∙ ap (λ (p : List ℕ). let k : Control = record start { settings = record first_settings { prompt = p; prefix = string_bytes c.new-2.result } } in k) c.in_ok-from_str.ensures.ok
    ∙ ap (λ (p : List ℕ). let k : Control = record start { settings = record first_settings { prefix = p } } in k) c.new-2.ensures.bytes

pub returns-in_err-formed-clause-refused : goal.returns-in_err-formed-clause-refused
returns-in_err-formed-clause-refused c =
    passed_on c.from_residual.result (λ e. IsUnformedState (refusal_of e) c.args.cols c.args.rows) c.in_err-formed.field-0.0 c.from_residual.ensures
    (subst (λ (e : MinusError). IsUnformedState (refusal_of e) c.args.cols c.args.rows) (sym c.in_err-formed.ensures.memory) (c.is_size.ensures.0 c.if-not-is_size.false))

pub returns-in_err-from_str-clause-refused : goal.returns-in_err-from_str-clause-refused
returns-in_err-from_str-clause-refused c =
    passed_on c.from_residual-in_err-from_str.result (λ e. IsUnformedState (refusal_of e) c.args.cols c.args.rows) _ c.from_residual-in_err-from_str.ensures (c.is_size.ensures.0 c.if-not-is_size.false)

pub invariant_of-result : goal.invariant_of-result
invariant_of-result c = record { sized = c.is_size.ensures.0 c.if-not-is_size.false }
