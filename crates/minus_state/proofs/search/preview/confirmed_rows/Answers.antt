-- The rows from that match on.
use Rattle.std.proofs.Common.{ℕ, Option, Some, ap, ◌∙◌}
use Rattle.std.specs.Option.{unwrap_or}
use Rattle.std.proofs.lemmas.Result.{IfOk-weaker}
use Rattle.regex.specs.Strings.{regex_pattern}
use Rattle.minus_state.specs.Control.{Control, searched_for}
use Rattle.minus_state.specs.ClampedMark.{clamp}
use Rattle.minus_state.specs.Page.{shown}
use Rattle.minus_state.specs.States.{control_of}
use Rattle.minus_state.proofs.search.preview.confirmed_rows.Goals as goal

pub returns : goal.returns
returns c =
    let k : Control = control_of c.args.state.now in
    IfOk-weaker c.rows_found_at.result _ _ (λ rows h. λ f. h f ∙ ap (λ (m : ℕ). let x : Control = record (searched_for k (Some (regex_pattern c.args.query.now))) { mark = m } in shown (clamp x)) (c.unwrap_or-row.ensures ∙ ap (λ (o : Option ℕ). unwrap_or o k.mark) (c.in_ok-row.ensures f))) c.rows_found_at.ensures
