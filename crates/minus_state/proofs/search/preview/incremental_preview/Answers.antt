-- The rows that are shown once the query is taken.
use Rattle.std.proofs.Common.{ℕ, Bool, Option, None, Some, if◌then◌else◌, sym, ap, ◌∙◌}
use Rattle.std.specs.Option.{unwrap_or}
use Rattle.regex.specs.Patterns.{Re}
use Rattle.regex.specs.Strings.{regex_pattern}
use Rattle.minus_state.specs.Control.{Control, searched_for}
use Rattle.minus_state.specs.ClampedMark.{clamp}
use Rattle.minus_state.specs.Page.{shown}
use Rattle.minus_state.specs.Confirming.{confirmed}
use Rattle.minus_state.specs.States.{control_of}
use Rattle.minus_state.proofs.PreviewLaws.{no_match, some_match}
use Rattle.minus_state.proofs.search.preview.incremental_preview.Goals as goal

pub returns : goal.returns
returns c = λ f.
    let k : Control = control_of c.args.state.now in
    let query : Re = regex_pattern c.args.query.now in
    let after : Control = confirmed k query in
    let row = sym c.in-Some.is ∙ c.in_ok-first.ensures f in
    let rows = c.in_ok-rows.ensures f ∙ ap (λ (o : Option ℕ). let x : Control = record (searched_for k (Some query)) { mark = unwrap_or o k.mark } in shown (clamp x)) row in
    ap Some rows ∙ sym (ap (λ (b : Bool). if b then None else Some (shown after)) (some_match _ k.mark c.in-Some.row row))

pub returns-in_default : goal.returns-in_default
returns-in_default c = λ f.
    let k : Control = control_of c.args.state.now in
    let query : Re = regex_pattern c.args.query.now in
    let none = sym c.in_default.is ∙ c.in_ok-first.ensures f in
    sym (ap (λ (b : Bool). if b then None else Some (shown (confirmed k query))) (no_match _ k.mark none))
