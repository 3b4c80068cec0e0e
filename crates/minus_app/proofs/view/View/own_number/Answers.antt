-- Neither help nor the search prompt is open in the session's state.
use Rattle.std.proofs.Common.{◌≡◌, Bool, false, ◌||◌, Option, None, Some, is_some, option_map, ap, sym, refl, ◌∙◌, if◌then◌else◌}
use Rattle.minus_state.specs.Help.{help_open}
use Rattle.minus_state.specs.States.{control_of}
use Rattle.minus_input.specs.EventTables.{register_of}
use Rattle.minus_app.specs.Actions.{own_number}
use Rattle.minus_app.specs.Keys.{done_by}
use Rattle.minus_app.proofs.view.View.own_number.Goals as goal

is_some_map : {A B : Type 0} (f : A → B) (o : Option A) → is_some (option_map f o) ≡ is_some o
is_some_map f None = refl
is_some_map f (Some x) = refl

pub returns : goal.returns
returns o c =
    let state = c.args.self.now.session.parts.state in
    let help : help_open (control_of state) ≡ false =
    sym (c.help_open.ensures ∙ ap (λ s. help_open (control_of s)) c.state-state.ensures.same) ∙ c.if-help_open.false in
    let search : is_some (control_of state).search ≡ false =
    sym (ap (λ s. is_some (control_of s).search) c.state-state.ensures.same) ∙ sym (ap is_some c.open_search.ensures)
    ∙ is_some_map _ c.open_search.result ∙ sym c.is_some.ensures ∙ c.if-is_some.false in
    let taken : (help_open (control_of state) || is_some (control_of state).search) ≡ false =
    ap (λ (h : Bool). h || is_some (control_of state).search) help ∙ search in
    c.own_number.ensures
    ∙ ap (λ k. own_number (done_by (register_of k) c.args.event.now)) c.classifier.ensures
    ∙ sym (ap (λ (b : Bool). if b then None else own_number (done_by (register_of c.args.self.now.session.parts.classifier) c.args.event.now)) taken)
