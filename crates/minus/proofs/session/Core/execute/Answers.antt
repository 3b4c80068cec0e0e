-- What is registered is kept; an exit leaves the control, but for the typed prefix; and all else is applied.
use Rattle.std.proofs.Common.{◌≡◌, ℕ, Bool, Option, None, is_some, refl, sym, ap, subst, arith, ◌∙◌}
use Rattle.std.proofs.lemmas.Result.{IfOk-weaker, IfErr-weaker}
use Rattle.minus.specs.Core.{seen_of}
use Rattle.minus_commands.specs.Outcomes.{IsOutcome}
use Rattle.minus_commands.specs.Reads.{wanted_by}
use Rattle.minus_term.specs.declared.hooks.Hook.{Hook}
use Rattle.minus_state.specs.Control.{Control}
use Rattle.minus_commands.specs.Callbacks.{Callbacks, callbacks_of, CallsHook}
use Rattle.minus_commands.specs.Table.{handed, control_after, changed_by, effect_of, hook_after, end_hook, is_at_end}
use Rattle.minus.proofs.CalledLaws.{called_on, uncalled_at, end_cleared}
use Rattle.minus_commands.proofs.RequestLaws.{none_handed, none_kept}
use Rattle.minus.proofs.StepLaws.{exits_with, worked_by}
use Rattle.minus.proofs.UnformedLaws.{untaken_unformed}
use Rattle.minus_state.proofs.RefusalLaws.{passed_on}
use Rattle.minus.proofs.session.Core.execute.Goals as goal

pub returns-in-HandOver-clause-taken : goal.returns-in-HandOver-clause-taken
returns-in-HandOver-clause-taken g c = rw c.in-HandOver.is (IfOk-weaker c.take_handed.result _ _ (λ t h. λ told asked. h told asked.asks) c.take_handed.ensures.taken)

pub returns-in-HandOver-clause-refused : goal.returns-in-HandOver-clause-refused
returns-in-HandOver-clause-refused g c = rw c.in-HandOver.is (IfErr-weaker c.take_handed.result _ _ (λ e h. λ told asked. h told asked.asks) c.take_handed.ensures.refused)

pub returns-then-outcome-clause-taken : goal.returns-then-outcome-clause-taken
returns-then-outcome-clause-taken g c =
    let old = seen_of c.args.self.now in
    let w = wanted_by c.args.request in
    let formed = c.in_ok-outcome.outcome in
    IfOk-weaker c.exit.result _ _ (λ t h. λ told asked. (
    let o = subst (λ (b : Bool). IsOutcome b old.control w formed) (sym asked.prefix) c.in_ok-outcome.ensures.ok in
    let is = h told w asked.asks (exits_with old told w formed c.take.result c.args.self.now.clamped o c.if-outcome.true c.take.ensures.value) in
    record { took = is.took; stays = is.stays }
    )) c.exit.ensures.taken

pub returns-then-outcome-clause-refused : goal.returns-then-outcome-clause-refused
returns-then-outcome-clause-refused g c =
    let old = seen_of c.args.self.now in
    let w = wanted_by c.args.request in
    let formed = c.in_ok-outcome.outcome in
    IfErr-weaker c.exit.result _ _ (λ e h. λ told asked. (
    let o = subst (λ (b : Bool). IsOutcome b old.control w formed) (sym asked.prefix) c.in_ok-outcome.ensures.ok in
    let is = h told w asked.asks (exits_with old told w formed c.take.result c.args.self.now.clamped o c.if-outcome.true c.take.ensures.value) in
    record { fails = is.fails; rises = is.rises; untouched = is.untouched }
    )) c.exit.ensures.refused

pub returns-clause-taken : goal.returns-clause-taken
returns-clause-taken g c =
    let old = seen_of c.args.self.now in
    let w = wanted_by c.args.request in
    let formed = c.in_ok-outcome.outcome in
    let none : handed w ≡ None = none_handed c.args.request c.in_default.not-HandOver in
    IfOk-weaker c.change.result _ _ (λ t h. λ told asked. (
    let o = subst (λ (b : Bool). IsOutcome b old.control w formed) (sym asked.prefix) c.in_ok-outcome.ensures.ok in
    let is = h told _ (worked_by _ old told w formed c.requires.closed c.args.self.now.clamped c.args.self.now.parts.state.sized.some_rows asked.asks none o c.if-outcome.false) in
    record { took = is.took; stays = is.stays }
    )) c.change.ensures.taken

pub returns-clause-refused : goal.returns-clause-refused
returns-clause-refused g c =
    let old = seen_of c.args.self.now in
    let w = wanted_by c.args.request in
    let formed = c.in_ok-outcome.outcome in
    let none : handed w ≡ None = none_handed c.args.request c.in_default.not-HandOver in
    IfErr-weaker c.change.result _ _ (λ e h. λ told asked. (
    let o = subst (λ (b : Bool). IsOutcome b old.control w formed) (sym asked.prefix) c.in_ok-outcome.ensures.ok in
    let is = h told _ (worked_by _ old told w formed c.requires.closed c.args.self.now.clamped c.args.self.now.parts.state.sized.some_rows asked.asks none o c.if-outcome.false) in
    record { fails = is.fails; rises = is.rises; untouched = is.untouched }
    )) c.change.ensures.refused

pub change-requires-clause-leads : goal.change-requires-clause-leads
change-requires-clause-leads g c =
    let old = seen_of c.args.self.now in
    let w = wanted_by c.args.request in
    (control_after c.args.clears_prefix old.control w, c.in_ok-outcome.ensures.ok.leads, omega arith)

pub returns-clause-called : goal.returns-clause-called
returns-clause-called g c =
    let old = seen_of c.args.self.now in
    let w = wanted_by c.args.request in
    let outcome = c.in_ok-outcome.ensures.ok in
    let held = callbacks_of c.args.self.now.parts in
    let left = callbacks_of c.change.new.self.parts in
    let next : Control = control_after c.args.clears_prefix old.control w in
    let due = ap (λ (m : Option ℕ). end_hook (is_some m) (is_at_end next)) outcome.moves_to ∙ ap (λ (b : Bool). end_hook (is_some (effect_of old.control w).moves_to) b) (end_cleared c.args.clears_prefix (changed_by (effect_of old.control w))) in
    called_on c.change.result c.args.request c.args.self.now c.change.new.self c.change.ensures.called c.change.ensures.goes_on (λ calls.
    subst (λ (k : Callbacks _ _). CallsHook (hook_after old.control w) k left) (sym (none_kept c.args.request held c.in_default.not-HandOver)) (subst (λ (h : Option Hook). CallsHook h held left) due (calls next outcome.leads)))

pub returns-clause-uncalled : goal.returns-clause-uncalled
returns-clause-uncalled g c = uncalled_at c.change.result c.args.self.now c.change.new.self c.change.ensures.uncalled

pub returns-in_err-outcome-clause-refused : goal.returns-in_err-outcome-clause-refused
returns-in_err-outcome-clause-refused g c =
    passed_on c.from_residual.result _ c.in_err-outcome.field-0.0 c.from_residual.ensures (untaken_unformed _ _ c.args.self.now _ (wanted_by c.args.request) c.args.clears_prefix c.in_err-outcome.field-0.0 c.requires.closed refl refl c.in_err-outcome.ensures.unformed)
