-- The mark is moved and clamped last, and then the prefix goes, or stays.
use Rattle.std.proofs.Common.{◌≡◌, ℕ, Bool, true, sym, ap, subst, ◌∙◌}
use Rattle.std.specs.Option.{unwrap_or}
use Rattle.minus_state.specs.Changes.{IsChange}
use Rattle.minus_state.specs.Control.{Control}
use Rattle.minus_state.specs.TypedPrefix.{cleared}
use Rattle.minus_state.specs.States.{control_of}
use Rattle.minus_state.specs.declared.change.Change.{Change}
use Rattle.minus_state.proofs.ChangeLaws.{formed_for}
use Rattle.minus_commands.specs.Reads.{wanted_by}
use Rattle.minus_commands.specs.Shapes.{Effect}
use Rattle.minus_commands.specs.Table.{effect_of, moved, changed_by}
use Rattle.minus_commands.proofs.OutcomeLaws.{moved_leads, cleared_settings}
use Rattle.minus_commands.proofs.outcome.outcome_of.Goals as goal

pub returns-then-not-clears_prefix-clause-ok : goal.returns-then-not-clears_prefix-clause-ok
returns-then-not-clears_prefix-clause-ok g c =
    let s = c.args.state.now in
    let old : Control = control_of s in
    let e : Effect = effect_of old (wanted_by c.args.request) in
    let formed = c.in_ok-outcome.ensures.formed in
    let mark = c.unwrap_or-outcome.ensures ∙ ap (λ to. unwrap_or to c.in_ok-outcome.outcome.change.mark) (formed.moves_to c.requires) ∙ ap (unwrap_or e.moves_to) (formed.leads c.requires).mark_is in
    let belongs = (formed_for s c.in_ok-outcome.outcome.change e.changed c.requires (formed.leads c.requires)).0 in
    let leads = moved_leads s c.in_ok-outcome.outcome.change c.unwrap_or-outcome.result _ c.clamp.new.self e.changed (moved e.changed e.moves_to) c.requires (formed.leads c.requires) (ap (λ (n : ℕ). let r : Control = record e.changed { mark = n } in r) mark) (c.clamp.ensures.belongs belongs) in
    record {
      possible = formed.possible;
      leads = subst (λ (b : Bool). IsChange old c.clamp.new.self (cleared b (changed_by e))) (sym c.if-not-clears_prefix.true) leads;
      redraw = ap (λ (x : Change). x.redraw) c.clamp.ensures.rest ∙ formed.redraw c.requires;
      moves_to = formed.moves_to c.requires;
      copied = formed.copied c.requires;
      exits = formed.exits;
    }

pub returns-clause-ok : goal.returns-clause-ok
returns-clause-ok g c =
    let s = c.args.state.now in
    let old : Control = control_of s in
    let e : Effect = effect_of old (wanted_by c.args.request) in
    let formed = c.in_ok-outcome.ensures.formed in
    let mark = c.unwrap_or-outcome.ensures ∙ ap (λ to. unwrap_or to c.in_ok-outcome.outcome.change.mark) (formed.moves_to c.requires) ∙ ap (unwrap_or e.moves_to) (formed.leads c.requires).mark_is in
    let belongs = (formed_for s c.in_ok-outcome.outcome.change e.changed c.requires (formed.leads c.requires)).0 in
    let leads = moved_leads s c.in_ok-outcome.outcome.change c.unwrap_or-outcome.result _ c.clamp.new.self e.changed (moved e.changed e.moves_to) c.requires (formed.leads c.requires) (ap (λ (n : ℕ). let r : Control = record e.changed { mark = n } in r) mark) (c.clamp.ensures.belongs belongs) in
    let on : c.args.clears_prefix ≡ true = c.if-not-clears_prefix.false in
    record {
      possible = formed.possible;
      leads = rw on (record {
        belongs = leads.belongs;
        document = leads.document;
        mark_is = leads.mark_is;
        cols_are = leads.cols_are;
        rows_are = leads.rows_are;
        left_is = leads.left_is;
        ends_are = leads.ends_are;
        term_is = leads.term_is;
        search_mark_is = leads.search_mark_is;
        settings_are = cleared_settings old.settings c.clamp.new.self (changed_by e).settings c.new.result c.new.ensures.bytes leads.settings_are;
        help_is = leads.help_is;
        mode_is = leads.mode_is;
        search_is = leads.search_is;
      });
      redraw = ap (λ (x : Change). x.redraw) c.clamp.ensures.rest ∙ formed.redraw c.requires;
      moves_to = formed.moves_to c.requires;
      copied = formed.copied c.requires;
      exits = formed.exits;
    }
