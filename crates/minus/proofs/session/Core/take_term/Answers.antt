-- The state with the new term, which is drawn whole.
use Rattle.std.proofs.Common.{Option, sym, ap, subst, ◌∙◌}
use Rattle.std.specs.Option.{option_map}
use Rattle.regex.specs.Patterns.{Re}
use Rattle.regex.specs.Strings.{regex_pattern}
use Rattle.minus_term.specs.Written.{written_all}
use Rattle.minus_state.specs.Changes.{IsChange}
use Rattle.minus_state.specs.Control.{Control, searched_for}
use Rattle.minus_state.specs.declared.change.Change.{Change}
use Rattle.minus_state.specs.declared.change.Redraw.{Redraw}
use Rattle.minus.specs.Core.{seen_of}
use Rattle.minus_draw.specs.Drawings.{whole_page, ops_of_step, IsDrawable, drawing_by}
use Rattle.minus.specs.Seen.{Seen}
use Rattle.minus.proofs.session.Core.take_term.Goals as goal

pub returns-clause-seen : goal.returns-clause-seen
returns-clause-seen g c =
    let old : Seen _ _ = seen_of c.args.self.now in
    let term : Option Re = option_map regex_pattern c.args.term in
    let led = c.in_ok-change.ensures.next c.args.self.now.formed in
    let of_term = subst (λ (t : Option Re). IsChange old.control c.in_ok-change.change (searched_for old.control t)) c.in_ok-term.ensures led in
    let leads = subst (λ (x : Change). IsChange old.control x (searched_for old.control term)) (sym c.of.ensures.change) of_term in
    c.in_ok-apply.ensures.done (searched_for old.control term) leads

pub returns-clause-drawn : goal.returns-clause-drawn
returns-clause-drawn g c =
    let old : Seen _ _ = seen_of c.args.self.now in
    let term : Option Re = option_map regex_pattern c.args.term in
    let new : Control = searched_for old.control term in
    let led = c.in_ok-change.ensures.next c.args.self.now.formed in
    let of_term = subst (λ (t : Option Re). IsChange old.control c.in_ok-change.change (searched_for old.control t)) c.in_ok-term.ensures led in
    let leads = subst (λ (x : Change). IsChange old.control x new) (sym c.of.ensures.change) of_term in
    let redraw = ap (λ (x : Change). x.redraw) c.of.ensures.change ∙ c.in_ok-change.ensures.redraw in
    let mark = c.of.result.change.mark in
    let drawable = subst (λ (r : Redraw). IsDrawable (drawing_by r old.control mark) old.control new) (sym redraw) tt in
    let left = c.in_ok-apply.ensures.done new leads in
    c.in_ok-apply.ensures.drawn new leads drawable ∙ ap (λ (r : Redraw). written_all (ops_of_step (drawing_by r old.control mark) old.control new)) redraw
    ∙ sym (ap (λ (s : Seen _ _). written_all (whole_page s.control)) left)
