-- What is formed beside is what a push of the text forms.
use Rattle.std.proofs.Common.{rules, refl, [], ◌≡◌, true, ◌+◌, ◌++◌, length, drop, sym, ap, ap₂, subst, arith, ◌∙◌}
use Rattle.std.specs.Str.Lines.{lines}
use Rattle.minus_text.specs.Document.{first_rows}
use Rattle.std.specs.String.{string_bytes}
use Rattle.std.proofs.lemmas.List.{length-append, length-drop}
use Rattle.minus_text.specs.declared.formed.Plan.{Plan}
use Rattle.minus_text.specs.RowText.{IsUnescapedFrom}
use Rattle.minus_text.specs.Lines.{cut}
use Rattle.minus_text.specs.Kept.{stored_from, IsRestartOf, line_going_on, piece_behind}
use Rattle.minus_text.proofs.ScreenLaws.{push_start}
use Rattle.minus_text.proofs.PendingLaws.{prepared_pending, plan_keeps}
use Rattle.minus_text.proofs.PushedPlacesLaws.{prepared_places}
use Rattle.minus_text.proofs.store.Store.prepare_push.Goals as goal

pub restart_for-start-requires : goal.restart_for-start-requires
restart_for-start-requires c = plan_keeps c.args.self.now c.args.text.now c.args.numbers c.args.cols c.plan-plan.result c.plan-plan.ensures

pub form-requires-clause-bytes : goal.form-requires-clause-bytes
form-requires-clause-bytes c =
    let r = c.restart_for-start.ensures in
    let tail = c.deref.ensures ∙ c.in_ok-tail.ensures in
    omega (arith, r.place.0, r.small, ap length tail, length-append (drop (c.restart_for-start.result.finished.bytes + c.restart_for-start.result.bytes) c.args.self.now.text) c.args.text.now, length-drop (c.restart_for-start.result.finished.bytes + c.restart_for-start.result.bytes) c.args.self.now.text)

pub form-requires-clause-lines : goal.form-requires-clause-lines
form-requires-clause-lines c =
    let r = c.restart_for-start.ensures in
    omega (arith, r.lines, r.small, c.deref.type_inv.1)

pub form-requires-clause-start : goal.form-requires-clause-start
form-requires-clause-start c =
    let r = c.restart_for-start.ensures in
    let h = push_start c.args.self.now.text c.plan-plan.result c.restart_for-start.result c.args.text.now r.text c.utf8.text r.start in
    (line_going_on c.args.self.now.text c.plan-plan.result, piece_behind c.args.self.now.text c.plan-plan.result c.args.text.now, r.start.restarts, h.0, c.deref.ensures ∙ c.in_ok-tail.ensures ∙ h.1)

pub returns-clause-pending : goal.returns-clause-pending
returns-clause-pending c =
    let r = c.restart_for-start.ensures in
    let h = push_start c.args.self.now.text c.plan-plan.result c.restart_for-start.result c.args.text.now r.text c.utf8.text r.start in
    let tail = c.in_ok-tail.ensures ∙ h.1 in
    let formed = c.in_ok-formed.ensures.its_form (line_going_on c.args.self.now.text c.plan-plan.result) (piece_behind c.args.self.now.text c.plan-plan.result c.args.text.now) r.start.restarts h.0 (c.deref.ensures ∙ tail) in
    let its = c.in_ok-formed.ensures.its_rows ∙ ap (λ t. stored_from c.plan-plan.result.wrap (c.restart_for-start.result.finished.bytes + c.restart_for-start.result.bytes) (cut t)) c.deref.ensures in
    let places = prepared_places c.args.self.now c.args.text.now (string_bytes c.in_ok-tail.tail) c.args.numbers c.args.cols c.restart_for-start.result c.plan-plan.result c.in_ok-formed.formed c.plan-plan.ensures r.start r.text c.in_ok-tail.ensures its formed in
    prepared_pending c.args.self.now c.args.text.now (string_bytes c.in_ok-tail.tail) c.args.numbers c.args.cols c.args.match_lines c.restart_for-start.result c.plan-plan.result c.plan-plan.ensures r.start h.0 tail c.in_ok-formed.formed formed places r.at_line

pub returns-clause-prepared : goal.returns-clause-prepared
returns-clause-prepared c =
    let r = c.restart_for-start.ensures in
    record {
      text = r.text;
      begins = subst (λ (p : Plan). IsRestartOf c.args.self.now.text p c.restart_for-start.result) c.plan-plan.ensures r.start;
      wrapping = ap (λ (p : Plan). p.wrap) c.plan-plan.ensures;
      follows = c.in_ok-tail.ensures;
      from_line = r.at_line;
    }

-- the tail is searched for its last ESC
pub invariant_of-result : goal.invariant_of-result
invariant_of-result c =
    let escapes : IsUnescapedFrom c.escapes_end-escapes_end.result (string_bytes c.in_ok-tail.tail) = subst (λ t. IsUnescapedFrom c.escapes_end-escapes_end.result t) c.deref-2.ensures (c.escapes_end-escapes_end.ensures [] refl refl) in
    let r = c.restart_for-start.ensures in
    let plan = c.plan-plan.result in
    let h = push_start c.args.self.now.text plan c.restart_for-start.result c.args.text.now r.text c.utf8.text r.start in
    let going = line_going_on c.args.self.now.text plan in
    let behind = piece_behind c.args.self.now.text plan c.args.text.now in
    let tail = c.in_ok-tail.ensures ∙ h.1 in
    let formed = c.in_ok-formed.ensures.its_form going behind r.start.restarts h.0 (c.deref.ensures ∙ tail) in
    let its_map : c.args.match_lines ≡ true → c.in_ok-formed.formed.first_rows ≡ first_rows plan.wrap (c.restart_for-start.result.finished.rows + c.restart_for-start.result.rows) (lines (string_bytes c.in_ok-tail.tail)) = λ on. (
    let at = r.at_line on in
    let no_rows = at.no_rows in
    let first : c.restart_for-start.result.finished.rows ≡ c.restart_for-start.result.finished.rows + c.restart_for-start.result.rows = omega (arith, no_rows) in
    formed.its_map ∙ ap₂ (λ n t. first_rows plan.wrap n (lines t)) first (sym (tail ∙ ap (λ n. drop n going ++ behind) at.no_bytes))
    ) in
    search (rules, escapes, its_map)
