-- It is dragged, or it stays.
use Rattle.std.proofs.Common.{◌≡◌, ℕ, ◌-◌, ◌==◌, ◌&&◌, min, Bool, true, false, sym, ap, ap₂, subst, ◌∙◌}
use Rattle.std.specs.Prelude.{not}
use Rattle.minus_state.specs.declared.selection.SelectionEnds.{SelectionEnds}
use Rattle.minus_state.specs.Control.{Control}
use Rattle.minus_state.specs.Changes.{IsChange}
use Rattle.minus_state.specs.States.{control_of}
use Rattle.minus_state.specs.Selecting.{is_led, end_at, mark_led, ends_led_to, ends_led, is_same_end}
use Rattle.minus_state.specs.RedrawExtent.{whole_where}
use Rattle.minus_state.proofs.ChangeLaws.{at_mark, leads_to}
use Rattle.minus_state.proofs.SelectingLaws.{led_mark, led_ends, unled_mark, unled_ends, unled_stays}
use Rattle.minus_state.proofs.state.PagerState.dragged.Goals as goal

pub returns-then-not-is_led-clause-next : goal.returns-then-not-is_led-clause-next
returns-then-not-is_led-clause-next c = λ f.
    let s : Control = control_of c.args.self.now in
    let off : is_led s ≡ false = sym c.is_led.ensures ∙ c.if-not-is_led.true in
    subst (λ (m : ℕ). IsChange s c.redrawn.result (record s { mark = m; ends = ends_led s c.args.x c.args.y })) (sym (unled_mark s c.args.y off))
    (subst (λ (e : SelectionEnds). IsChange s c.redrawn.result (record s { ends = e })) (sym (unled_ends s c.args.x c.args.y off)) (c.redrawn.ensures.next f))

pub returns-then-not-is_led-clause-redraw : goal.returns-then-not-is_led-clause-redraw
returns-then-not-is_led-clause-redraw c = λ f.
    let s : Control = control_of c.args.self.now in
    let off : is_led s ≡ false = sym c.is_led.ensures ∙ c.if-not-is_led.true in
    c.redrawn.ensures.redraw ∙ sym (ap (λ (b : Bool). whole_where (not b)) (unled_stays s c.args.x c.args.y off))

pub returns-clause-next : goal.returns-clause-next
returns-clause-next c = λ f.
    let s : Control = control_of c.args.self.now in
    let on : is_led s ≡ true = sym c.is_led.ensures ∙ c.if-not-is_led.false in
    let mark = c.mark_led_to-mark.ensures f in
    let ends = c.ends_led_to-ends.ensures f ∙ ap (λ (m : ℕ). ends_led_to s.ends (end_at (record s { mark = m }) c.args.x (min c.args.y (s.rows - 2)))) mark ∙ sym (led_ends s c.args.x c.args.y on) in
    let same = ap₂ (λ (m : ℕ) (e : SelectionEnds). let k : Control = record s { mark = m; ends = e } in k) (mark ∙ sym (led_mark s c.args.y on)) ends in
    leads_to c.args.self.now _ _ _ same (λ g. at_mark s c.with_ends-change.result _ c.mark_led_to-mark.result _ (c.with_ends-change.ensures.next g)) f

pub returns-clause-redraw : goal.returns-clause-redraw
returns-clause-redraw c = λ f.
    let s : Control = control_of c.args.self.now in
    let on : is_led s ≡ true = sym c.is_led.ensures ∙ c.if-not-is_led.false in
    let mark = c.mark_led_to-mark.ensures f in
    let ends = c.ends_led_to-ends.ensures f ∙ ap (λ (m : ℕ). ends_led_to s.ends (end_at (record s { mark = m }) c.args.x (min c.args.y (s.rows - 2)))) mark ∙ sym (led_ends s c.args.x c.args.y on) in
    c.with_ends-change.ensures.redraw ∙ c.whole_where.ensures ∙ ap (λ (b : Bool). whole_where (not b)) c.stays_at-stays.ensures
    ∙ ap (λ (m : ℕ). whole_where (not ((m == s.mark) && is_same_end c.ends_led_to-ends.result.selection s.ends.selection))) (mark ∙ sym (led_mark s c.args.y on))
    ∙ ap (λ (e : SelectionEnds). whole_where (not ((mark_led s c.args.y == s.mark) && is_same_end e.selection s.ends.selection))) ends
