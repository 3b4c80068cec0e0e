-- One unit more is passed, where there is one.
use Rattle.std.proofs.Common.{◌++◌, chars, sym, ap, ◌∙◌}
use Rattle.minus_text.specs.TextUnits.{units_left, bytes_left}
use Rattle.minus_state.specs.VisibleCharacters.{before_visible, behind_visible, text_of, row_units}
use Rattle.minus_state.proofs.VisibleLaws.{place_after_some, place_after_none}
use Rattle.minus_state.proofs.visible.place_after_visible.Goals as goal

pub returns-in-Some : goal.returns-in-Some
returns-in-Some c =
    let text = c.in-Some.field-0-0.text.now in
    let rest = bytes_left c.in-Some.rest in
    let row = c.args.row.now in
    let n = c.args.number in
    let said = c.in-Some.ensures in
    let split = sym c.new.ensures.bytes ∙ c.from_visible.ensures.bytes ∙ ap (λ us. text_of (before_visible n us) ++ bytes_left c.from_visible.result) c.new.ensures.units ∙ ap (λ bs. text_of (before_visible n (row_units row)) ++ bs) said.bytes in
    let units = ap (behind_visible n) (sym c.new.ensures.units) ∙ sym c.from_visible.ensures.units ∙ said.units in
    place_after_some n row text rest (chars text) (units_left c.in-Some.rest) c.bytes_len.result split units said.text c.bytes_len.ensures

pub returns-in-None : goal.returns-in-None
returns-in-None c = place_after_none c.args.number c.args.row.now c.utf8.row (ap (behind_visible c.args.number) (sym c.new.ensures.units) ∙ sym c.from_visible.ensures.units ∙ c.in-None.ensures.units)
