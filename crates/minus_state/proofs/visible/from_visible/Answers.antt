-- A sequence is passed, or a visible character that comes before.
use Rattle.std.proofs.Common.{chars, sym, ◌∙◌}
use Rattle.std.proofs.lemmas.Bool.{ne_eqb}
use Rattle.minus_text.specs.TextUnits.{units_left, bytes_left}
use Rattle.minus_state.proofs.VisibleLaws.{passes_visible, passes_sequence}
use Rattle.minus_state.proofs.visible.from_visible.Goals as goal

pub loop-unit-preserved-else-left-eq0 : goal.loop-unit-preserved-else-left-eq0
loop-unit-preserved-else-left-eq0 c =
    let said = c.in-Some.ensures in
    passes_visible c.args.count c.loop-unit.left (units_left c.args.units) (units_left c.loop-unit.rest) (units_left c.in-Some.more) (chars c.in-Some.unit.text.now) c.in-Some.unit.text.now (bytes_left c.args.units) (bytes_left c.loop-unit.rest) (bytes_left c.in-Some.more)
    c.loop-unit.invariant said.units said.bytes said.text (sym said.sequence ∙ c.if-not-unit.true) (ne_eqb c.loop-unit.left 0 c.if-left-eq0.false)

pub loop-unit-preserved : goal.loop-unit-preserved
loop-unit-preserved c =
    let said = c.in-Some.ensures in
    passes_sequence c.args.count c.loop-unit.left (units_left c.args.units) (units_left c.loop-unit.rest) (units_left c.in-Some.more) (chars c.in-Some.unit.text.now) c.in-Some.unit.text.now (bytes_left c.args.units) (bytes_left c.loop-unit.rest) (bytes_left c.in-Some.more)
    c.loop-unit.invariant said.units said.bytes said.text (sym said.sequence ∙ c.if-not-unit.false)
