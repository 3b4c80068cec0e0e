-- One more unit.
use Rattle.std.proofs.Common.{chars, length, arith, refl, ap}
use Rattle.std.proofs.lemmas.List.{length-append}
use Rattle.minus_text.specs.TextUnits.{units_left, bytes_left}
use Rattle.minus_state.specs.VisibleCharacters.{row_units}
use Rattle.minus_state.proofs.LineBoundsLaws.{none_seen, seen_more, seen_done}
use Rattle.minus_state.proofs.line_bounds.seen_range.Goals as goal

pub loop-unit-init : goal.loop-unit-init
loop-unit-init c = record {
  so_far = rw c.new-rest.ensures.units (none_seen c.args.window.left c.args.window.width (row_units c.args.text.now));
  room = let size = ap length c.new-rest.ensures.bytes in omega (arith, size);
  within = let size = ap length c.new-rest.ensures.bytes in omega (arith, size);
}

pub loop-unit-preserved : goal.loop-unit-preserved
loop-unit-preserved c =
    let said = c.in-Some.ensures in
    let room = said.room in
    record {
      so_far = seen_more c.args.window.left c.args.window.width (row_units c.args.text.now) (units_left c.loop-unit.rest) (units_left c.in-Some.more) (chars c.in-Some.unit.text.now) c.in-Some.unit.text.now c.loop-unit.at _ c.in-Some.unit.columns c.loop-unit.bytes _ c.loop-unit.range c.gone_on-range.result
          c.is_seen.result c.loop-unit.invariant.so_far said.units said.text said.columns refl refl c.is_seen.ensures c.gone_on-range.ensures;
      room = omega (arith, room, c.loop-unit.invariant.room);
      within = let size = ap length said.bytes in omega (arith, size, length-append c.in-Some.unit.text.now (bytes_left c.in-Some.more), c.loop-unit.invariant.within);
    }

pub returns : goal.returns
returns c =
    seen_done c.args.window.left c.args.window.width (row_units c.args.text.now) (units_left c.loop-unit.rest) c.loop-unit.at c.loop-unit.bytes c.loop-unit.range c.loop-unit.invariant.so_far c.in_default.ensures.units
