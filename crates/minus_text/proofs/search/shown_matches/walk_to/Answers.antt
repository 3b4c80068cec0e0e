-- One unit more, and the place is reached.
use Rattle.std.proofs.Common.{◌≡◌, ◌+◌, ◌-◌, length, chars, sym, ap, ap₂, ◌∙◌, arith}
use Rattle.std.proofs.lemmas.List.{length-append}
use Rattle.minus_text.specs.TextUnits.{units_left, bytes_left}
use Rattle.minus_text.specs.ShownMatches.{columns_before}
use Rattle.minus_text.proofs.ShownMatchesLaws.{counts_one, counts_reached}
use Rattle.minus_text.proofs.search.shown_matches.walk_to.Goals as goal

pub loop-walk-preserved : goal.loop-walk-preserved
loop-walk-preserved c =
    let w = c.loop-walk.walk in
    let said = c.in-Some.ensures in
    let unit = c.in-Some.unit in
    let rest = c.in-Some.rest in
    let size : length (bytes_left w.rest) ≡ length unit.text.now + length (bytes_left rest) = ap length said.bytes ∙ length-append unit.text.now (bytes_left rest) in
    let room = said.room in
    record {
      counts = λ us p l k q m.
          let more = counts_one q w.at w.columns (chars unit.text.now) (units_left w.rest) (units_left rest) (omega (arith, c.loop-walk-test.true, m)) said.units in
          c.loop-walk.invariant.counts us p l k q m ∙ more
          ∙ ap₂ (λ a b. (w.columns + a) + columns_before (q - (w.at + length b)) (units_left rest)) (sym said.columns) (sym said.text);
      bytes = omega (arith, size, c.loop-walk.invariant.bytes);
      room = omega (arith, room, c.loop-walk.invariant.room);
    }

pub returns-clause-columns : goal.returns-clause-columns
returns-clause-columns c = λ us p l k.
    let w = c.loop-walk.walk in
    c.loop-walk.invariant.counts us p l k c.args.place (omega arith) ∙ sym (counts_reached c.args.place w.at w.columns (units_left w.rest) c.loop-walk-test.false)
