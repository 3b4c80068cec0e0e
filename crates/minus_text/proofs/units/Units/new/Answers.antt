-- The body and the spaces behind.
use Rattle.std.proofs.Common.{refl}
use Rattle.minus_text.specs.TextUnits.{units_left, bytes_left}
use Rattle.minus_text.proofs.TextUnitsLaws.{text_from_body}
use Rattle.minus_text.proofs.units.Units.new.Goals as goal

pub returns : goal.returns
unfolding units_left bytes_left
returns c =
    let body = c.without_spaces-body.ensures in
    let both = text_from_body c.args.text.now c.without_spaces-body.result.now _ c.utf8.text c.without_spaces-body.utf8 body.body body.spaces body.room refl in
    record { units = both.0; bytes = both.1 }
