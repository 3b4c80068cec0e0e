-- Characters of printable ASCII, and one more unit.
use Rattle.std.proofs.Common.{◌≡◌, ◌+◌, ◌++◌, chars, length, string_bytes, arith, refl, ap, ◌∙◌}
use Rattle.std.proofs.lemmas.List.{length-append}
use Rattle.minus_text.specs.TextUnits.{units_left, bytes_left}
use Rattle.minus_text.specs.Crop.{cropped}
use Rattle.minus_text.proofs.CropLaws.{crop_begun, crop_more, crop_done}
use Rattle.minus_text.proofs.CropPlainLaws.{crop_run}
use Rattle.minus_text.proofs.crop.push_units.Goals as goal

pub loop-last-init : goal.loop-last-init
loop-last-init c = record {
  so_far = crop_begun c.args.left c.args.width c.args.text.now (string_bytes c.args.row.now) (units_left c.new-rest.result) c.new-rest.ensures.units;
  room = let size = ap length c.new-rest.ensures.bytes in omega (arith, size);
}

pub loop-last-preserved : goal.loop-last-preserved
loop-last-preserved c =
    let whole = string_bytes c.args.row.now ++ cropped c.args.left c.args.width c.args.text.now in
    let run = c.split_printable.result.0.now in
    let rest = units_left c.split_printable.result.1 in
    let at = c.loop-last.at + length run in
    let said = c.in-Some.ensures in
    let room = said.room in
    let size : length (bytes_left c.loop-last.rest) ≡ length run + length (bytes_left c.split_printable.result.1) = ap length c.split_printable.ensures.bytes ∙ length-append run (bytes_left c.split_printable.result.1) in
    let behind = crop_run c.args.left c.args.width (units_left c.loop-last.rest) rest run c.loop-last.at c.loop-last.last at c.last_of_run-last.result (string_bytes c.loop-last.row) (string_bytes c.push_run.new.row) whole
    c.loop-last.invariant.so_far c.split_printable.ensures.units c.split_printable.ensures.printable refl c.last_of_run-last.ensures c.in_ok-push_run.ensures in
    record {
      so_far = crop_more c.args.left c.args.width rest (units_left c.in-Some.more) (chars c.in-Some.unit.text.now) at c.last_of_run-last.result c.in-Some.unit.columns _ c.last_columns-last.result
          (string_bytes c.push_run.new.row) (string_bytes c.push_unit.new.row) whole behind said.units said.columns refl c.last_columns-last.ensures c.in_ok-push_unit.ensures;
      room = omega (arith, size, room, c.loop-last.invariant.room);
    }

pub returns-in_default : goal.returns-in_default
returns-in_default c =
    let whole = string_bytes c.args.row.now ++ cropped c.args.left c.args.width c.args.text.now in
    let run = c.split_printable.result.0.now in
    let rest = units_left c.split_printable.result.1 in
    let behind = crop_run c.args.left c.args.width (units_left c.loop-last.rest) rest run c.loop-last.at c.loop-last.last (c.loop-last.at + length run) c.last_of_run-last.result (string_bytes c.loop-last.row) (string_bytes c.push_run.new.row) whole
    c.loop-last.invariant.so_far c.split_printable.ensures.units c.split_printable.ensures.printable refl c.last_of_run-last.ensures c.in_ok-push_run.ensures in
    crop_done c.args.left c.args.width rest (c.loop-last.at + length run) c.last_of_run-last.result (string_bytes c.push_run.new.row) whole behind c.in_default.ensures.units
