-- What is left behind the place is the row from the character on.
use Rattle.std.proofs.Common.{◌++◌, sym, ap, ◌∙◌}
use Rattle.minus_text.specs.TextUnits.{bytes_left}
use Rattle.minus_state.specs.VisibleCharacters.{before_visible, text_of, row_units, place_of_visible}
use Rattle.minus_state.proofs.VisibleLaws.{cut_behind}
use Rattle.minus_state.proofs.visible.place_of_visible.Goals as goal

pub returns : goal.returns
unfolding place_of_visible
returns c =
    let rest = bytes_left c.from_visible.result in
    let row = c.args.row.now in
    let split = sym c.new.ensures.bytes ∙ c.from_visible.ensures.bytes ∙ ap (λ us. text_of (before_visible c.args.number us) ++ rest) c.new.ensures.units in
    (cut_behind row rest (before_visible c.args.number (row_units row)) c.bytes_len.result c.utf8.row split c.bytes_len.ensures).place
