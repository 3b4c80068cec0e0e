use Rattle.std.proofs.Common.{map, ap, ap₂, ◌∙◌}
use Rattle.minus_text.specs.Found.{jump_rows}
use Rattle.minus_text.specs.JumpRows.{numbers_with}
use Rattle.minus_text.specs.FoundBy.{found_rows}
use Rattle.minus_text.proofs.JumpLaws.{row_of, rows_are, jumps_rise}
use Rattle.minus_text.proofs.JumpNumbersLaws.{rising_numbers}
use Rattle.minus_text.proofs.search.found_rows.FoundRows.numbers.Goals as goal

pub returns : goal.returns
returns c =
    let found = found_rows c.args.self.now in
    c.in_ok-add_numbers.ensures
    ∙ ap₂ numbers_with (ap (map row_of) c.as_slice.ensures.value ∙ rows_are c.args.self.now.jumps.items found c.requires.jumps) c.new-numbers.ensures.empty
    ∙ rising_numbers 0 (jump_rows found) (jumps_rise 0 found c.requires.ascend)
