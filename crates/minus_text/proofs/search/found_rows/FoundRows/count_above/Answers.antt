-- The jumps above a row are those of what was found above it.
use Rattle.std.proofs.Common.{ap, ◌∙◌}
use Rattle.minus_text.specs.FoundBy.{found_rows}
use Rattle.minus_text.proofs.JumpLaws.{below, rows_are, rise_of, above_count}
use Rattle.minus_text.proofs.search.found_rows.FoundRows.count_above.Goals as goal

pub jumps_before-requires : goal.jumps_before-requires
jumps_before-requires c = rise_of c.as_slice.result.now (found_rows c.args.self.now) (c.as_slice.ensures.value ∙ c.requires.jumps) c.requires.ascend

pub returns-clause-value : goal.returns-clause-value
returns-clause-value c =
    let found = found_rows c.args.self.now in
    c.jumps_before.ensures.value ∙ ap (below c.args.row) (rows_are c.as_slice.result.now found (c.as_slice.ensures.value ∙ c.requires.jumps)) ∙ above_count c.args.row found c.requires.ascend
