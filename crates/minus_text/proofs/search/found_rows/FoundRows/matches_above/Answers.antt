use Rattle.std.proofs.Common.{ap, ◌∙◌}
use Rattle.minus_text.specs.JumpRows.{ended_at}
use Rattle.minus_text.specs.FoundBy.{found_rows}
use Rattle.minus_text.proofs.JumpLaws.{below, rows_are, rise_of, end_above}
use Rattle.minus_text.proofs.search.found_rows.FoundRows.matches_above.Goals as goal

pub jumps_before-requires : goal.jumps_before-requires
jumps_before-requires c = rise_of c.as_slice-jumps.result.now (found_rows c.args.self.now) (c.as_slice-jumps.ensures.value ∙ c.requires.jumps) c.requires.ascend

pub returns : goal.returns
returns c =
    let found = found_rows c.args.self.now in
    let is = c.as_slice-jumps.ensures.value ∙ c.requires.jumps in
    c.ended_at.ensures ∙ ap (λ js. ended_at 0 js c.jumps_before.result) is
    ∙ end_above c.args.row 0 c.jumps_before.result found c.requires.ascend (c.jumps_before.ensures.value ∙ ap (below c.args.row) (rows_are c.as_slice-jumps.result.now found is))
