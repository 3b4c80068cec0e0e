use Rattle.std.proofs.Common.{ap, ◌∙◌}
use Rattle.std.specs.List.{position_or_len}
use Rattle.minus_text.specs.Matches.{counts_first}
use Rattle.minus_text.specs.FoundBy.{found_rows}
use Rattle.minus_text.proofs.JumpLaws.{rows_are, rise_of}
use Rattle.minus_text.proofs.search.found_rows.FoundRows.count_before.Goals as goal

pub jumps_before-requires : goal.jumps_before-requires
jumps_before-requires c = rise_of c.as_slice.result.now (found_rows c.args.self.now) (c.as_slice.ensures.value ∙ c.requires.jumps) c.requires.ascend

pub returns-clause-value : goal.returns-clause-value
returns-clause-value c =
    c.jumps_before.ensures.value ∙ ap (position_or_len (counts_first c.args.mark c.args.jump)) (rows_are c.as_slice.result.now (found_rows c.args.self.now) (c.as_slice.ensures.value ∙ c.requires.jumps))
