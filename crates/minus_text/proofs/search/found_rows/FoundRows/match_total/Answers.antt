use Rattle.std.proofs.Common.{length, ap, ◌∙◌, arith}
use Rattle.minus_text.specs.JumpRows.{ended_at}
use Rattle.minus_text.specs.FoundBy.{found_rows}
use Rattle.minus_text.proofs.JumpLaws.{end_of_total}
use Rattle.minus_text.proofs.search.found_rows.FoundRows.match_total.Goals as goal

pub returns : goal.returns
returns c =
    let is = c.as_slice.ensures.value ∙ c.requires in
    c.ended_at.ensures ∙ ap (λ js. ended_at 0 js c.len.result) is ∙ end_of_total c.len.result (found_rows c.args.self.now) (omega (arith, c.len.ensures, ap length c.requires))
