use Rattle.std.proofs.Common.{refl, ap, length, ◌∙◌}
use Rattle.minus_text.proofs.BlockLaws.{tells_block}
use Rattle.minus_text.proofs.block.FormattedBlock.told.Goals as goal

pub returns : goal.returns
returns c = λ term e.
    tells_block c.self.inside.formed c.self.inside.layout c.self.inside.lines_before c.self.inside.unfinished c.self.inside.longest _ term c.args.clean c.args.self c.self.invariant c.self.view_is
    (c.len.ensures.value ∙ ap length c.into_first_rows-first_rows.ensures) c.formed_rows-rows_formatted.ensures.value refl e c.into_first_rows-first_rows.ensures refl refl
