-- The text before the place is read as the part of it that is left.
use Rattle.std.proofs.Common.{take, ap, ◌∙◌}
use Rattle.minus_text.specs.Lines.{unfinished_line}
use Rattle.minus_text.specs.Styles.{read_text}
use Rattle.minus_text.proofs.StyleSourceLaws.{none_before, part_reads}
use Rattle.minus_text.proofs.carried_style.style_bytes.Goals as goal

pub returns-then-unescaped : goal.returns-then-unescaped
returns-then-unescaped c = none_before c.args.text.now c.args.at (c.requires.known c.if-unescaped.true)

pub returns : goal.returns
returns c =
    part_reads (take c.args.at c.as_bytes.result.now) c.style_part.result c.style_part.ensures ∙ ap (λ t. read_text (unfinished_line (take c.args.at t))) c.as_bytes.ensures.value
