use Rattle.std.proofs.Common.{◌++◌, option_map, sym, ap, ◌∙◌, rules}
use Rattle.std.proofs.lemmas.List.{append-nil}
use Rattle.minus_text.specs.FoundRows.{finder_pattern}
use Rattle.minus_text.specs.Blocks.{one}
use Rattle.minus_text.proofs.BlockLaws.{none_shown}
use Rattle.minus_text.proofs.block.put_row.Goals as goal

pub returns-in_default-clause-rows : goal.returns-in_default-clause-rows
returns-in_default-clause-rows g c =
    let rows = g.B.AppendableBuffer.rows c.args.buffer.now in
    sym (append-nil rows) ∙ ap (λ o. rows ++ one o) (sym (none_shown (option_map finder_pattern c.args.finder.now) c.args.block.now c.args.i c.in_default.ensures))

pub returns-clause-found : goal.returns-clause-found
returns-clause-found g c = search rules
