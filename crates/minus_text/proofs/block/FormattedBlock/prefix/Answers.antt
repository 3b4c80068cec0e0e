-- What stands before a row is that of its line.
use Rattle.std.proofs.Common.{◌≡◌, ◌+◌, [], length, refl, ap, subst, ◌∙◌}
use Rattle.std.specs.Str.Lines.{lines}
use Rattle.minus_text.specs.NumberPrefix.{prefix}
use Rattle.minus_text.specs.Document.{first_rows}
use Rattle.minus_text.specs.Blocks.{Block, fragment_of, all_lines, IsPrefixIn}
use Rattle.minus_text.proofs.DocumentLaws.{length-first_rows}
use Rattle.minus_text.proofs.BlockLaws.{prefix_in, no_line_in}
use Rattle.minus_text.proofs.block.FormattedBlock.prefix.Goals as goal

pub returns-in_default : goal.returns-in_default
returns-in_default c =
    let p = c.self.inside.formed in
    let b : Block = record { text = p.tail.text; layout = c.self.inside.layout; lines_before = c.self.inside.lines_before; first_row = p.kept_rows } in
    let map_is = c.first_rows-map.ensures ∙ c.self.invariant.its_map ∙ ap (λ w. first_rows w p.kept_rows (lines p.tail.text)) c.self.invariant.its_wrap in
    subst (λ (x : Block). IsPrefixIn x c.args.i []) c.self.view_is (no_line_in b [] c.first_rows-map.result.now c.args.i map_is c.in_default.ensures)

pub returns : goal.returns
returns c =
    let p = c.self.inside.formed in
    let b : Block = record { text = p.tail.text; layout = c.self.inside.layout; lines_before = c.self.inside.lines_before; first_row = p.kept_rows } in
    let map_is = c.first_rows-map.ensures ∙ c.self.invariant.its_map ∙ ap (λ w. first_rows w p.kept_rows (lines p.tail.text)) c.self.invariant.its_wrap in
    let count : c.self.inside.lines_before + c.len.result ≡ all_lines b = ap (λ n. c.self.inside.lines_before + n) (c.len.ensures.value ∙ ap length map_is ∙ length-first_rows (fragment_of b).wrap p.kept_rows (lines p.tail.text)) in
    subst (λ (x : Block). IsPrefixIn x c.args.i (prefix c.is_on.result (c.self.inside.lines_before + c.len.result) ((c.self.inside.lines_before + c.in-Some.line) + 1) c.begins.result)) c.self.view_is
    (prefix_in b c.first_rows-map.result.now c.args.i (c.kept_rows.result + c.args.i) c.in-Some.line _ _ c.is_on.result c.begins.result map_is (ap (λ n. n + c.args.i) c.kept_rows.ensures.value) c.in-Some.ensures c.is_on.ensures count refl c.begins.ensures)
