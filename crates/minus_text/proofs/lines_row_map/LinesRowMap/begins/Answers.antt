-- What is read of the map is its entry.
use Rattle.std.proofs.Common.{◌<◌, ℕ, List, length, get_or, ap, eqb, ◌∙◌}
use Rattle.std.proofs.lemmas.Grind.{get_or_default_zero}
use Rattle.minus_text.proofs.lines_row_map.LinesRowMap.begins.Goals as goal

pub returns : goal.returns
returns c =
    let line = c.args.line in
    let within : line < length c.self.inside.first_rows.items = rw c.self.view_is c.requires in
    ap (λ (n : ℕ). eqb n c.args.row) (c.index.ensures ∙ get_or_default_zero c.self.inside.first_rows.items line c.index.result.now within)
    ∙ ap (λ (xs : List ℕ). eqb (get_or xs line 0) c.args.row) c.self.view_is
