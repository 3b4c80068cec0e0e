-- What is found in a line by itself is what is found in it as one of the text.
use Rattle.std.proofs.Common.{◌++◌, map, sym, ap, ap₂, subst, subst₂, ◌∙◌}
use Rattle.std.specs.Str.Lines.{lines}
use Rattle.minus_text.specs.Layouts.{own_rows}
use Rattle.minus_text.specs.Document.{rows_of, line_map, wrap_in}
use Rattle.minus_text.specs.Found.{ArePlaced}
use Rattle.minus_text.specs.FoundRows.{finder_pattern, matches_of}
use Rattle.minus_text.specs.LineFinds.{finds_in_line}
use Rattle.minus_text.specs.LineSplits.{RowsOrdered}
use Rattle.minus_text.specs.StoredLines.{first_of, line_of, finds_in_line_at}
use Rattle.minus_text.proofs.TextFindsLaws.{stored_ordered, found_in_own}
use Rattle.minus_text.proofs.PlacedFindsLaws.{own_cut_out}
use Rattle.minus_text.proofs.StoredLineLaws.{placed_in_text}
use Rattle.minus_text.proofs.store.Store.find_in_line.Goals as goal

pub find_in_line-requires-clause-rows : goal.find_in_line-requires-clause-rows
find_in_line-requires-clause-rows c =
    let l = c.line-line.result in
    subst (RowsOrdered l.base) (sym c.line-line.ensures.stored.its_rows) (stored_ordered (wrap_in c.args.self.now) l.base l.text.now)

pub returns-clause-found : goal.returns-clause-found
returns-clause-found c =
    let d = c.args.self.now in
    let l = c.line-line.result in
    let re = finder_pattern c.args.finder.now in
    let old = map matches_of c.args.found.now.items in
    let is = c.line-line.ensures.stored in
    let same = found_in_own re (wrap_in d) l.first l.base l.text.now l.rows.now is.its_rows ∙ ap₂ (finds_in_line re (wrap_in d)) is.its_first is.its_text in
    c.in_ok-find_in_line.ensures.found ∙ ap (λ f. old ++ f) same

pub returns-clause-stands : goal.returns-clause-stands
unfolding rows_of line_map
returns-clause-stands c =
    let d = c.args.self.now in
    let l = c.line-line.result in
    let w = wrap_in d in
    let re = finder_pattern c.args.finder.now in
    let is = c.line-line.ensures.stored in
    let same = found_in_own re w l.first l.base l.text.now l.rows.now is.its_rows ∙ ap₂ (finds_in_line re w) is.its_first is.its_text in
    let places = own_cut_out w l.base l.text.now l.rows.now c.line-line.ensures.utf8 is.its_rows in
    let own = (c.in_ok-find_in_line.ensures.stands (own_rows w l.text.now) places).placed in
    let here : ArePlaced (first_of d c.args.k) (own_rows w (line_of d c.args.k)) (finds_in_line_at re d c.args.k) =
    subst₂ (λ n t. ArePlaced n (own_rows w t) (finds_in_line_at re d c.args.k)) is.its_first is.its_text (subst (λ f. ArePlaced l.first (own_rows w l.text.now) f) same own) in
    placed_in_text re w c.args.k (lines d.text) c.requires here
