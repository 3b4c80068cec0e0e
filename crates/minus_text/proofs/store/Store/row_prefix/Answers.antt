-- What stands before a row is that of its line.
use Rattle.std.proofs.Common.{string_bytes, sym, ap, ◌∙◌}
use Rattle.minus_text.specs.NumberPrefix.{is_on}
use Rattle.minus_text.specs.Document.{Document}
use Rattle.minus_text.proofs.ScreenLaws.{formed-map, formed-lines}
use Rattle.minus_text.proofs.StoredLaws.{prefix_of_line, no_line}
use Rattle.minus_text.proofs.store.Store.row_prefix.Goals as goal

pub returns-in_default : goal.returns-in_default
returns-in_default c = λ row e.
    absurd (no_line c.args.self.now c.args.i row (sym (formed-map (string_bytes c.self.inside.text) c.self.inside.layout c.self.inside.rows.items c.self.inside.first_rows c.self.inside.finished c.self.inside.longest c.self.inside.border c.args.self.now c.self.view_is c.self.invariant.0) ∙ c.in_default.ensures) e)

pub begins-requires : goal.begins-requires
begins-requires c = c.in-Some.ensures.within

pub returns : goal.returns
returns c =
    let its_map = formed-map (string_bytes c.self.inside.text) c.self.inside.layout c.self.inside.rows.items c.self.inside.first_rows c.self.inside.finished c.self.inside.longest c.self.inside.border c.args.self.now c.self.view_is c.self.invariant.0 in
    let count = c.len.ensures.value ∙ formed-lines (string_bytes c.self.inside.text) c.self.inside.layout c.self.inside.rows.items c.self.inside.first_rows c.self.inside.finished c.self.inside.longest c.self.inside.border c.args.self.now c.self.view_is c.self.invariant.0 in
    let on = c.is_on.ensures ∙ ap (λ (d : Document). is_on d.layout.numbers) c.self.view_is in
    prefix_of_line c.args.self.now c.self.inside.first_rows c.args.i c.in-Some.line c.is_on.result c.len.result c.begins.result on count its_map c.in-Some.ensures c.begins.ensures
