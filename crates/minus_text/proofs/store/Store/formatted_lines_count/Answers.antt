use Rattle.std.proofs.Common.{◌∙◌}
use Rattle.std.specs.String.{string_bytes}
use Rattle.minus_text.proofs.ScreenLaws.{formed-rows}
use Rattle.minus_text.proofs.store.Store.formatted_lines_count.Goals as goal

pub returns-clause-value : goal.returns-clause-value
returns-clause-value c = c.len.ensures ∙ c.self.inside.rows.ok.0 ∙ formed-rows (string_bytes c.self.inside.text) c.self.inside.layout c.self.inside.rows.items c.self.inside.first_rows c.self.inside.finished c.self.inside.longest c.self.inside.border c.args.self.now c.self.view_is c.self.invariant.0
