use Rattle.std.specs.String.{string_bytes}
use Rattle.minus_text.proofs.ScreenLaws.{formed-map}
use Rattle.minus_text.proofs.store.Store.lines_to_row_map.Goals as goal

pub returns : goal.returns
returns c = formed-map (string_bytes c.self.inside.text) c.self.inside.layout c.self.inside.rows.items c.self.inside.first_rows c.self.inside.finished c.self.inside.longest c.self.inside.border c.args.self.now c.self.view_is c.self.invariant.0
