use Rattle.std.specs.String.{string_bytes}
use Rattle.minus_text.proofs.ScreenLaws.{formed-longest}
use Rattle.minus_text.proofs.store.Store.get_max_line_length.Goals as goal

pub returns : goal.returns
returns c = formed-longest (string_bytes c.self.inside.text) c.self.inside.layout c.self.inside.rows.items c.self.inside.first_rows c.self.inside.finished c.self.inside.longest c.self.inside.border c.args.self.now c.self.view_is c.self.invariant.0
