use Rattle.std.proofs.Common.{arith}
use Rattle.std.specs.String.{string_bytes}
use Rattle.minus_text.proofs.ScreenLaws.{formed-unfinished}
use Rattle.minus_text.proofs.store.Store.unterminated.Goals as goal

pub overflow_sub-result : goal.overflow_sub-result
overflow_sub-result c =
    let h = formed-unfinished (string_bytes c.self.inside.text) c.self.inside.layout c.self.inside.rows.items c.self.inside.first_rows c.self.inside.finished c.self.inside.longest c.self.inside.border c.args.self.now c.self.view_is c.self.invariant.0 in
    omega (arith, h.0, c.len.ensures, c.self.inside.rows.ok.0)

pub returns : goal.returns
returns c =
    let h = formed-unfinished (string_bytes c.self.inside.text) c.self.inside.layout c.self.inside.rows.items c.self.inside.first_rows c.self.inside.finished c.self.inside.longest c.self.inside.border c.args.self.now c.self.view_is c.self.invariant.0 in
    omega (arith, h.1, c.len.ensures, c.self.inside.rows.ok.0)
