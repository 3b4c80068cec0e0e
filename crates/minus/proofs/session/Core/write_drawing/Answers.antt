-- Nothing was drawn, or it was written.
use Rattle.std.proofs.Common.{rules, ◌≡◌, []}
use Rattle.std.proofs.KnownBytes.{Appends-nil}
use Rattle.std.proofs.lemmas.List.{nil_from_length}
use Rattle.minus.proofs.session.Core.write_drawing.Goals as goal

pub returns-then-is_empty-clause-ok : goal.returns-then-is_empty-clause-ok
returns-then-is_empty-clause-ok g c =
    let none : c.args.self.now.drawing.items ≡ [] = nil_from_length c.args.self.now.drawing.items (search rules) in
    rw none (Appends-nil _)
