use Rattle.std.proofs.Common.{◌≡◌, length, arith}
use Rattle.minus_text.proofs.StyleSourceLaws.{empty_held}
use Rattle.minus_text.proofs.carried_style.StyleSource.is_empty.Goals as goal

pub returns-then-is_empty : goal.returns-then-is_empty
returns-then-is_empty c = λ is.
    let kept : length c.args.self.kept.now ≡ 0 = grind (arith, c.is_empty.ensures, c.if-is_empty.true) in
    let formed : length c.args.self.formed.now ≡ 0 = grind (arith, c.is_empty-then-is_empty.ensures, is) in
    empty_held c.args.self.kept.now c.args.self.formed.now kept formed
