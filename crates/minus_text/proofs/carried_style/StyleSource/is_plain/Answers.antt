-- Without ESC no style is read.
use Rattle.minus_text.proofs.StyleSourceLaws.{plain_found}
use Rattle.minus_text.proofs.carried_style.StyleSource.is_plain.Goals as goal

pub returns-then-is_none : goal.returns-then-is_none
returns-then-is_none c = λ is.
    plain_found c.args.self.kept.now c.args.self.formed.now c.memchr.result c.memchr-then-is_none.result c.memchr.ensures c.memchr-then-is_none.ensures c.is_none.result c.is_none-then-is_none.result c.is_none.ensures c.is_none-then-is_none.ensures c.if-is_none.true is
