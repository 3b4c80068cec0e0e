-- It is known, or seen.
use Rattle.std.proofs.Common.{sym, ◌∙◌, ap}
use Rattle.std.specs.List.{list_all}
use Rattle.minus_text.specs.Plain.{is_unescaped}
use Rattle.minus_text.proofs.RowTextsLaws.{unescaped_later}
use Rattle.minus_text.proofs.crop.is_unescaped_behind.Goals as goal

pub returns-then-escapes_end-at : goal.returns-then-escapes_end-at
returns-then-escapes_end-at c = λ _ text h e. ap (list_all is_unescaped) e ∙ unescaped_later c.args.escapes_end c.args.at text c.if-escapes_end-at.true h

pub returns : goal.returns
returns c = λ is text h e. sym c.are_unescaped.ensures ∙ is
