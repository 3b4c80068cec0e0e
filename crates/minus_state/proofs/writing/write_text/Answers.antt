-- The row's text, or nothing where there is no row.
use Rattle.minus_state.proofs.WritingLaws.{none_written, row_written}
use Rattle.minus_state.proofs.OwnTextsLaws.{told_of}
use Rattle.minus_state.proofs.writing.write_text.Goals as goal

pub returns-in_default : goal.returns-in_default
returns-in_default c = none_written c.args.out.now.items _ (told_of _ _ _ _ c.in_default.is c.text.ensures)

pub returns : goal.returns
returns c = row_written _ _ _ _ c.in_ok-write_row.ensures (told_of _ _ _ _ c.in-Some.is c.text.ensures)
