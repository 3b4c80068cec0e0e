use Rattle.minus_view.proofs.TabLaws.{marks_are_taken_out}
use Rattle.minus_view.proofs.tab_marks.marks_are_taken_out.Goals as goal

pub returns : goal.returns
returns c = marks_are_taken_out
