use Rattle.minus_view.proofs.TabsBackLaws.{tabs_come_back}
use Rattle.minus_view.proofs.tab_marks.tabs_come_back.Goals as goal

pub returns : goal.returns
returns c = tabs_come_back
