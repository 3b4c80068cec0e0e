-- One append of all their texts.
use Rattle.minus.proofs.JoinedLaws.{appends_join_lem}
use Rattle.minus.proofs.JoinedWorksLaws.{worked_appends_join_lem}
use Rattle.minus.proofs.laws.appends_join.Goals as goal

pub returns-clause-taken : goal.returns-clause-taken
returns-clause-taken g c = appends_join_lem _ _

pub returns-clause-worked : goal.returns-clause-worked
returns-clause-worked g c = worked_appends_join_lem
