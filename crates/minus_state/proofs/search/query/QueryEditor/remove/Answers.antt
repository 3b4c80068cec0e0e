-- A shorter query has changed.
use Rattle.std.proofs.Common.{sym, ◌∙◌}
use Rattle.std.proofs.lemmas.Result.{IfOk-weaker}
use Rattle.minus_state.proofs.QueryEditorLaws.{removed_told}
use Rattle.minus_state.proofs.search.query.QueryEditor.remove.Goals as goal

pub returns-clause-told : goal.returns-clause-told
returns-clause-told c = IfOk-weaker c.take.result _ _ (λ f e. e ∙ sym (removed_told c.args.self.now c.args.at c.args.at c.requires.first c.requires.last)) c.take.ensures.told
