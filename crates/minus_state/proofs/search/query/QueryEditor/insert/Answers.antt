-- A longer query has changed.
use Rattle.std.proofs.Common.{rules, ◌≤◌, ◌+◌, length, sym, subst, ◌∙◌}
use Rattle.std.proofs.lemmas.Result.{IfOk-weaker}
use Rattle.minus_state.specs.QueryEditor.{Editor}
use Rattle.minus_state.proofs.QueryEditorLaws.{inserted_told}
use Rattle.minus_state.proofs.search.query.QueryEditor.insert.Goals as goal

pub returns-clause-told : goal.returns-clause-told
returns-clause-told c =
    let old = c.args.self.now in
    let last = subst (λ (e : Editor). e.cursor ≤ length e.query + 1) c.self.view_is c.self.invariant.last in
    let told = inserted_told old old.cursor (old.cursor + 1) c.args.character last in
    IfOk-weaker c.take-2.result _ _ (λ f e. e ∙ sym told) c.take-2.ensures.told

pub returns-clause-new : goal.returns-clause-new
returns-clause-new c = search rules
