use Rattle.std.proofs.Common.{ap, ◌∙◌, append-nil, rules}
use Rattle.minus_text.specs.Document.{Document}
use Rattle.minus_text.proofs.store.Store.reform.Goals as goal

pub returns-clause-ok : goal.returns-clause-ok
returns-clause-ok c = c.in_ok-push_by.ensures.ok ∙ ap (λ t. let d : Document = record { text = t; layout = c.args.layout } in d) (append-nil c.args.self.now.text)

pub returns-clause-told : goal.returns-clause-told
returns-clause-told c = search rules
