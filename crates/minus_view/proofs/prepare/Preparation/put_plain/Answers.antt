use Rattle.std.proofs.Common.{ap, ◌∙◌}
use Rattle.minus_view.specs.TabColumns.{apart}
use Rattle.minus_view.proofs.ExpandedLaws.{all_plain, column_moves}
use Rattle.minus_view.proofs.prepare.Preparation.put_plain.Goals as goal

pub column_after-self-requires-clause-plain : goal.column_after-self-requires-clause-plain
column_after-self-requires-clause-plain c = all_plain c.args.newlines c.args.bytes.now c.requires.printed

pub returns-in_ok-put_plain-clause-column : goal.returns-in_ok-put_plain-clause-column
returns-in_ok-put_plain-clause-column c =
    column_moves _ _ _ _ _ c.args.bytes.now (c.apart.ensures.is ∙ ap apart c.in_ok-open.ensures.shape) c.in_ok-open.ensures.column c.column_after-self.ensures
