use Rattle.std.proofs.Common.{sym, ◌∙◌}
use Rattle.minus_input.proofs.HelpTableLaws.{descriptions_step, descriptions_skip}
use Rattle.minus_input.proofs.help_table.descriptions.Goals.{then-not-is_empty+in_ok-push_once, else-not-is_empty}
use Rattle.minus_input.proofs.help_table.descriptions.Goals as goal

pub loop-entry-preserved : goal.loop-entry-preserved
loop-entry-preserved c = elim c.if-not-is_empty.branch [
  | then-not-is_empty+in_ok-push_once w ↦
      rw w.texts-is (descriptions_step c.args.entries.now c.loop-entry.entry-index c.entry-item.result _ _
      c.loop-entry-test.true c.entry-item.is (sym c.is_empty.ensures ∙ w.if-not-is_empty.true) c.loop-entry.invariant w.in_ok-push_once.ensures)
  | else-not-is_empty w ↦
      rw w.texts-is (descriptions_skip c.args.entries.now c.loop-entry.entry-index c.entry-item.result _
      c.loop-entry-test.true c.entry-item.is (sym c.is_empty.ensures ∙ w.if-not-is_empty.false) c.loop-entry.invariant)
]
