use Rattle.std.proofs.Common.{sym, ◌∙◌}
use Rattle.minus_input.proofs.HelpTableLaws.{names_step, names_skip}
use Rattle.minus_input.proofs.help_table.names_of.Goals.{then-eq+in_ok-push_once, else-eq}
use Rattle.minus_input.proofs.help_table.names_of.Goals as goal

pub loop-entry-preserved : goal.loop-entry-preserved
loop-entry-preserved c = elim c.if-eq.branch [
  | then-eq+in_ok-push_once w ↦
      rw w.names-is (names_step c.args.entries.now c.loop-entry.entry-index c.entry-item.result c.args.description.now _ _ w.as_str.result.now
      c.loop-entry-test.true c.entry-item.is (sym c.eq.ensures ∙ w.if-eq.true) c.loop-entry.invariant w.as_str.ensures.value w.in_ok-push_once.ensures)
  | else-eq w ↦
      rw w.names-is (names_skip c.args.entries.now c.loop-entry.entry-index c.entry-item.result c.args.description.now _
      c.loop-entry-test.true c.entry-item.is (sym c.eq.ensures ∙ w.if-eq.false) c.loop-entry.invariant)
]
