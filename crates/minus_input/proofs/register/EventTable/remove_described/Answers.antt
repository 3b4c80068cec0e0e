use Rattle.minus_input.proofs.DescribedLaws.{remove_step, described_at}
use Rattle.minus_input.specs.EventTables.{register_of}
use Rattle.minus_input.proofs.register.EventTable.remove_described.Goals.{in-Ok, in_default}
use Rattle.minus_input.proofs.register.EventTable.remove_described.Goals as goal

pub loop-place-preserved : goal.loop-place-preserved
loop-place-preserved g c = elim c.match-read.branch [
  | in-Ok w ↦
      rw w.self-is (remove_step g.D.Described.describes c.args.texts.now c.loop-place.place _ c.loop-place-test.true (register_of c.args.self.now) (register_of c.loop-place.self) _ w.in-Ok.key
      c.loop-place.invariant w.in-Ok.ensures.ok w.unbind.ensures)
  | in_default w ↦
      let at = described_at g.D.Described.describes c.args.texts.now c.loop-place.place _ c.loop-place-test.true c.in_ok-check_all.ensures.ok.0 c.in_ok-check_all.ensures.ok.1 in
      absurd (c.requires _ at.0 _ at.1 w.in_default.ensures.err)
]
