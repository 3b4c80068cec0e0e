use Rattle.std.proofs.Common.{◌+◌, arith, sym, ◌∙◌}
use Rattle.minus_text.proofs.CutPlacesLaws.{no_cut_more}
use Rattle.minus_text.proofs.line_cuts.last_cut.Goals as goal

pub loop-place-preserved : goal.loop-place-preserved
loop-place-preserved c = record {
  least = omega (arith, c.loop-place-test.true);
  most = omega (arith, c.loop-place.invariant.most);
  none = no_cut_more c.args.line.now c.args.start c.loop-place.place (c.args.start + c.args.cols) (omega (arith, c.loop-place-test.true)) (sym c.is_cut.ensures ∙ c.if-not-is_cut.true) c.loop-place.invariant.none;
}
