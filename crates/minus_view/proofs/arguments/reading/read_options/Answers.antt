use Rattle.minus_view.proofs.ReadingLaws.{one_more}
use Rattle.minus_view.proofs.arguments.reading.read_options.Goals as goal

pub loop-at-preserved : goal.loop-at-preserved
loop-at-preserved c = record {
  within = c.item_at-item.ensures.within;
  read = one_more _ _ _ c.args.text.now _ c.loop-at.at _ c.loop-at-test.true c.item_at-item.ensures.some c.item_at-item.ensures.is
      c.cut_behind-value.ensures c.with_item-reading.ensures c.loop-at.invariant.read;
}
