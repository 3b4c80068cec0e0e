use Rattle.minus_view.proofs.ReadingLaws.{long_at, slice_is}
use Rattle.minus_view.proofs.arguments.reading.long_item.Goals as goal

pub returns-clause-is : goal.returns-clause-is
returns-clause-is c =
    long_at _ _ _ _ _ _ _ _ _ (slice_is c.args.at c.as_bytes.result.now c.args.text.now c.as_bytes.ensures.value)
    c.run_of-end.ensures.is c.begins_with-is_told.ensures.is c.cut_behind.ensures c.name_kind.ensures c.known-kind.ensures
    c.named_end.ensures.is c.ended_at.ensures.is
