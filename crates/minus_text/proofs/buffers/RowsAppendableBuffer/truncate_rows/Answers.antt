use Rattle.std.proofs.Common.{map, string_bytes, sym, ap, ◌∙◌}
use Rattle.std.proofs.lemmas.List.{take-map}
use Rattle.minus_text.proofs.buffers.RowsAppendableBuffer.truncate_rows.Goals as goal

pub returns : goal.returns
returns c = ap (map string_bytes) c.truncate.ensures.items ∙ sym (take-map string_bytes c.args.len c.args.self.now.items)
