use Rattle.std.proofs.Common.{map, string_bytes, sym, ap, ◌∙◌}
use Rattle.std.proofs.lemmas.List.{take-map}
use Rattle.minus_text.proofs.buffers.ReusableRows.finish.Goals as goal

pub returns : goal.returns
returns c = ap (map string_bytes) c.truncate.ensures.items ∙ sym (take-map string_bytes c.self.inside.used c.self.inside.rows.items) ∙ c.self.view_is
