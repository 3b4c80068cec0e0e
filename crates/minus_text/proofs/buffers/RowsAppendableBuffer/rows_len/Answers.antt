-- There are as many texts as rows.
use Rattle.std.proofs.Common.{sym, ◌∙◌, string_bytes}
use Rattle.std.proofs.lemmas.List.{length-map}
use Rattle.minus_text.proofs.buffers.RowsAppendableBuffer.rows_len.Goals as goal

pub returns : goal.returns
returns c = c.len.ensures ∙ c.args.self.now.ok.0 ∙ sym (length-map c.args.self.now.items string_bytes)
