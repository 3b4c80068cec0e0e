-- The words start in the query, which is not too long.
use Rattle.std.proofs.Common.{◌+◌, length, chars, string_bytes, subst, sym, arith}
use Rattle.minus_text.specs.WordStarts.{AreWithin}
use Rattle.minus_state.specs.QueryEditor.{most}
use Rattle.minus_state.proofs.QueryEditorLaws.{within_later}
use Rattle.minus_state.proofs.search.query.QueryEditor.word_index.Goals as goal

pub returns-clause-within : goal.returns-clause-within
returns-clause-within c =
    let last = length (chars (string_bytes c.self.inside.text)) + 1 in
    let within = within_later last (most + 1) c.self.inside.starts.items (omega (arith, c.self.invariant.few)) c.self.invariant.within in
    subst (AreWithin (most + 1)) (sym c.as_slice.ensures.value) within
