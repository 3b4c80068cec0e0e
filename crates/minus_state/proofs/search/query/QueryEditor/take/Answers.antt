-- The new starts are those of the new text.
use Rattle.std.proofs.Common.{◌+◌, List, ℕ, length, chars, string_bytes, sym, subst, ap, ◌∙◌}
use Rattle.std.proofs.lemmas.Str.{encodes-chars, IsUtf8-string_bytes}
use Rattle.minus_text.specs.WordStarts.{word_starts, AreWithin}
use Rattle.minus_state.proofs.search.query.QueryEditor.take.Goals as goal

pub invariant_of-self : goal.invariant_of-self
invariant_of-self c =
    let whole = encodes-chars (string_bytes c.args.text) (IsUtf8-string_bytes c.args.text) in
    record {
      first = c.requires.first;
      last = c.requires.last;
      few = c.requires.few;
      len_is = c.char_count-self-inside.ensures ∙ ap (λ bs. length (chars bs)) c.deref-2.ensures;
      starts_are = c.in_ok-starts.ensures.starts ∙ ap word_starts (c.deref.ensures ∙ sym whole);
      within = subst (λ (bs : List ℕ). AreWithin (length (chars bs) + 1) c.in_ok-starts.starts.items) c.deref.ensures c.in_ok-starts.ensures.within;
    }
