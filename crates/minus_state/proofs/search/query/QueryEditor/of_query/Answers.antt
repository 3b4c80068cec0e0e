-- The starts are those of the text, which was counted.
use Rattle.std.proofs.Common.{rules, ◌≡◌, ◌+◌, List, ℕ, length, chars, string_bytes, sym, subst, ap, ◌∙◌, arith}
use Rattle.std.proofs.lemmas.Str.{encodes-chars, IsUtf8-string_bytes}
use Rattle.minus_text.specs.WordStarts.{word_starts, AreWithin}
use Rattle.minus_state.proofs.search.query.QueryEditor.of_query.Goals as goal

pub invariant_of-result : goal.invariant_of-result
invariant_of-result c =
    let whole = encodes-chars (string_bytes c.args.query) (IsUtf8-string_bytes c.args.query) in
    let counted : c.char_count-len.result ≡ length (chars (string_bytes c.args.query)) =
    c.char_count-len.ensures ∙ ap (λ bs. length (chars bs)) c.deref.ensures in
    record {
      first = omega arith;
      last = omega (arith, counted);
      few = search (rules, counted);
      len_is = counted;
      starts_are = c.in_ok-starts.ensures.starts ∙ ap word_starts (c.deref-2.ensures ∙ sym whole);
      within = subst (λ (bs : List ℕ). AreWithin (length (chars bs) + 1) c.in_ok-starts.starts.items) c.deref-2.ensures c.in_ok-starts.ensures.within;
    }

pub returns-clause-ok : goal.returns-clause-ok
returns-clause-ok c = search rules
