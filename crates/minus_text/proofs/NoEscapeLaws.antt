-- A text without a character that an escape sequence begins with has no escape sequence.
use Rattle.std.proofs.Common.{◌≡◌, ℕ, ◌+◌, true, false, is_some, List, [], ◌∷◌, ◌++◌, take, drop, Option, None, Some, ◌⊎◌, inl, inr, ⊎_elim, refl, sym, ap, ◌∙◌, arith, take-append-drop}
use Rattle.std.proofs.lemmas.Bool.Decides.{nat_tests}
use Rattle.std.proofs.lemmas.Str.{encode_ascii}
use Rattle.std.specs.Char.{encode_utf8, len_utf8}
use Rattle.std.specs.Str.Iter.{HasSubslice}
use Rattle.regex_hir.specs.Find.{find_str, Match}
use Rattle.regex_hir.specs.Matches.{Matches}
use Rattle.regex_hir.specs.Text.{char_at}
use Rattle.regex_hir.proofs.TextLemmas.{char_at_parts}
use Rattle.regex_hir.proofs.Utf8Lemmas.{encode_two}
use Rattle.regex.specs.Patterns.{in_range, in_ranges}
use Rattle.regex.proofs.ForCallers.{find_str_sound}
use Rattle.minus_text.specs.Escapes.{escape_places, HasEscapeStart}
use Rattle.minus_text.specs.FixedPatterns.{escape_sequence}
use Rattle.minus_text.proofs.MatchPlacesLaws.{no_place}

-- the class that the pattern begins with has two characters
introduces : (c : ℕ) → in_ranges ((27, 27) ∷ (155, 155) ∷ []) c ≡ true → (c ≡ 27) ⊎ (c ≡ 155)
unfolding in_ranges in_range
introduces c h = grind (arith, nat_tests, h)

-- a text has the UTF-8 of a character that stands in it
stands : (text : List ℕ) (i c : ℕ) (bytes : List ℕ) → char_at text i ≡ Some c → encode_utf8 c ≡ bytes → HasSubslice text bytes
stands text i c bytes here is = (
  take i text,
  drop (i + len_utf8 c) text,
  sym (take-append-drop i text)
      ∙ ap (λ rest. take i text ++ rest) ((char_at_parts text i c here).1 ∙ ap (λ l. l ++ drop (i + len_utf8 c) text) is),
)

begins : (text : List ℕ) (i j : ℕ) → Matches text escape_sequence i j → HasEscapeStart text
unfolding escape_sequence
begins text i j (l, (c, here, among, ends), rest) = ⊎_elim
    (λ (esc : c ≡ 27). inl (stands text i c _ here (ap encode_utf8 esc ∙ encode_ascii 27 (omega arith))))
    (λ (wide : c ≡ 155). inr (stands text i c _ here (ap encode_utf8 wide ∙ encode_two 155 (omega arith) (omega arith))))
    (introduces c among)

not_found : (text : List ℕ) (o : Option Match) → find_str escape_sequence text 0 ≡ o → ¬ (HasEscapeStart text) → is_some o ≡ false
not_found text None e none = refl
not_found text (Some m) e none = absurd (none (begins text m.start m.trace.end (find_str_sound escape_sequence text 0 m e).1))

pub no_escapes : (text : List ℕ) → ¬ (HasEscapeStart text) → escape_places text ≡ []
no_escapes text none = no_place escape_sequence text (not_found text (find_str escape_sequence text 0) refl none)
