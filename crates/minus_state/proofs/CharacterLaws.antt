-- The characters of the parts of a text.
use Rattle.std.proofs.Common.{◌≡◌, ℕ, List, ◌∷◌, ◌++◌, take, drop, chars, sym, ◌∙◌, ap, refl}
use Rattle.std.specs.Prelude.{encode_utf8}
use Rattle.std.specs.Char.{IsScalar}
use Rattle.std.specs.Str.{IsUtf8, IsCharBoundary}
use Rattle.std.proofs.lemmas.Str.{IsUtf8-take, IsUtf8-append, IsUtf8-encode, chars-append, chars_past_char}
use Rattle.std.proofs.lemmas.List.{take-append-drop, append_cancel_right}

-- a front of a text has the characters before those of what follows it
pub front_chars : (text : List ℕ) (k n : ℕ) → IsUtf8 text → IsCharBoundary text k →
    chars (drop k text) ≡ drop n (chars text) → chars (take k text) ≡ take n (chars text)
front_chars text k n u b e =
    let whole : chars (take k text) ++ drop n (chars text) ≡ chars text =
    ap (λ xs. chars (take k text) ++ xs) (sym e) ∙ sym (chars-append (take k text) (drop k text) (IsUtf8-take text k u b)) ∙ ap chars (take-append-drop k text) in
    append_cancel_right (chars (take k text)) (take n (chars text)) (drop n (chars text)) (whole ∙ sym (take-append-drop n (chars text)))

-- a character between two texts
pub between_chars : (front back : List ℕ) (c : ℕ) → IsUtf8 front → IsScalar c → IsUtf8 back →
    chars (front ++ (encode_utf8 c ++ back)) ≡ chars front ++ c ∷ chars back
between_chars front back c u s v =
    chars-append front (encode_utf8 c ++ back) u ∙ ap (λ xs. chars front ++ xs) (chars_past_char (encode_utf8 c ++ back) back c (IsUtf8-append (encode_utf8 c) back (IsUtf8-encode c s) v) refl)
