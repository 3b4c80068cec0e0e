-- The lines of a script.
use Rattle.std.proofs.Common.{◌≡◌, ℕ, ◌+◌, ◌<◌, List, [], ◌∷◌, ◌++◌, length, Some, None, Result, Ok, Err, false, eqb, refl, sym, arith, ◌∙◌, ap, inl, inr, not, ◌&&◌}
use Rattle.std.specs.List.{position, position_or_len, before_first, after_first, slice_split, onto_first}
use Rattle.std.proofs.lemmas.Bool.{cases_Bool, cases_lt, lt-ltb, ne_eqb, false_from_ne_true, cond-true, and_from}
use Rattle.std.proofs.lemmas.List.{append_assoc}
use Rattle.std.proofs.lemmas.List.Splits.{slice_split_first, length-slice_split}
use Rattle.std.specs.Str.{IsUtf8, is_utf8}
use Rattle.std.proofs.lemmas.Str.{IsUtf8-from_is_utf8, is_utf8-from_IsUtf8}
use Rattle.std.proofs.lemmas.Option.{none-some}
use Rattle.std.proofs.lemmas.List.Sums.{prefix_len-le-length}
use Rattle.minus_state.specs.declared.search.condition.NeverShows.{NeverShows}
use Rattle.minus_script.specs.declared.keys.DefaultKeys.{DefaultKeys}
use Rattle.minus_commands.specs.Reads.{Told}
use Rattle.minus_script.specs.Script.{is_newline, is_blank, has_blank, word_told, line_told, without_empty_last, script_lines, then_told}

-- a part that others follow is a line
later_parts : (part : List ℕ) (parts : List (List ℕ)) → 0 < length parts → without_empty_last (part ∷ parts) ≡ part ∷ without_empty_last parts
later_parts part [] h = absurd (omega arith)
later_parts part (next ∷ parts) h = refl

-- the first line ends before the first newline, and the others follow that
pub script_lines-at : (script : List ℕ) → position_or_len is_newline script < length script → script_lines script ≡ before_first is_newline script ∷ script_lines (after_first is_newline script)
script_lines-at script h =
    ap without_empty_last (slice_split_first is_newline script 0 h)
    ∙ later_parts (before_first is_newline script) (slice_split is_newline (after_first is_newline script)) (omega (arith, length-slice_split is_newline (after_first is_newline script)))

one_part : (script : List ℕ) → position_or_len is_newline script ≡ length script → slice_split is_newline script ≡ script ∷ []
one_part [] h = refl
one_part (b ∷ script) h = elim (cases_Bool (eqb b 10)) [
  | inl t ↦ absurd (let k = rw t at h in omega arith)
  | inr f ↦ let k = rw f at h in rw f (ap (onto_first b) (one_part script (omega arith)))
]

-- bytes with no newline are one line
pub script_lines-none : (script : List ℕ) → position_or_len is_newline script ≡ length script → 0 < length script → script_lines script ≡ script ∷ []
script_lines-none script h some =
    let n : eqb (length script) 0 ≡ false = ne_eqb (length script) 0 (λ z. omega arith) in
    ap without_empty_last (one_part script h) ∙ rw n refl

-- where no byte is a newline, the place of the first is the length
pub no_newline : (script : List ℕ) → None ≡ position is_newline script → position_or_len is_newline script ≡ length script
no_newline script h = elim (cases_lt (position_or_len is_newline script) (length script)) [
  | inl lt ↦ absurd (none-some (position_or_len is_newline script) (h ∙ rw (lt-ltb (position_or_len is_newline script) (length script) lt) refl))
  | inr ge ↦ omega (arith, prefix_len-le-length (λ b. not (is_newline b)) script)
]

-- a line that is not UTF-8 tells nothing
pub faulty_bytes : (line : List ℕ) → (IsUtf8 line → ⊥) → None ≡ line_told line
faulty_bytes line h =
    let f : is_utf8 line ≡ false = false_from_ne_true (is_utf8 line) (λ t. h (IsUtf8-from_is_utf8 line t)) in
    rw f refl

-- what a line with a blank tells
pub line_told-at : (line : List ℕ) → IsUtf8 line → position_or_len is_blank line < length line → word_told (before_first is_blank line) (after_first is_blank line) ≡ line_told line
line_told-at line text at =
    sym (cond-true (is_utf8 line && has_blank line) (word_told (before_first is_blank line) (after_first is_blank line)) None
    (and_from (is_utf8 line) (has_blank line) (is_utf8-from_IsUtf8 line text) (lt-ltb (position_or_len is_blank line) (length line) at)))

-- what some lines tell, this many, and then what follows them
abbrev pub told_after : List (Told NeverShows DefaultKeys) → ℕ → Result (List (Told NeverShows DefaultKeys)) ℕ → Result (List (Told NeverShows DefaultKeys)) ℕ
told_after done lines (Ok later) = Ok (done ++ later)
told_after done lines (Err number) = Err (lines + number)

-- one more line
pub told_after-more : (done now : List (Told NeverShows DefaultKeys)) (lines : ℕ) (first : List (Told NeverShows DefaultKeys)) (later : Result (List (Told NeverShows DefaultKeys)) ℕ) → now ≡ done ++ first → told_after done lines (then_told (Some first) later) ≡ told_after now (lines + 1) later
told_after-more done now lines first (Ok later) e = ap Ok (sym (append_assoc done first later) ∙ ap (λ x. x ++ later) (sym e))
told_after-more done now lines first (Err number) e = ap Err (omega arith)
