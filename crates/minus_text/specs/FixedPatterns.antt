-- The two patterns that a pager searches with beside its user's.
use Rattle.std.specs.Prelude.{◌≡◌, ◌≢◌, ◌⊎◌, ◌<◌, ◌==◌, ◌&&◌, ◌||◌, Bool, not, nat_le, List, [], ◌∷◌, ℕ, Some, None}
use Rattle.std.specs.Prelude.{true, codes, map, slice_index}
use Rattle.regex.specs.Patterns.{Re, literal, char_in, cat, alt, group, plus, members, is_word_char, default_config}
use Rattle.regex.specs.Patterns.{optional, repeat, find_all_str, span}
use Rattle.regex.specs.Strings.{regex_source, regex_config, IsReadFromSource}
use Rattle.regex.specs.Sources.{IsRefusal}
use Rattle.regex.specs.Failures.{IsRightKind}
use Rattle.regex.specs.declared.string.regex.Regex.{Regex}
use Rattle.regex.specs.declared.error.Error.{Error}
use Rattle.regex.specs.declared.error.Error.TheVariants.{CompiledTooBig, Internal, OutOfMemory}
use Rattle.minus_term.specs.declared.error.MinusError.{MinusError}
use Rattle.minus_term.specs.declared.error.MinusError.TheVariants.{Memory, SearchExpError}

-- the text of the pattern of escape sequences
abbrev pub escape_source : List ℕ
escape_source = codes "[\\u001b\\u009b]\\[[()#;?]*(?:[0-9]{1,4}(?:;[0-9]{0,4})*)?[0-9A-ORZcf-nqry=><]"

-- the text of the pattern of the words of a query
abbrev pub word_source : List ℕ
word_source = codes "([\\w_]+)|([-?~@#!$%^&*()-+={}\\[\\]:;\\\\|'/?<>.,\"]+)|\\W"

-- a digit
abbrev pub digit : Re
digit = char_in ((48, 57) ∷ [])

-- ESC or U+009B
abbrev pub introducer : Re
introducer = char_in ((27, 27) ∷ (155, 155) ∷ [])

-- any number of `(`, `)`, `#`, `;` and `?`
abbrev pub marks : Re
marks = repeat 0 None true (char_in ((40, 40) ∷ (41, 41) ∷ (35, 35) ∷ (59, 59) ∷ (63, 63) ∷ []))

-- up to four digits behind a `;`
abbrev pub later_number : Re
later_number = cat (literal (codes ";")) (repeat 0 (Some 4) true digit)

-- one to four digits, and any number of later numbers
abbrev pub numbers : Re
numbers = cat (repeat 1 (Some 4) true digit) (repeat 0 None true later_number)

-- a digit, a capital up to `O`, a letter from `f` to `n`, or one of `RZcqry=><`
abbrev pub final : Re
final =
    char_in ((48, 57) ∷ (65, 79) ∷ (82, 82) ∷ (90, 90) ∷ (99, 99) ∷ (102, 110) ∷ (113, 113) ∷ (114, 114) ∷ (121, 121)
    ∷ (61, 61) ∷ (62, 62) ∷ (60, 60) ∷ [])

-- An escape sequence: what the grammar of patterns reads in the text above.
unfoldable pub escape_sequence : Re
escape_sequence = cat introducer (cat (literal (codes "[")) (cat marks (cat (optional true numbers) final)))

-- a letter, a digit or a mark of words as the Unicode standard has them, or `_`; a character that is none of the former
abbrev pub word_character : ℕ → Bool
word_character c = is_word_char c || (c == 95)

-- a character up to U+10FFFF that is no letter, no digit and no mark of words as the Unicode standard has them
abbrev pub no_word_character : ℕ → Bool
no_word_character c = nat_le c 0x10_FFFF && not (is_word_char c)

-- a mark of ASCII that words do not have: each but the backquote
abbrev pub punctuation : Re
punctuation =
    char_in ((45, 45) ∷ (63, 63) ∷ (126, 126) ∷ (64, 64) ∷ (35, 35) ∷ (33, 33) ∷ (36, 36) ∷ (37, 37) ∷ (94, 94)
    ∷ (38, 38) ∷ (42, 42) ∷ (40, 40) ∷ (41, 43) ∷ (61, 61) ∷ (123, 123) ∷ (125, 125) ∷ (91, 91) ∷ (93, 93)
    ∷ (58, 58) ∷ (59, 59) ∷ (92, 92) ∷ (124, 124) ∷ (39, 39) ∷ (47, 47) ∷ (63, 63) ∷ (60, 60) ∷ (62, 62) ∷ (46, 46)
    ∷ (44, 44) ∷ (34, 34) ∷ [])

-- A word of a query: word characters, or marks, or one other character. It is what the grammar reads in the text above.
unfoldable pub query_word : Re
query_word =
    alt (group 1 (plus true (char_in (members word_character))))
    (alt (group 2 (plus true punctuation)) (char_in (members no_word_character)))

-- a pattern is what the grammar reads in a text
pub record IsBuiltOf (source : List ℕ) (built : Regex) : Type 0 where
  pub source_is : regex_source built ≡ source
  pub options : regex_config built ≡ default_config
  pub read : IsReadFromSource built

-- where a pattern's matches begin and end in a text
abbrev pub match_places : Re → List ℕ → List (ℕ × ℕ)
match_places pattern text = map span (find_all_str pattern text)

-- a pattern's matches are those of another one in each text of bytes
abbrev pub MatchesAs : Re → Re → Type 0
MatchesAs pattern other =
    (text : List ℕ) → ((k : ℕ) → slice_index text k < 256) → match_places pattern text ≡ match_places other text

-- a text that is a pattern: it is refused since memory ran out or for its size alone
abbrev pub IsPatternText : List ℕ → Type 0
IsPatternText source =
    (e : Error) → IsRefusal default_config source e → IsRightKind default_config source e → e ≢ Internal
    → (e ≡ OutOfMemory) ⊎ (e ≡ CompiledTooBig)

-- what the call answers then
abbrev pub IsPatternRefusal : MinusError → Type 0
IsPatternRefusal e = (e ≡ Memory) ⊎ (e ≡ SearchExpError (record { 0 = CompiledTooBig }))
