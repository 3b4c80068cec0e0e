-- The texts of the fixed patterns are patterns, and mean what is written out.
use Rattle.std.proofs.Common.{Bool, ◌||◌, ◌==◌, ap₂, subst, codes, ◌≡◌, ℕ, zero, suc, ◌<◌, ◌≤◌, true, false, List, [], ◌∷◌, Option, None, Some, IsSomeAnd, IfSome, refl, sym, inl, inr, ⊎_elim, arith, lit≤}
use Rattle.std.proofs.lemmas.Bool.Decides.{nat_tests}
use Rattle.std.specs.Str.{chars}
use Rattle.std.specs.List.{list_any}
use Rattle.std.specs.Int.{is_in_range}
use Rattle.regex_hir.specs.Meaning.{up_to}
use Rattle.regex.specs.Patterns.{Re, empty, literal, char_in, byte_in, cat, alt, group, plus, optional, repeat, members, is_word_char, in_range, in_ranges, HasExactly, Refuses, default_config}
use Rattle.regex.specs.Strings.{regex_pattern}
use Rattle.regex.specs.declared.string.regex.Regex.{Regex}
use Rattle.regex.specs.declared.error.Error.TheVariants.{Syntax, CompiledTooBig, Internal, OutOfMemory}
use Rattle.regex.proofs.OnLiterals.{regex_on_literals, IsReadAs, class_is, same_plus, same_refl, ◌then◌, cat_cong, alt_cong, same_group, cat-empty, alt-fail}
use Rattle.regex.proofs.ForCallers.{alike_as_written, spans_alike}
use Rattle.regex_syntax.specs.Same.{SameTree}
use Rattle.regex_syntax.specs.Grammar.{Names, read}
use Rattle.minus_text.specs.FixedPatterns.{escape_source, word_source, digit, later_number, numbers, escape_sequence, word_character, no_word_character, query_word, IsBuiltOf, IsPatternText, MatchesAs}

-- one of some sets has the character
abbrev one_of_sets : List (ℕ → Bool) → ℕ → Bool
one_of_sets sets c = list_any (λ set. set c) sets

abbrev introducers : ℕ → Bool
introducers = one_of_sets ((λ c. c == 27) ∷ (λ c. c == 155) ∷ [])

abbrev mark_set : ℕ → Bool
mark_set = one_of_sets ((λ c. c == 40) ∷ (λ c. c == 41) ∷ (λ c. c == 35) ∷ (λ c. c == 59) ∷ (λ c. c == 63) ∷ [])

abbrev digit_set : ℕ → Bool
digit_set = one_of_sets (is_in_range 48 57 ∷ [])

abbrev finals : ℕ → Bool
finals = one_of_sets (is_in_range 48 57 ∷ is_in_range 65 79 ∷ (λ c. c == 82) ∷ (λ c. c == 90) ∷ (λ c. c == 99) ∷ is_in_range 102 110 ∷ (λ c. c == 113) ∷ (λ c. c == 114) ∷ (λ c. c == 121) ∷ (λ c. c == 61) ∷ (λ c. c == 62) ∷ (λ c. c == 60) ∷ [])

-- what the grammar reads, part by part
abbrev later_read : Re
later_read = alt (cat (literal (codes ";")) (cat (repeat 0 (Some 4) true (char_in (members digit_set))) empty)) (byte_in [])

abbrev numbers_read : Re
numbers_read = alt (cat (repeat 1 (Some 4) true (char_in (members digit_set))) (cat (repeat 0 None true later_read) empty)) (byte_in [])

abbrev sequence_read : Re
sequence_read =
    alt (cat (char_in (members introducers)) (cat (literal (codes "[")) (cat (repeat 0 None true (char_in (members mark_set)))
    (cat (repeat 0 (Some 1) true numbers_read) (cat (char_in (members finals)) empty))))) (byte_in [])

abbrev no_names : Names
no_names = None ∷ []

escape_is : read default_config (chars escape_source) ≡ Some (record { value = sequence_read; depth = 9 }, no_names)
unfolding regex_on_literals
escape_is = refl

single_is : (n c : ℕ) → in_range (n, n) c ≡ (c == n)
unfolding in_range
single_is n c = grind (arith, nat_tests)

range_is : (m n c : ℕ) → in_range (m, n) c ≡ is_in_range m n c
unfolding in_range
range_is m n c = grind (arith, nat_tests)

or_is : {a b c d : Bool} → a ≡ b → c ≡ d → (a || c) ≡ (b || d)
or_is p q = ap₂ ◌||◌ p q

introducers_are : HasExactly ((27, 27) ∷ (155, 155) ∷ []) introducers
unfolding in_ranges
introducers_are c le = or_is (single_is 27 c) (or_is (single_is 155 c) refl)

marks_are : HasExactly ((40, 40) ∷ (41, 41) ∷ (35, 35) ∷ (59, 59) ∷ (63, 63) ∷ []) mark_set
unfolding in_ranges
marks_are c le = or_is (single_is 40 c) (or_is (single_is 41 c) (or_is (single_is 35 c) (or_is (single_is 59 c) (or_is (single_is 63 c) refl))))

digits_are : HasExactly ((48, 57) ∷ []) digit_set
unfolding in_ranges
digits_are c le = or_is (range_is 48 57 c) refl

finals_are : HasExactly ((48, 57) ∷ (65, 79) ∷ (82, 82) ∷ (90, 90) ∷ (99, 99) ∷ (102, 110) ∷ (113, 113) ∷ (114, 114) ∷ (121, 121) ∷ (61, 61) ∷ (62, 62) ∷ (60, 60) ∷ []) finals
unfolding in_ranges
finals_are c le =
    or_is (range_is 48 57 c) (or_is (range_is 65 79 c) (or_is (single_is 82 c) (or_is (single_is 90 c) (or_is (single_is 99 c) (or_is (range_is 102 110 c)
    (or_is (single_is 113 c) (or_is (single_is 114 c) (or_is (single_is 121 c) (or_is (single_is 61 c) (or_is (single_is 62 c) (or_is (single_is 60 c) refl)))))))))))

up_to_cong : (n : ℕ) {a b : Re} → SameTree a b → SameTree (up_to true n a) (up_to true n b)
up_to_cong zero p = same_refl empty
up_to_cong (suc n) p = alt_cong (cat_cong p (up_to_cong n p)) (same_refl empty)

star_cong : {a b : Re} → SameTree a b → SameTree (repeat 0 None true a) (repeat 0 None true b)
unfolding repeat
star_cong p = alt_cong (same_plus true p) (same_refl empty)

most_four_cong : {a b : Re} → SameTree a b → SameTree (repeat 0 (Some 4) true a) (repeat 0 (Some 4) true b)
unfolding repeat
most_four_cong p = up_to_cong 4 p

some_four_cong : {a b : Re} → SameTree a b → SameTree (repeat 1 (Some 4) true a) (repeat 1 (Some 4) true b)
unfolding repeat
some_four_cong p = cat_cong p (up_to_cong 3 p)

optional_cong : {a b : Re} → SameTree a b → SameTree (repeat 0 (Some 1) true a) (optional true b)
unfolding repeat
optional_cong {a} p = alt_cong (cat-empty a then p) (same_refl empty)

digit_same : SameTree (char_in (members digit_set)) digit
digit_same = class_is digit_set _ digits_are

later_same : SameTree later_read later_number
later_same = alt-fail _ then cat_cong (same_refl _) (cat-empty _ then most_four_cong digit_same)

numbers_same : SameTree numbers_read numbers
numbers_same = alt-fail _ then cat_cong (some_four_cong digit_same) (cat-empty _ then star_cong later_same)

sequence_same : SameTree sequence_read escape_sequence
unfolding escape_sequence
sequence_same =
    alt-fail _ then cat_cong (class_is introducers _ introducers_are) (cat_cong (same_refl _) (cat_cong (star_cong (class_is mark_set _ marks_are))
    (cat_cong (optional_cong numbers_same) (cat-empty _ then class_is finals _ finals_are))))

-- ---- the words of a query

abbrev word_set : ℕ → Bool
word_set = one_of_sets (is_word_char ∷ (λ c. c == 95) ∷ [])

abbrev mark_of_query : ℕ → Bool
mark_of_query = one_of_sets ((λ c. c == 45) ∷ (λ c. c == 63) ∷ (λ c. c == 126) ∷ (λ c. c == 64) ∷ (λ c. c == 35) ∷ (λ c. c == 33) ∷ (λ c. c == 36) ∷ (λ c. c == 37) ∷ (λ c. c == 94) ∷ (λ c. c == 38) ∷ (λ c. c == 42) ∷ (λ c. c == 40) ∷ is_in_range 41 43 ∷ (λ c. c == 61) ∷ (λ c. c == 123) ∷ (λ c. c == 125) ∷ (λ c. c == 91) ∷ (λ c. c == 93) ∷ (λ c. c == 58) ∷ (λ c. c == 59) ∷ (λ c. c == 92) ∷ (λ c. c == 124) ∷ (λ c. c == 39) ∷ (λ c. c == 47) ∷ (λ c. c == 63) ∷ (λ c. c == 60) ∷ (λ c. c == 62) ∷ (λ c. c == 46) ∷ (λ c. c == 44) ∷ (λ c. c == 34) ∷ [])

abbrev word_read : Re
word_read =
    alt (cat (group 1 (alt (cat (repeat 1 None true (char_in (members word_set))) empty) (byte_in []))) empty)
    (alt (cat (group 2 (alt (cat (repeat 1 None true (char_in (members mark_of_query))) empty) (byte_in []))) empty)
    (alt (cat (char_in (members no_word_character)) empty) (byte_in [])))

word_is : read default_config (chars word_source) ≡ Some (record { value = word_read; depth = 5 }, None ∷ None ∷ None ∷ [])
unfolding regex_on_literals
word_is = refl

punctuation_is : HasExactly ((45, 45) ∷ (63, 63) ∷ (126, 126) ∷ (64, 64) ∷ (35, 35) ∷ (33, 33) ∷ (36, 36) ∷ (37, 37) ∷ (94, 94) ∷ (38, 38) ∷ (42, 42) ∷ (40, 40) ∷ (41, 43) ∷ (61, 61) ∷ (123, 123) ∷ (125, 125) ∷ (91, 91) ∷ (93, 93) ∷ (58, 58) ∷ (59, 59) ∷ (92, 92) ∷ (124, 124) ∷ (39, 39) ∷ (47, 47) ∷ (63, 63) ∷ (60, 60) ∷ (62, 62) ∷ (46, 46) ∷ (44, 44) ∷ (34, 34) ∷ []) mark_of_query
unfolding in_ranges
punctuation_is c le = or_is (single_is 45 c) (or_is (single_is 63 c) (or_is (single_is 126 c) (or_is (single_is 64 c) (or_is (single_is 35 c) (or_is (single_is 33 c) (or_is (single_is 36 c) (or_is (single_is 37 c) (or_is (single_is 94 c) (or_is (single_is 38 c) (or_is (single_is 42 c) (or_is (single_is 40 c) (or_is (range_is 41 43 c) (or_is (single_is 61 c) (or_is (single_is 123 c) (or_is (single_is 125 c) (or_is (single_is 91 c) (or_is (single_is 93 c) (or_is (single_is 58 c) (or_is (single_is 59 c) (or_is (single_is 92 c) (or_is (single_is 124 c) (or_is (single_is 39 c) (or_is (single_is 47 c) (or_is (single_is 63 c) (or_is (single_is 60 c) (or_is (single_is 62 c) (or_is (single_is 46 c) (or_is (single_is 44 c) (or_is (single_is 34 c) (refl))))))))))))))))))))))))))))))

or_none : (b : Bool) → (b || false) ≡ b
or_none true = refl
or_none false = refl

word_sets : word_set ≡ word_character
word_sets = λ i. λ c. (is_word_char c || or_none (c == 95) i)

words_same : SameTree (char_in (members word_set)) (char_in (members word_character))
words_same = subst (λ s. SameTree (char_in (members word_set)) (char_in (members s))) word_sets (same_refl _)

some_same : {a b : Re} → SameTree a b → SameTree (repeat 1 None true a) (plus true b)
unfolding repeat
some_same p = same_plus true p

word_same : SameTree word_read query_word
unfolding query_word
word_same =
    alt_cong (cat-empty _ then same_group 1 (alt-fail _ then cat-empty _ then some_same words_same))
    (alt_cong (cat-empty _ then same_group 2 (alt-fail _ then cat-empty _ then some_same (class_is mark_of_query _ punctuation_is))) (alt-fail _ then cat-empty _))

word_as_read : IsReadAs default_config word_source query_word
word_as_read = subst (λ o. IsSomeAnd o (λ (found, _). SameTree found.value query_word)) (sym word_is) word_same

escape_read : IsReadAs default_config escape_source escape_sequence
escape_read = subst (λ o. IsSomeAnd o (λ (found, _). SameTree found.value escape_sequence)) (sym escape_is) sequence_same

-- the matches of what is built of a text are those of what is read in it
as_written : (r : Regex) (source : List ℕ) (re : Re) → IsBuiltOf source r → IsReadAs default_config source re → MatchesAs (regex_pattern r) re
as_written r source re built read text bytes =
    spans_alike (alike_as_written r default_config source built.source_is built.options built.read re read) text bytes true

pub word_as_written : (r : Regex) → IsBuiltOf word_source r → MatchesAs (regex_pattern r) query_word
word_as_written r built = as_written r word_source query_word built word_as_read

pub escape_as_written : (r : Regex) → IsBuiltOf escape_source r → MatchesAs (regex_pattern r) escape_sequence
escape_as_written r built = as_written r escape_source escape_sequence built escape_read

abbrev readable : List ℕ → Type 0
readable source = IsSomeAnd (read default_config (chars source)) (λ (re, _). re.depth ≤ 250)

refused_none : {A : Type 0} (o : Option A) (P : A → Type 0) → IsSomeAnd o P → ¬ (o ≡ None)
refused_none None P h e = h
refused_none (Some x) P h e = absurd cc

too_deep : {A : Type 0} (o : Option A) (f : A → ℕ) (n : ℕ) → IsSomeAnd o (λ x. f x ≤ n) → IfSome o (λ x. n < f x) → ⊥
too_deep None f n h d = h
too_deep (Some x) f n h d = absurd (omega (arith, h, d))

-- a text that the grammar reads is refused for no fault of its own
pattern_text : (source : List ℕ) → readable source → IsPatternText source
unfolding Refuses
pattern_text source h (Syntax e) refused kind no_internal = ⊎_elim
    (λ memory. absurd (kind memory))
    (λ other. ⊎_elim
    (λ none. absurd (refused_none (read default_config (chars source)) _ h none))
    (λ deep. absurd (too_deep (read default_config (chars source)) (λ x. x.0.depth) 250 h deep.1))
    other)
    (refused e refl)
pattern_text source h CompiledTooBig refused kind no_internal = inr refl
pattern_text source h Internal refused kind no_internal = absurd (no_internal refl)
pattern_text source h OutOfMemory refused kind no_internal = inl refl

escape_readable : readable escape_source
escape_readable = subst (λ o. IsSomeAnd o (λ (found, _). found.depth ≤ 250)) (sym escape_is) (lit≤ tt)

word_readable : readable word_source
unfolding regex_on_literals
word_readable = let few : 5 ≤ 250 = lit≤ tt in few

pub escape_pattern_text : IsPatternText escape_source
escape_pattern_text = pattern_text escape_source escape_readable

pub word_pattern_text : IsPatternText word_source
word_pattern_text = pattern_text word_source word_readable
