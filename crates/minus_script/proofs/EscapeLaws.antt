-- Escapes.
use Rattle.std.proofs.Common.{◌≡◌, ℕ, ◌+◌, ◌<◌, List, [], ◌∷◌, ◌++◌, length, Option, Some, None, false, eqb, refl, sym, arith, ◌∙◌, ap, inl, inr, Bool, suc, take, drop}
use Rattle.std.specs.List.{position_or_len, before_first, after_first}
use Rattle.std.specs.Option.{option_map, option_and_then}
use Rattle.std.proofs.lemmas.Bool.{cases_Bool, eqb-true}
use Rattle.std.proofs.lemmas.List.{append_assoc}
use Rattle.minus_script.specs.Escapes.{escape_byte, unescaped, split_escape_of}
use Rattle.minus_script.specs.Printed.{escaped, PrintedReadsBack}

-- the text behind a backslash
abbrev pub behind_backslash : Option (ℕ × List ℕ) → Option (List ℕ)
behind_backslash None = None
behind_backslash (Some x) = option_map (λ text. x.0 ∷ text) (unescaped x.1)

-- a byte that is no backslash stands for itself
pub unescaped-cons : (b : ℕ) (bytes : List ℕ) → eqb b 92 ≡ false → unescaped (b ∷ bytes) ≡ option_map (λ text. b ∷ text) (unescaped bytes)
unescaped-cons b [] h = rw h refl
unescaped-cons b (c ∷ bytes) h = rw h refl

behind_letter : (o : Option ℕ) (bytes : List ℕ) → option_and_then (λ e. option_map (λ text. e ∷ text) (unescaped bytes)) o ≡ option_map (λ text. [] ++ text) (behind_backslash (option_map (λ e. (e, bytes)) o))
behind_letter None bytes = refl
behind_letter (Some e) bytes = plain (option_map (λ text. e ∷ text) (unescaped bytes))
  where
    plain : (o : Option (List ℕ)) → o ≡ option_map (λ text. [] ++ text) o
    plain None = refl
    plain (Some t) = refl

onto_plain : (b : ℕ) (before : List ℕ) (o : Option (List ℕ)) → option_map (λ text. b ∷ text) (option_map (λ text. before ++ text) o) ≡ option_map (λ text. (b ∷ before) ++ text) o
onto_plain b before None = refl
onto_plain b before (Some t) = refl

-- whether a byte is a backslash
abbrev is_backslash : ℕ → Bool
is_backslash b = eqb b 92

further : (b : ℕ) (bytes : List ℕ) → eqb b 92 ≡ false → position_or_len is_backslash (b ∷ bytes) ≡ suc (position_or_len is_backslash bytes)
further b bytes h = rw h (omega arith)

further_before : (b : ℕ) (bytes : List ℕ) → eqb b 92 ≡ false → before_first is_backslash (b ∷ bytes) ≡ b ∷ before_first is_backslash bytes
further_before b bytes h = ap (λ n. take n (b ∷ bytes)) (further b bytes h)

further_after : (b : ℕ) (bytes : List ℕ) → eqb b 92 ≡ false → after_first is_backslash (b ∷ bytes) ≡ after_first is_backslash bytes
further_after b bytes h =
    let at : position_or_len is_backslash (b ∷ bytes) + 1 ≡ suc (position_or_len is_backslash bytes + 1) = omega (arith, further b bytes h) in
    ap (λ n. drop n (b ∷ bytes)) at

-- a text is what stands before its first backslash, and then what the backslash begins
pub unescaped-at : (bytes : List ℕ) → position_or_len (λ b. eqb b 92) bytes < length bytes → unescaped bytes ≡ option_map (λ text. before_first (λ b. eqb b 92) bytes ++ text) (behind_backslash (split_escape_of (after_first (λ b. eqb b 92) bytes)))
unescaped-at [] h = absurd (omega arith)
unescaped-at (b ∷ []) h = elim (cases_Bool (eqb b 92)) [
  | inl t ↦ rw t refl
  | inr f ↦ absurd (let k = rw f at h in omega arith)
]
unescaped-at (b ∷ c ∷ bytes) h = elim (cases_Bool (eqb b 92)) [
  | inl t ↦ rw t (behind_letter (escape_byte c) bytes)
  | inr f ↦
      let more = unescaped-at (c ∷ bytes) (omega (arith, further b (c ∷ bytes) f)) in
      unescaped-cons b (c ∷ bytes) f
      ∙ ap (λ o. option_map (λ text. b ∷ text) o) more
      ∙ onto_plain b (before_first is_backslash (c ∷ bytes)) (behind_backslash (split_escape_of (after_first is_backslash (c ∷ bytes))))
      ∙ ap (λ front. option_map (λ text. front ++ text) (behind_backslash (split_escape_of (after_first is_backslash (c ∷ bytes))))) (sym (further_before b (c ∷ bytes) f))
      ∙ ap (λ rest. option_map (λ text. before_first is_backslash (b ∷ c ∷ bytes) ++ text) (behind_backslash (split_escape_of rest))) (sym (further_after b (c ∷ bytes) f))
]

-- a text with no backslash stands for itself
pub unescaped-none : (bytes : List ℕ) → position_or_len (λ b. eqb b 92) bytes ≡ length bytes → unescaped bytes ≡ Some bytes
unescaped-none [] h = refl
unescaped-none (b ∷ bytes) h = elim (cases_Bool (eqb b 92)) [
  | inl t ↦ absurd (let k = rw t at h in omega arith)
  | inr f ↦ unescaped-cons b bytes f ∙ ap (λ o. option_map (λ text. b ∷ text) o) (unescaped-none bytes (omega (arith, further b bytes f)))
]

-- what is printed of a row reads back as the row
pub printed_reads_back : PrintedReadsBack
printed_reads_back [] = refl
printed_reads_back (b ∷ row) = elim (cases_Bool (eqb b 27)) [
  | inl t ↦ rw (t, eqb-true b 27 t, printed_reads_back row) refl
  | inr e ↦ elim (cases_Bool (eqb b 13)) [
    | inl t ↦ rw (e, t, eqb-true b 13 t, printed_reads_back row) refl
    | inr r ↦ elim (cases_Bool (eqb b 92)) [
      | inl t ↦ rw (e, r, t, eqb-true b 92 t, printed_reads_back row) refl
      | inr s ↦ rw (e, r, s) (unescaped-cons b (escaped row) s ∙ ap (λ o. option_map (λ text. b ∷ text) o) (printed_reads_back row))
    ]
  ]
]

onto_text : (xs ys : List ℕ) (e : ℕ) (o : Option (List ℕ)) → option_map (λ t. xs ++ t) (option_map (λ t. ys ++ t) (option_map (λ t. e ∷ t) o)) ≡ option_map (λ t. ((xs ++ ys) ++ e ∷ []) ++ t) o
onto_text xs ys e None = refl
onto_text xs ys e (Some t) = ap Some (sym (append_assoc (xs ++ ys) (e ∷ []) t ∙ append_assoc xs ys (e ∷ t)))

-- nothing in front
pub onto_nothing : (front : List ℕ) (o : Option (List ℕ)) → front ≡ [] → o ≡ option_map (λ t. front ++ t) o
onto_nothing front None h = refl
onto_nothing front (Some t) h = rw h refl

-- a front and a rest with an unknown or unfinished escape stand for no text
pub reads_no_escape : (written front rest : List ℕ) → unescaped written ≡ option_map (λ t. front ++ t) (unescaped rest) → position_or_len (λ b. eqb b 92) rest < length rest → split_escape_of (after_first (λ b. eqb b 92) rest) ≡ None → None ≡ unescaped written
reads_no_escape written front rest h at stop = sym (h ∙ rw (unescaped-at rest at, stop) refl)

-- past an escape
pub reads_escape : (written front rest more text : List ℕ) (e : ℕ) → unescaped written ≡ option_map (λ t. front ++ t) (unescaped rest) → position_or_len (λ b. eqb b 92) rest < length rest → split_escape_of (after_first (λ b. eqb b 92) rest) ≡ Some (e, more)
    → text ≡ (front ++ before_first (λ b. eqb b 92) rest) ++ e ∷ [] → unescaped written ≡ option_map (λ t. text ++ t) (unescaped more)
reads_escape written front rest more text e h at is all =
    h ∙ ap (λ o. option_map (λ t. front ++ t) o) (unescaped-at rest at ∙ ap (λ x. option_map (λ t. before_first is_backslash rest ++ t) (behind_backslash x)) is)
    ∙ onto_text front (before_first is_backslash rest) e (unescaped more)
    ∙ ap (λ l. option_map (λ t. l ++ t) (unescaped more)) (sym all)

-- a front and a rest with no backslash
pub reads_rest : (written front rest : List ℕ) → unescaped written ≡ option_map (λ t. front ++ t) (unescaped rest) → position_or_len (λ b. eqb b 92) rest ≡ length rest → Some (front ++ rest) ≡ unescaped written
reads_rest written front rest h none = sym (h ∙ ap (λ o. option_map (λ t. front ++ t) o) (unescaped-none rest none))
