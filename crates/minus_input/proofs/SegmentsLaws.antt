-- The segments of a text, and how they are read.
use Rattle.std.proofs.Common.{◌≡◌, ℕ, ◌<◌, List, [], ◌∷◌, length, Option, Ok, Err, eqb, refl, arith, ◌∙◌, ap, inl, inr}
use Rattle.std.specs.List.{position_or_len, before_first, after_first, onto_first}
use Rattle.std.proofs.lemmas.Bool.{cases_Bool}
use Rattle.std.proofs.lemmas.List.Splits.{slice_split_first, length-slice_split}
use Rattle.minus_term.specs.declared.error.DescriptionError.{DescriptionError}
use Rattle.minus_input.specs.declared.key_seq.KeySeq.{KeySeq}
use Rattle.minus_input.specs.Segments.{is_dash, segments}
use Rattle.minus_input.specs.Reading.{read_leading, read_segments, then_read}

-- the first segment ends before the first dash
pub segments-at : (text : List ℕ) → position_or_len is_dash text < length text → segments text ≡ before_first is_dash text ∷ segments (after_first is_dash text)
segments-at text h = slice_split_first is_dash text 0 h

-- a text with no dash is one segment
pub segments-none : (text : List ℕ) → position_or_len is_dash text ≡ length text → segments text ≡ text ∷ []
segments-none [] h = refl
segments-none (b ∷ text) h = elim (cases_Bool (eqb b 45)) [
  | inl t ↦ absurd (let k = rw t at h in omega arith)
  | inr f ↦ let k = rw f at h in rw f (ap (onto_first b) (segments-none text (omega arith)))
]

-- a segment that others follow is a leading one
read_more : {C : Type 0} (named : List ℕ → Option C) (seq : KeySeq C) (segment : List ℕ) (rest : List (List ℕ)) → 0 < length rest →
    read_segments named seq (segment ∷ rest) ≡ then_read (read_leading named seq segment) (λ read. read_segments named read rest)
read_more named seq segment [] some = absurd (omega arith)
read_more named seq segment (next ∷ more) some = refl

-- what is read of a text that begins with a segment and a dash
pub read_first : {C : Type 0} (named : List ℕ → Option C) (seq : KeySeq C) (text : List ℕ) → position_or_len is_dash text < length text →
    read_segments named seq (segments text) ≡ then_read (read_leading named seq (before_first is_dash text)) (λ read. read_segments named read (segments (after_first is_dash text)))
read_first named seq text h =
    ap (read_segments named seq) (segments-at text h)
    ∙ read_more named seq (before_first is_dash text) (segments (after_first is_dash text)) (omega (arith, length-slice_split is_dash (after_first is_dash text)))

-- a first segment is read, and the rest is what stands after its dash
pub read_ok : {C : Type 0} (named : List ℕ → Option C) (seq next : KeySeq C) (text segment more : List ℕ) →
    position_or_len is_dash text < length text → segment ≡ before_first is_dash text → more ≡ after_first is_dash text → Ok next ≡ read_leading named seq segment →
    read_segments named seq (segments text) ≡ read_segments named next (segments more)
read_ok named seq next text segment more h is rest e =
    let e2 : Ok next ≡ read_leading named seq (before_first is_dash text) = rw is at e in
    read_first named seq text h ∙ (rw (← e2, rest) refl)

-- a first segment is at fault
pub read_err : {C : Type 0} (named : List ℕ → Option C) (seq : KeySeq C) (text segment : List ℕ) (error : DescriptionError) →
    position_or_len is_dash text < length text → segment ≡ before_first is_dash text → Err error ≡ read_leading named seq segment →
    read_segments named seq (segments text) ≡ Err error
read_err named seq text segment error h is e =
    let e2 : Err error ≡ read_leading named seq (before_first is_dash text) = rw is at e in
    read_first named seq text h ∙ (rw (← e2) refl)
