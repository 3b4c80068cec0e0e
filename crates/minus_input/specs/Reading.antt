-- Segments read one by one, from the left.
use Rattle.std.specs.Prelude.{ℕ, ◌==◌, List, [], ◌∷◌, true, false, Option, None, Some, Result, Ok, Err, length}
use Rattle.std.specs.Prelude.{if◌then◌else◌}
use Rattle.std.specs.Int.RustNames.{bit_and, bit_or}
use Rattle.minus_term.specs.declared.error.DescriptionError.{DescriptionError}
use Rattle.minus_term.specs.declared.error.DescriptionError.TheVariants.{EmptySegment, RepeatedModifier, UnknownName}
use Rattle.minus_term.specs.declared.error.DescriptionError.TheVariants.{SecondKey}
use Rattle.minus_input.specs.declared.key_seq.KeySeq.{KeySeq}
use Rattle.minus_input.specs.Names.{modifier_letter}

-- nothing is read
abbrev pub beginning : {C : Type 0} → KeySeq C
beginning = record { modifiers = record { 0 = 0 }; code = None; may_be_empty = true }

-- a segment that names a code, or nothing, is read after a code that was, or was not, there before
abbrev pub name_read : {C : Type 0} → KeySeq C → Option C → Option C → Result (KeySeq C) DescriptionError
name_read seq None before = Err UnknownName
name_read seq (Some code) (Some before) = Err SecondKey
name_read seq (Some code) None = Ok (record { modifiers = seq.modifiers; code = Some code; may_be_empty = false })

-- a segment is read that is neither empty nor a modifier
abbrev pub read_action : {C : Type 0} → (List ℕ → Option C) → KeySeq C → List ℕ → Result (KeySeq C) DescriptionError
read_action named seq segment = name_read seq (named segment) seq.code

-- a segment that may be a modifier is read
abbrev pub read_modifier : {C : Type 0} → (List ℕ → Option C) → KeySeq C → List ℕ → Option ℕ
    → Result (KeySeq C) DescriptionError
read_modifier named seq segment None = read_action named seq segment
read_modifier named seq segment (Some bit) =
    if bit_and seq.modifiers.0 bit == bit then Err RepeatedModifier
    else Ok (record { modifiers = record { 0 = bit_or seq.modifiers.0 bit }; code = seq.code; may_be_empty = true })

-- an empty segment is read
abbrev pub read_empty : {C : Type 0} → KeySeq C → Result (KeySeq C) DescriptionError
read_empty seq =
    if seq.may_be_empty then Ok (record { modifiers = seq.modifiers; code = seq.code; may_be_empty = false })
    else Err EmptySegment

-- a segment is read that a dash follows
abbrev pub read_leading : {C : Type 0} → (List ℕ → Option C) → KeySeq C → List ℕ → Result (KeySeq C) DescriptionError
read_leading named seq segment =
    if length segment == 0 then read_empty seq else read_modifier named seq segment (modifier_letter segment)

-- the last segment is read
abbrev pub read_last : {C : Type 0} → (List ℕ → Option C) → KeySeq C → List ℕ → Result (KeySeq C) DescriptionError
read_last named seq segment = if length segment == 0 then Ok seq else read_action named seq segment

-- what follows is read, unless there was an error
abbrev pub then_read : {A B : Type 0} → Result A DescriptionError → (A → Result B DescriptionError)
    → Result B DescriptionError
then_read (Ok a) rest = rest a
then_read (Err e) rest = Err e

-- all segments are read
abbrev pub read_segments : {C : Type 0} → (List ℕ → Option C) → KeySeq C → List (List ℕ)
    → Result (KeySeq C) DescriptionError
read_segments named seq [] = Ok seq
read_segments named seq (last ∷ []) = read_last named seq last
read_segments named seq (segment ∷ next ∷ more) =
    then_read (read_leading named seq segment) (λ read. read_segments named read (next ∷ more))
