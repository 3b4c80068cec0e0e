-- What a text describes, by the rules of its segments, and why it describes nothing.
use Rattle.std.specs.Prelude.{ℕ, ◌≡◌, ◌<◌, ◌==◌, ◌⊎◌, List, [], ◌∷◌, ◌++◌, length, Bool, not, ◌&&◌, IsTrue, Option}
use Rattle.std.specs.Prelude.{None, Some, IsSome, is_none, unwrap_or, if◌then◌else◌}
use Rattle.std.specs.Int.RustNames.{bit_or}
use Rattle.std.specs.List.{Contains, filter, filter_map, fold}
use Rattle.std.specs.Str.{IsAscii, IsNotAscii, trim}
use Rattle.minus_term.specs.declared.error.DescriptionError.{DescriptionError}
use Rattle.minus_term.specs.declared.error.DescriptionError.TheVariants.{NotAscii, Empty, EmptySegment}
use Rattle.minus_term.specs.declared.error.DescriptionError.TheVariants.{RepeatedModifier, UnknownName, SecondKey}
use Rattle.minus_term.specs.declared.error.DescriptionError.TheVariants.{NoAction}
use Rattle.minus_term.specs.declared.event.KeyCode.{KeyCode}
use Rattle.minus_term.specs.declared.event.KeyCode.TheVariants.{Null}
use Rattle.minus_term.specs.declared.event.KeyEvent.{KeyEvent}
use Rattle.minus_term.specs.declared.event.KeyEventKind.TheVariants.{Press}
use Rattle.minus_term.specs.declared.event.MouseEvent.{MouseEvent}
use Rattle.minus_input.specs.Names.{modifier_letter, key_named, action_named}
use Rattle.minus_input.specs.Segments.{segments, leading, last_segment}

-- A modifier segment is the letter of a modifier, and a dash follows it: it is a leading segment.

-- each modifier at most once: no modifier segment stands among those before it
abbrev pub EachModifierOnce : List (List ℕ) → Type 0
EachModifierOnce leads =
    (before after : List (List ℕ)) (segment : List ℕ) → leads ≡ before ++ segment ∷ after →
    IsSome (modifier_letter segment) → Contains before segment → ⊥

-- an empty segment that is neither first nor last stands right after a modifier segment
abbrev pub EmptiesFollowModifiers : List (List ℕ) → Type 0
EmptiesFollowModifiers leads =
    (before after : List (List ℕ)) (previous : List ℕ) → leads ≡ before ++ previous ∷ [] ∷ after →
    IsSome (modifier_letter previous)

-- whether a leading segment is neither empty nor a modifier
abbrev pub is_other : List ℕ → Bool
is_other segment = not (length segment == 0) && is_none (modifier_letter segment)

-- the segments that are neither empty nor modifiers
abbrev pub others : List (List ℕ) → List ℕ → List (List ℕ)
others leads last = filter is_other leads ++ (if length last == 0 then [] else last ∷ [])

-- at most one such segment, and it names the code
abbrev pub IsCode : {C : Type 0} → (List ℕ → Option C) → List (List ℕ) → Option C → Type 0
IsCode named [] code = code ≡ None
IsCode named (name ∷ []) code = (code ≡ named name) × IsSome (named name)
IsCode named (name ∷ second ∷ more) code = ⊥

-- the rules for some modifiers and a code, by what a segment names
pub record IsReading {C : Type 0} (named : List ℕ → Option C) (leads : List (List ℕ)) (last : List ℕ) (bits : ℕ)
    (code : Option C) : Type 0 where
  pub once : EachModifierOnce leads
  pub empties : EmptiesFollowModifiers leads
  pub modifiers : bits ≡ fold bit_or 0 (filter_map modifier_letter leads)
  pub names : IsCode named (others leads last) code

-- the rules for the segments of a text, which is read without white space at its ends
abbrev pub Reads : {C : Type 0} → (List ℕ → Option C) → List ℕ → ℕ → Option C → Type 0
Reads named text bits code =
    IsReading named (leading (segments (trim text))) (last_segment (segments (trim text))) bits code

-- a text describes a key: without a code it is Null
pub record DescribesKey (text : List ℕ) (key : KeyEvent) : Type 0 where
  pub ascii : IsAscii text
  pub some : 0 < length (trim text)
  pub reads : (code : Option KeyCode) × Reads key_named text key.modifiers.0 code × (key.code ≡ unwrap_or code Null)
  pub kind : key.kind ≡ Press
  pub state : key.state.0 ≡ 0

-- a text describes an action of the mouse
pub record DescribesMouse (text : List ℕ) (mouse : MouseEvent) : Type 0 where
  pub ascii : IsAscii text
  pub some : 0 < length (trim text)
  pub reads : Reads action_named text mouse.modifiers.0 (Some mouse.kind)
  pub column : mouse.column ≡ 0
  pub row : mouse.row ≡ 0

-- a leading segment is at fault, after those before it
abbrev pub LeadingFault : {C : Type 0} → (List ℕ → Option C) → List (List ℕ) → List ℕ → DescriptionError → Type 0
LeadingFault named before segment EmptySegment =
    (segment ≡ []) × (front : List (List ℕ)) × (previous : List ℕ) × (before ≡ front ++ previous ∷ [])
    × (modifier_letter previous ≡ None)
LeadingFault named before segment RepeatedModifier = IsSome (modifier_letter segment) × Contains before segment
LeadingFault named before segment UnknownName = IsTrue (is_other segment) × (named segment ≡ None)
LeadingFault named before segment SecondKey =
    IsTrue (is_other segment) × IsSome (named segment) × (0 < length (filter is_other before))
LeadingFault named before segment NotAscii = ⊥
LeadingFault named before segment Empty = ⊥
LeadingFault named before segment NoAction = ⊥

-- the last segment is at fault: what stands there is a name
abbrev pub LastFault : {C : Type 0} → (List ℕ → Option C) → List (List ℕ) → List ℕ → DescriptionError → Type 0
LastFault named leads last UnknownName = (0 < length last) × (named last ≡ None)
LastFault named leads last SecondKey = (0 < length last) × IsSome (named last) × (0 < length (filter is_other leads))
LastFault named leads last other = ⊥

-- no leading segment is at fault
abbrev pub IsFaultless : {C : Type 0} → (List ℕ → Option C) → List (List ℕ) → Type 0
IsFaultless {C} named leads =
    (before after : List (List ℕ)) (segment : List ℕ) (error : DescriptionError) → leads ≡ before ++ segment ∷ after →
    LeadingFault named before segment error → ⊥

-- the first leading segment that is at fault
pub record FirstFault {C : Type 0} (named : List ℕ → Option C) (leads : List (List ℕ))
    (error : DescriptionError) : Type 0 where
  pub before : List (List ℕ)
  pub segment : List ℕ
  pub after : List (List ℕ)
  pub is : leads ≡ before ++ segment ∷ after
  pub faultless : IsFaultless named before
  pub fault : LeadingFault named before segment error

-- the first segment from the left that is at fault
abbrev pub SegmentFault : {C : Type 0} → (List ℕ → Option C) → List (List ℕ) → List ℕ → DescriptionError → Type 0
SegmentFault named leads last error =
    FirstFault named leads error ⊎ (IsFaultless named leads × LastFault named leads last error)

-- and that of a text
abbrev pub TextFault : {C : Type 0} → (List ℕ → Option C) → List ℕ → DescriptionError → Type 0
TextFault named text error =
    IsAscii text × (0 < length (trim text))
    × SegmentFault named (leading (segments (trim text))) (last_segment (segments (trim text))) error

-- why a text describes no key: the first that holds
abbrev pub KeyFault : List ℕ → DescriptionError → Type 0
KeyFault text NotAscii = IsNotAscii text
KeyFault text Empty = IsAscii text × (trim text ≡ [])
KeyFault text error = TextFault key_named text error

-- why a text describes no action of the mouse: the first that holds; last, that no rule is broken and no action there
abbrev pub MouseFault : List ℕ → DescriptionError → Type 0
MouseFault text NotAscii = IsNotAscii text
MouseFault text Empty = IsAscii text × (trim text ≡ [])
MouseFault text NoAction = IsAscii text × (0 < length (trim text)) × (bits : ℕ) × Reads action_named text bits None
MouseFault text error = TextFault action_named text error

-- a text has one meaning: it describes one event, or there is one error that says why it describes none
pub record HasOneMeaning {D : Type 0} (Describes : D → Type 0) (Fault : DescriptionError → Type 0) : Type 0 where
  pub one_event : (a b : D) → Describes a → Describes b → a ≡ b
  pub one_error : (a b : DescriptionError) → Fault a → Fault b → a ≡ b
  pub never_both : (a : D) (b : DescriptionError) → Describes a → Fault b → ⊥
  pub one_of_both : ((a : D) × Describes a) ⊎ ((b : DescriptionError) × Fault b)

-- the law for all texts
abbrev pub EachTextHasOneMeaning : Type 0
EachTextHasOneMeaning =
    (text : List ℕ)
    → HasOneMeaning (DescribesKey text) (KeyFault text) × HasOneMeaning (DescribesMouse text) (MouseFault text)
