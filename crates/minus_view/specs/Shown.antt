-- What a shown text is: characters that are no control characters, newlines, and sequences `ESC [ digits, : and ; m`,
-- each whole. No line ends, and neither does the text, where a style is open. A text is here the list of its
-- characters.
use Rattle.std.specs.Prelude.{ℕ, ◌≡◌, chars, ◌==◌, ◌&&◌, ◌||◌, Bool, true, false, not, List, [], ◌∷◌, ◌++◌, Option}
use Rattle.std.specs.Prelude.{Some, None, if◌then◌else◌, option_and_then}
use Rattle.std.specs.Str.{IsUtf8}
use Rattle.std.specs.Int.{is_in_range}
use Rattle.minus_view.specs.declared.shown.Spot.{Spot}
use Rattle.minus_view.specs.declared.shown.Spot.TheVariants.{Line, Escape, Numbers}

-- below 0x20, 0x7F, and U+0080 to U+009F
abbrev pub is_control : ℕ → Bool
is_control c = is_in_range 0 0x1F c || is_in_range 0x7F 0x9F c

-- in a line: `ESC` begins a sequence, and a newline stands only where no style is open
abbrev pub in_line : Bool → ℕ → Option Spot
in_line styled c =
    if c == 27 then Some Escape
    else (if c == 10 then (if styled then None else Some (Line false))
    else (if is_control c then None else Some (Line styled)))

-- in the numbers of a sequence: `m` ends it, and it resets all styles where it had zeros alone, or nothing
abbrev pub in_numbers : Bool → ℕ → Option Spot
in_numbers resets c =
    if c == 109 then Some (Line (not resets))
    else (if is_in_range 48 59 c then Some (Numbers (resets && (c == 48))) else None)

-- behind one character more
abbrev pub step : Spot → ℕ → Option Spot
step (Line styled) c = in_line styled c
step Escape c = if c == 91 then Some (Numbers true) else None
step (Numbers resets) c = in_numbers resets c

-- behind a whole text
abbrev pub read : List ℕ → Option Spot → Option Spot
read [] at = at
read (c ∷ cs) at = read cs (option_and_then (λ spot. step spot c) at)

-- these bytes spell a shown text
abbrev pub IsShown : List ℕ → Type 0
IsShown bytes = read (chars bytes) (Some (Line false)) ≡ Some (Line false)

-- no text is one, and one behind another is one
abbrev pub ShownTextsJoin : Type 0
ShownTextsJoin =
    IsShown []
    × ((first second : List ℕ) → IsUtf8 first → IsShown first → IsShown second → IsShown (first ++ second))

-- whether a character is allowed in a text whose only control characters are newlines and `ESC`s that a `[` follows;
-- `escaped` says that an `ESC` stands right before it
abbrev pub follows : ℕ → Bool → Bool
follows c escaped = if escaped then c == 91 else (not (is_control c) || (c == 10) || (c == 27))

-- whether a text, right behind an `ESC` if `escaped`, has no control characters but
-- newlines and `ESC`s that a `[` follows
abbrev pub is_clean : Bool → List ℕ → Bool
is_clean escaped [] = not escaped
is_clean escaped (c ∷ cs) = follows c escaped && is_clean (c == 27) cs

-- a shown text has no control characters but newlines and `ESC`s that a `[` follows
abbrev pub ShownTextsAreClean : Type 0
ShownTextsAreClean = (bytes : List ℕ) → IsShown bytes → is_clean false (chars bytes) ≡ true

-- a printed ASCII character; or a newline, where these are allowed
abbrev pub is_plain : Bool → ℕ → Bool
is_plain newlines b = is_in_range 0x20 0x7E b || (newlines && (b == 10))

-- a text that leads from a line, in which a style is open or not, to a place in a line, was added
-- to a text, and a style is open then or not
abbrev pub PutsLine : (text : List ℕ) → (was : Bool) → (before after : List ℕ) → (styled : Bool) → Type 0
PutsLine text was before after styled =
    (s : Bool) → read (chars text) (Some (Line was)) ≡ Some (Line s) → (after ≡ before ++ text) × (styled ≡ s)
