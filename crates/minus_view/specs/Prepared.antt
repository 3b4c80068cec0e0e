-- What of a text was read and is not handed out yet, and when a text is handed out as it is.
use Rattle.std.specs.Prelude.{ℕ, ◌≡◌, ◌+◌, ◌%◌, ◌<◌, ◌==◌, ◌||◌, Bool, true, false, List, [], ◌∷◌, ◌++◌, Option}
use Rattle.std.specs.Prelude.{Some, None, string_bytes, encode_utf8, drop, unwrap_or, if◌then◌else◌}
use Rattle.std.specs.List.{list_all}
use Rattle.unicode_width.specs.Width.{char_width}
use Rattle.minus_view.specs.declared.look.Glyph.{Glyph}
use Rattle.minus_view.specs.declared.look.Look.TheVariants.{Plain}
use Rattle.minus_view.specs.declared.prepare.Place.TheVariants.{Text}
use Rattle.minus_view.specs.declared.prepare.Preparation.{Preparation}
use Rattle.minus_view.specs.Shown.{is_control, is_plain}
use Rattle.minus_view.specs.TabColumns.{apart, column_after, next_column, tab_len}
use Rattle.minus_view.specs.TabMarks.{tab_text, tab_places, unmarked, with_tabs}

-- the last character, which may still be struck over
abbrev pub glyph_bytes : Option Glyph → List ℕ
glyph_bytes (Some glyph) = encode_utf8 glyph.c
glyph_bytes None = []

-- what was prepared and is not handed out: what a refusal left, and the last character
abbrev pub held : Preparation → List ℕ
held p = string_bytes p.sheet.text ++ glyph_bytes p.held

-- the last character was printed once
abbrev pub IsPlainGlyph : Option Glyph → Type 0
IsPlainGlyph (Some glyph) = (glyph.look ≡ Plain) × (is_control glyph.c ≡ false)
IsPlainGlyph None = Unit {0}

-- nothing is begun: no sequence and no character of several bytes, no style, no backspace, no colours, no link; and no
-- empty lines are left out
pub record IsPlain (p : Preparation) : Type 0 where
  pub place : p.place ≡ Text
  pub back : p.is_back ≡ false
  pub look : p.look ≡ Plain
  pub colours : string_bytes p.colours ≡ []
  pub unlinked : string_bytes p.link ≡ []
  pub styled : p.sheet.styled ≡ false
  pub glyph : IsPlainGlyph p.held
  pub keeps : p.shape.squeezes ≡ false

-- whether a byte is a printed ASCII character, a newline or a tab
abbrev pub is_text : ℕ → Bool
is_text b = is_plain true b || (b == 9)

-- the bytes are printed ASCII characters, newlines and tabs alone
abbrev pub IsText : List ℕ → Type 0
IsText bytes = list_all is_text bytes ≡ true

-- what bytes become that begin in a column: spaces stand for tabs, between marks or not, and all others stay
abbrev pub expanded : Bool → ℕ → ℕ → List ℕ → List ℕ
expanded marks tabs col [] = []
expanded marks tabs col (b ∷ bytes) =
    if b == 9 then tab_text marks (tab_len tabs col) ++ expanded marks tabs (next_column tabs col b) bytes
    else b ∷ expanded marks tabs (next_column tabs col b) bytes

-- the number of columns of a character, 0 where it has no width
abbrev pub char_columns : ℕ → ℕ
char_columns c = unwrap_or (char_width false c) 0

-- the number of columns of the character that is held, 0 where none is
abbrev pub glyph_columns : Option Glyph → ℕ
glyph_columns (Some glyph) = char_columns glyph.c
glyph_columns None = 0

-- tabs are marked or not and stand so far apart, and what was read ends in a column, as far as tabs can tell
pub record IsAt (marks : Bool) (tabs col : ℕ) (p : Preparation) : Type 0 where
  pub marked : p.shape.marks_tabs ≡ marks
  pub apart : apart p.shape ≡ tabs
  pub column : (p.column + glyph_columns p.held) % tabs ≡ col % tabs

-- nothing is begun, and what was read ends in a column
abbrev pub IsPlainAt : Bool → ℕ → ℕ → Preparation → Type 0
IsPlainAt marks tabs col p = IsPlain p × IsAt marks tabs col p

-- some of the bytes were read, and `rest` is left: what they become is held
pub record Takes (marks : Bool) (tabs col : ℕ) (old new : Preparation) (bytes rest : List ℕ) : Type 0 where
  pub next : ℕ
  pub plain : IsPlain new
  pub is_at : IsAt marks tabs next new
  pub left : IsText rest
  pub text : held new ++ expanded marks tabs next rest ≡ held old ++ expanded marks tabs col bytes
  pub ends : column_after tabs next rest ≡ column_after tabs col bytes

-- `n` bytes at the front were taken
abbrev pub TakesFront : (old new : Preparation) → List ℕ → ℕ → Type 0
TakesFront old new bytes n =
    (marks : Bool) (tabs col : ℕ) → IsPlain old → IsAt marks tabs col old → IsText bytes
    → Takes marks tabs col old new bytes (drop n bytes)

-- all of the bytes were taken
abbrev pub TakesAll : (old new : Preparation) → List ℕ → Type 0
TakesAll old new bytes =
    (marks : Bool) (tabs col : ℕ) → IsPlain old → IsAt marks tabs col old → IsText bytes
    → Takes marks tabs col old new bytes []

-- a tab was taken: spaces stand for it
abbrev pub TakesTab : (old new : Preparation) → Type 0
TakesTab old new =
    (marks : Bool) (tabs col : ℕ) → IsPlain old → IsAt marks tabs col old
    → IsPlain new × (held new ≡ held old ++ tab_text marks (tab_len tabs col))

-- what was held and what bytes become is handed out, or held again
abbrev pub HandsOut : (old new : Preparation) → (bytes before after : List ℕ) → Type 0
HandsOut old new bytes before after =
    (marks : Bool) (tabs col : ℕ) → IsPlainAt marks tabs col old → IsText bytes
    → IsPlainAt marks tabs (column_after tabs col bytes) new
    × (after ++ held new ≡ before ++ (held old ++ expanded marks tabs col bytes))

-- all that was held is handed out
abbrev pub HandsOutHeld : (old new : Preparation) → (before after : List ℕ) → Type 0
HandsOutHeld old new before after =
    (marks : Bool) (tabs col : ℕ) → IsPlainAt marks tabs col old
    → IsPlainAt marks tabs col new × (after ≡ before ++ held old)

-- printed ASCII characters and newlines stay as they are
abbrev pub PlainTextStays : Type 0
PlainTextStays =
    (marks : Bool) (tabs col : ℕ) (bytes : List ℕ) → list_all (is_plain true) bytes ≡ true
    → expanded marks tabs col bytes ≡ bytes

-- without its marks a text is what it is where tabs are not marked
abbrev pub MarksAreTakenOut : Type 0
MarksAreTakenOut =
    (tabs col : ℕ) (bytes : List ℕ) → IsText bytes
    → unmarked (expanded true tabs col bytes) ≡ expanded false tabs col bytes

-- with its tabs in the place of their spaces it is as it was read
abbrev pub TabsComeBack : Type 0
TabsComeBack =
    (tabs col place : ℕ) (bytes : List ℕ) → 0 < tabs → IsText bytes
    → with_tabs place (expanded false tabs col bytes) (tab_places place None (expanded true tabs col bytes)) ≡ bytes
