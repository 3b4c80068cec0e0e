-- Where the style that a row is put with is read.
use Rattle.std.specs.Prelude.{◌≡◌, ℕ, ◌-◌, true, false, List, ◌++◌, Option, take, drop, slice_get}
use Rattle.minus_text.specs.declared.rows.Span.{Span}
use Rattle.minus_text.specs.declared.carried_style.StylePart.{StylePart}
use Rattle.minus_text.specs.declared.carried_style.StyleSource.{StyleSource}
use Rattle.minus_text.specs.Lines.{cut, whole, unfinished_line}
use Rattle.minus_text.specs.Styles.{read_text}
use Rattle.minus_text.specs.Pending.{Pending}
use Rattle.minus_text.specs.PushedPlaces.{formed_from, tail_places}

-- the style that is read of a source: of the bytes that are kept, and behind them of those that are formed
abbrev pub source_style : StyleSource → List ℕ
source_style s = (read_text (s.kept.now ++ s.formed.now)).held

-- a text begins with a newline or a reset: its line is read as what stands behind its first byte, whatever stands
-- before the text
abbrev pub EndsStyles : List ℕ → Type 0
EndsStyles text =
    (front : List ℕ) → cut (drop 1 text) ≡ whole (drop 1 text)
    → read_text (unfinished_line (front ++ text)) ≡ read_text (drop 1 text)

-- a part of a text gives the style behind it. Where a newline or a reset ends the styles before the part, it does so
-- whatever stands before the text; otherwise the text has no newline, and is read as the part is.
pub record IsStylePart (text : List ℕ) (part : StylePart) : Type 0 where
  pub ended : part.is_ended ≡ true → (front : List ℕ)
      → read_text (unfinished_line (front ++ text)) ≡ read_text part.bytes.now
  pub one_line : part.is_ended ≡ false → cut text ≡ whole text
  pub read : part.is_ended ≡ false → read_text text ≡ read_text part.bytes.now

-- the place in the whole text of a row that a push forms, counted from 0, if there is one
abbrev pub formed_place : Pending → ℕ → Option Span
formed_place p i = slice_get (tail_places p.start p.tail) i

-- what is formed before such a place, and a text with what is formed in it
abbrev pub formed_before : Pending → Span → List ℕ
formed_before p s = take (s.start - formed_from p.start) p.tail.text

-- a text with what is formed in it, from the place on where forming begins
abbrev pub text_with : List ℕ → Pending → List ℕ
text_with text p = take (formed_from p.start) text ++ p.tail.text
