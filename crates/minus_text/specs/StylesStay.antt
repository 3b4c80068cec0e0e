-- The styles that are carried to rows stay where a push keeps the rows.
use Rattle.std.specs.Prelude.{◌≡◌, ◌<◌, ℕ, List}
use Rattle.std.specs.Str.{IsUtf8}
use Rattle.minus_text.specs.declared.line_numbers.LineNumbers.{LineNumbers}
use Rattle.minus_text.specs.Document.{Document, pushed}
use Rattle.minus_text.specs.Pending.{Pending, IsPending}
use Rattle.minus_text.specs.CarriedStyles.{carried_style}

-- the rows that stay when a piece is pushed have the styles that were carried to them before
abbrev pub CarriedStylesStay : Type 0
CarriedStylesStay =
    (d : Document) (piece : List ℕ) (numbers : LineNumbers) (cols : ℕ) (p : Pending) (i : ℕ) → IsUtf8 d.text
    → IsUtf8 piece
    → IsPending d piece numbers cols p → i < p.kept_rows
    → carried_style (pushed d piece numbers cols) i ≡ carried_style d i
