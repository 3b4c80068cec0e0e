-- The style that a row is put with.
use Rattle.std.specs.Prelude.{◌≡◌, ℕ, Bool, true, List, [], Option, None, Some, map, take, slice_get, if◌then◌else◌}
use Rattle.std.specs.List.{flat_map}
use Rattle.std.specs.Option.{unwrap_or}
use Rattle.std.specs.Str.{IsUtf8}
use Rattle.std.specs.Str.Lines.{lines}
use Rattle.minus_text.specs.declared.rows.Span.{Span}
use Rattle.minus_text.specs.declared.layout.Wrap.{Wrap}
use Rattle.minus_text.specs.Lines.{unfinished_line}
use Rattle.minus_text.specs.Layouts.{own_places}
use Rattle.minus_text.specs.LinePlaces.{row_places}
use Rattle.minus_text.specs.Document.{Document, wrap_in}
use Rattle.minus_text.specs.Styles.{read_text, style_at}

-- the styles that hold where the rows of a line begin in it; none where none is carried
abbrev pub line_styles : Bool → Wrap → List ℕ → List (List ℕ)
line_styles carry wrap line = if carry then map (λ s. style_at line s.start) (own_places wrap line) else []

-- those of the rows of a document, in order; none where its layout carries none
abbrev pub carried_styles : Document → List (List ℕ)
carried_styles d = if d.layout.carry_style then flat_map (line_styles true (wrap_in d)) (lines d.text) else []

-- the style with a number, no style where there is none
abbrev pub style_with : List (List ℕ) → ℕ → List ℕ
style_with styles i = unwrap_or (slice_get styles i) []

-- the style that is put before the row of a document with a number
abbrev pub carried_style : Document → ℕ → List ℕ
carried_style d i = style_with (carried_styles d) i

-- the style behind what stands before a place of a text in the place's line
abbrev pub style_before : List ℕ → Option Span → List ℕ
style_before text None = []
style_before text (Some s) = (read_text (unfinished_line (take s.start text))).held

-- the style that is carried to a row is that of what stands before it in its line
abbrev pub StylesStandBefore : Type 0
StylesStandBefore = (d : Document) (i : ℕ) → IsUtf8 d.text
    → carried_style d i ≡ (if d.layout.carry_style then style_before d.text (slice_get (row_places d) i) else [])
