-- What stands around the text of a row.
use Rattle.std.specs.Prelude.{◌≡◌, ℕ, List, ◌++◌}
use Rattle.minus_text.specs.declared.matched_text.MatchedText.{MatchedText}
use Rattle.minus_text.specs.Document.{Document, line_count}
use Rattle.minus_text.specs.MatchedTexts.{text_within}
use Rattle.minus_state.specs.ShownRow.{columns_for_text, cropped_line}
use Rattle.minus_state.specs.declared.frame.Frame.{Frame}

-- the frame of a document's rows that are shown from a left mark on
abbrev pub frame_of : Document → ℕ → Frame
frame_of d left = record { layout = d.layout; line_count = line_count d; left_mark = left }

-- the bytes `row` are what is shown of line i, counted from 0, with this text, in a frame; the line is one row
abbrev pub IsCroppedLine : Frame → ℕ → MatchedText → List ℕ → Type 0
IsCroppedLine frame i text row =
    (d : Document) (left : ℕ) → frame ≡ frame_of d left
    → row ≡ cropped_line d left i (text_within left (columns_for_text d) text)

-- the bytes `new` are the bytes `old` and behind them what is shown of line i, counted from 0, with
-- this text, in a frame; the line is one row
abbrev pub WritesCroppedLine : Frame → ℕ → MatchedText → (old new : List ℕ) → Type 0
WritesCroppedLine frame i text old new =
    (d : Document) (left : ℕ) → frame ≡ frame_of d left
    → new ≡ old ++ cropped_line d left i (text_within left (columns_for_text d) text)
