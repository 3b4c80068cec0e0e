-- The lines of a text: those that a newline ends, and what follows the last newline.
use Rattle.std.specs.Prelude.{◌≡◌, ℕ, ◌==◌, List, [], ◌∷◌, ◌++◌, length, map, if◌then◌else◌}
use Rattle.std.specs.Str.Lines.{lines, strip_carriage_return}

-- a text cut at its newlines: the lines that a newline ends, each still with its carriage return, and what follows the
-- last newline
pub record Cut : Type 0 where
  pub closed : List (List ℕ)
  pub open_line : List ℕ

-- a byte goes onto the front of the first line
abbrev pub onto : ℕ → List (List ℕ) → List ℕ → Cut
onto b [] rest = record { closed = []; open_line = b ∷ rest }
onto b (line ∷ more) rest = record { closed = (b ∷ line) ∷ more; open_line = rest }

-- the cut of a text, byte by byte: a newline closes an empty line, and another byte goes onto the line that follows it
abbrev pub cut : List ℕ → Cut
cut [] = record { closed = []; open_line = [] }
cut (b ∷ bs) =
    if b == 10 then record { closed = [] ∷ (cut bs).closed; open_line = (cut bs).open_line }
    else onto b (cut bs).closed (cut bs).open_line

-- the cut of a text with no newline
abbrev pub whole : List ℕ → Cut
whole text = record { closed = []; open_line = text }

-- the cut of a line and its newline, with the cut of what follows
abbrev pub behind : List ℕ → Cut → Cut
behind line rest = record { closed = line ∷ rest.closed; open_line = rest.open_line }

-- the lines that a newline ends, each less the one carriage return at its end
abbrev pub finished_lines : List ℕ → List (List ℕ)
finished_lines text = map strip_carriage_return (cut text).closed

-- what follows the last newline
abbrev pub unfinished_line : List ℕ → List ℕ
unfinished_line text = (cut text).open_line

-- the lines of a text are those that a newline ends, and what follows the last newline if that is not empty
abbrev pub LinesAreCut : Type 0
LinesAreCut =
    (text : List ℕ)
    → lines text ≡ finished_lines text ++ (if length (unfinished_line text) == 0 then [] else unfinished_line text ∷ [])
