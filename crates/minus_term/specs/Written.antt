-- The bytes of the operations, and the lists of operations that put nothing but rows of pages.
use Rattle.std.specs.Prelude.{◌≡◌, ℕ, ◌+◌, ◌==◌, List, [], ◌∷◌, ◌++◌, flat_map, if◌then◌else◌, decimal, codes, Contains}
use Rattle.std.specs.Prelude.{◌⊎◌, ⊤}
use Rattle.minus_term.specs.Operations.{Op, ClearAll, ClearRow, GoTo, Return, NextRow, Put, ScrollUp, ScrollDown}
use Rattle.minus_term.specs.Operations.{ShowCursor, HideCursor}
use Rattle.minus_term.specs.PlayedScreen.{ShownPage}

-- the escape character and `[`, by which a control sequence of a terminal begins
abbrev pub escape : List ℕ
escape = 27 ∷ codes "["

-- the sequence that moves the rows by n: none for 0
abbrev pub scroll_bytes : ℕ → List ℕ → List ℕ
scroll_bytes n letter = if n == 0 then [] else escape ++ decimal n ++ letter

-- the bytes of an operation; a terminal counts its rows and columns from 1
unfoldable pub written : Op → List ℕ
written ClearAll = escape ++ codes "2J"
written ClearRow = escape ++ codes "2K"
written (GoTo x y) = escape ++ decimal (y + 1) ++ codes ";" ++ decimal (x + 1) ++ codes "H"
written Return = codes "\r"
written NextRow = codes "\n"
written (Put text) = text
written (ScrollUp n) = scroll_bytes n (codes "S")
written (ScrollDown n) = scroll_bytes n (codes "T")
written ShowCursor = escape ++ codes "?25h"
written HideCursor = escape ++ codes "?25l"

-- the bytes of the operations, one after another
unfoldable pub written_all : List Op → List ℕ
written_all ops = flat_map written ops

-- the text is the mark that a search is typed behind
abbrev pub IsSearchMark : List ℕ → Type 0
IsSearchMark text = (text ≡ codes "/") ⊎ (text ≡ codes "?")

-- the text is a row of one of the pages
abbrev pub IsRowOf : List ShownPage → List ℕ → Type 0
IsRowOf pages text = (page : ShownPage) × Contains pages page × Contains page.texts text

-- the operation puts nothing but a search's mark or a row of one of the pages
abbrev pub IsCleanOp : List ShownPage → Op → Type 0
IsCleanOp pages (Put text) = IsSearchMark text ⊎ IsRowOf pages text
IsCleanOp pages op = ⊤

-- each of the operations puts nothing but a search's mark or a row of one of the pages
abbrev pub IsClean : List ShownPage → List Op → Type 0
IsClean pages [] = ⊤
IsClean pages (op ∷ ops) = IsCleanOp pages op × IsClean pages ops
