-- The operations that a screen is drawn by.
use Rattle.std.specs.Prelude.{ℕ, List}
use Rattle.minus_term.specs.declared.draw.DrawOp.{DrawOp}
use Rattle.minus_term.specs.declared.draw.DrawOp.TheVariants as code

-- one operation on a terminal; rows and columns are counted from 0, and a text is its bytes
pub data Op : Type 0 where
  ClearAll : Op
  ClearRow : Op
  GoTo : (x y : ℕ) → Op
  Return : Op
  NextRow : Op
  Put : (text : List ℕ) → Op
  ScrollUp : (n : ℕ) → Op
  ScrollDown : (n : ℕ) → Op
  ShowCursor : Op
  HideCursor : Op

-- the operation that a value of the code is
abbrev pub op_of : DrawOp → Op
op_of code.ClearAll = ClearAll
op_of code.ClearRow = ClearRow
op_of (code.GoTo x y) = GoTo x y
op_of code.Return = Return
op_of code.NextRow = NextRow
op_of (code.Put text) = Put text.now
op_of (code.ScrollUp n) = ScrollUp n
op_of (code.ScrollDown n) = ScrollDown n
op_of code.ShowCursor = ShowCursor
op_of code.HideCursor = HideCursor
