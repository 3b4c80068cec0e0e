-- A fragment: a text whose lines fill rows in a way that is given, where that of a document hangs on how many lines it
-- has.
use Rattle.std.specs.Prelude.{ℕ, List}
use Rattle.std.specs.Str.Lines.{lines}
use Rattle.minus_text.specs.declared.layout.Wrap.{Wrap}
use Rattle.minus_text.specs.Document.{rows_of_lines}

-- a text in bytes, and how its lines fill rows
pub record Fragment : Type 0 where
  pub text : List ℕ
  pub wrap : Wrap

-- the texts of its rows, in order
unfoldable pub rows_in : Fragment → List (List ℕ)
rows_in f = rows_of_lines f.wrap (lines f.text)
