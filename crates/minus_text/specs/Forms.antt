-- What is formed on the way.
use Rattle.std.specs.Prelude.{◌≡◌, ℕ, ◌+◌, ◌-◌, List, [], ◌∷◌, ◌++◌, length, max, drop}
use Rattle.std.specs.Str.Lines.{lines}
use Rattle.minus_text.specs.declared.formed.Finished.{Finished}
use Rattle.minus_text.specs.declared.formed.Restart.{Restart}
use Rattle.minus_text.specs.declared.formed.Formed.{Formed}
use Rattle.minus_text.specs.declared.formed.Forming.{Forming}
use Rattle.minus_text.specs.Units.{columns}
use Rattle.minus_text.specs.declared.layout.Wrap.{Wrap}
use Rattle.minus_text.specs.Layouts.{own_rows}
use Rattle.minus_text.specs.Lines.{cut}
use Rattle.minus_text.specs.Document.{rows_of_lines, first_rows, longest_of}
use Rattle.minus_text.specs.Kept.{line_stored, stored_from, Reaches}

-- what is formed of the first line, of which a text is what follows its rows that stay
pub record IsBegun (wrap : Wrap) (text : List ℕ) (start : Restart) (f : Forming) : Type 0 where
  pub its_rows : f.rows.items ≡ line_stored wrap (start.finished.bytes + start.bytes) text
  pub its_count : length f.rows.items ≡ length (own_rows wrap text)
  pub its_map : f.first_rows.items ≡ start.finished.rows ∷ []
  pub its_longest : f.longest ≡ start.border.columns + columns (drop (start.border.bytes - start.bytes) text)

-- what is formed of lines that follow others that are formed
pub record IsFormOfLines (wrap : Wrap) (old : Forming) (text : List ℕ) (from : Finished) (f : Formed) : Type 0 where
  pub its_rows : f.rows.items ≡ old.rows.items ++ stored_from wrap from.bytes (cut text)
  pub its_count : length f.rows.items ≡ length old.rows.items + length (rows_of_lines wrap (lines text))
  pub its_map : f.first_rows ≡ old.first_rows.items ++ first_rows wrap from.rows (lines text)
  pub its_finish : Reaches wrap from (cut text).closed f.finished
  pub its_longest : f.longest ≡ max old.longest (longest_of (lines text))
  pub its_border : f.border ≡ record { bytes = 0; columns = 0 }
