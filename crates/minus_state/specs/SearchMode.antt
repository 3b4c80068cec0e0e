-- The directions of a search.
use Rattle.std.specs.Prelude.{ℕ, Option, None, Some}
use Rattle.minus_state.specs.declared.search.SearchMode.{SearchMode}
use Rattle.minus_state.specs.declared.search.SearchMode.TheVariants.{Forward, Reverse, Unknown}

-- the character before the query: a slash, a question mark, or none
abbrev pub char_of : SearchMode → Option ℕ
char_of Forward = Some 47
char_of Reverse = Some 63
char_of Unknown = None
