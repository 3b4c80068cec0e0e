-- The pieces of a line for some columns. A line is here the list of its characters.
use Rattle.std.specs.Prelude.{ℕ, ◌+◌, ◌-◌, ◌==◌, Bool, List, [], ◌∷◌, ◌++◌, length, take, drop, replicate}
use Rattle.std.specs.List.{sum_by, prefix_len, position_or_len, flat_map, concat}
use Rattle.minus_text.specs.Cuts.{cuts}
use Rattle.minus_text.specs.Units.{units, unit_columns}
use Rattle.minus_text.specs.TheRuns.{the_runs}
use Rattle.minus_text.specs.Fronts.{fits_front, front_rule}
use Rattle.minus_text.specs.Hyphens.{parts}

-- a part of a line that stays on one row: the units of its body, and how many spaces follow it
pub record Piece : Type 0 where
  pub body : List (List ℕ)
  pub spaces : ℕ

-- a character is a space
abbrev pub is_space : ℕ → Bool
is_space c = c == 32

-- how many characters the first word has: a longest run without spaces, and the spaces after it
abbrev pub body_len : List ℕ → ℕ
body_len cs = position_or_len is_space cs

-- how many characters the first word has, with the spaces after it
abbrev pub word_len : List ℕ → ℕ
word_len cs = body_len cs + prefix_len is_space (drop (body_len cs) cs)

-- the words of a line; spaces at its start are an empty word with spaces
abbrev pub words : List ℕ → List (List ℕ)
words cs = cuts word_len cs

-- the fronts of a part, of its units each: the longest that takes at most these columns or has one unit with columns at
-- most
abbrev pub fronts : ℕ → List ℕ → List (List (List ℕ))
fronts cols part = (the_runs (fits_front cols) (front_rule cols) (units part)).runs

-- pieces with these bodies, the last of which has the spaces; with no body they stand after an empty one
abbrev pub with_spaces : List (List (List ℕ)) → ℕ → List Piece
with_spaces [] n = record { body = []; spaces = n } ∷ []
with_spaces (b ∷ []) n = record { body = b; spaces = n } ∷ []
with_spaces (b ∷ c ∷ bs) n = record { body = b; spaces = 0 } ∷ with_spaces (c ∷ bs) n

-- the pieces of a word
abbrev pub word_pieces : ℕ → List ℕ → List Piece
word_pieces cols word =
    with_spaces (flat_map (fronts cols) (parts (take (body_len word) word))) (length word - body_len word)

-- the pieces of a line
unfoldable pub pieces : ℕ → List ℕ → List Piece
pieces cols line = flat_map (word_pieces cols) (words line)

-- the columns of a piece's body, and its text with its spaces
abbrev pub piece_columns : Piece → ℕ
piece_columns p = sum_by unit_columns p.body

-- the text of a piece with its spaces
abbrev pub piece_text : Piece → List ℕ
piece_text p = concat p.body ++ replicate p.spaces 32
