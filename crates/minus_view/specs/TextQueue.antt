-- A text that waits in pieces.
use Rattle.std.specs.Prelude.{ℕ, List, [], ◌++◌}
use Rattle.std.specs.List.{concat}

-- the pieces that are full, first to last, and the one that is being filled
pub record Waiting : Type 0 where
  pub pieces : List (List ℕ)
  pub last : List ℕ

-- nothing waits
abbrev pub nothing : Waiting
nothing = record { pieces = []; last = [] }

-- the text that waits
abbrev pub waiting_text : Waiting → List ℕ
waiting_text w = concat w.pieces ++ w.last

-- as many pieces wait before the queue is full
abbrev pub most_pieces : ℕ
most_pieces = 1024
