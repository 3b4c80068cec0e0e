-- Units that stay as they are whatever follows them.
use Rattle.std.specs.Prelude.{◌≡◌, ◌≢◌, ℕ, ◌+◌, List, [], ◌∷◌, ◌++◌}
use Rattle.minus_text.specs.Units.{text_columns}

-- the first unit of some characters, its columns, and what follows it: whatever follows the unit takes its own columns
-- beside them, and the unit does not end with a carriage return
pub record SettlesFirst (cs : List ℕ) (width : ℕ) (rest : List ℕ) : Type 0 where
  pub front : List ℕ
  pub last : ℕ
  pub joins : cs ≡ (front ++ last ∷ []) ++ rest
  pub adds : (ds : List ℕ) → text_columns ((front ++ last ∷ []) ++ ds) ≡ width + text_columns ds
  pub stays : last ≢ 13
