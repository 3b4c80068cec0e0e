-- Texts that have no ESC from a place on.
use Rattle.std.specs.Prelude.{◌≡◌, ℕ, Bool, true, List, drop}
use Rattle.std.specs.List.{list_all}
use Rattle.std.specs.Coded.{Coded-set, coded_bool}
use Rattle.minus_text.specs.Plain.{is_unescaped}

-- no byte from the place on is ESC
abbrev pub IsUnescapedFrom : ℕ → List ℕ → Type 0
IsUnescapedFrom at text = list_all is_unescaped (drop at text) ≡ true

-- this is a fact
bool_set : IsSet Bool
bool_set = Coded-set coded_bool

pub IsUnescapedFrom-prop : (at : ℕ) (text : List ℕ) → IsProp (IsUnescapedFrom at text)
IsUnescapedFrom-prop at text = hlevel bool_set
