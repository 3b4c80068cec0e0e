-- What a key does while the search prompt is open is drawn.
use Rattle.std.specs.Prelude.{◌≡◌, ◌≤◌, List, [], ◌∷◌, Option, Some}
use Rattle.regex.specs.Patterns.{Re}
use Rattle.minus_term.specs.Operations.{Op}
use Rattle.minus_state.specs.declared.search.keys.QueryEdit.{QueryEdit}
use Rattle.minus_state.specs.Control.{Control}
use Rattle.minus_state.specs.PromptKeys.{keyed}
use Rattle.minus_state.specs.OpenSearches.{OpenSearch}
use Rattle.minus_draw.specs.Drawn.{IsDrawing, key_work}

-- what a key does is drawn so by some operations, over the page with the open prompt
abbrev pub KeysAreDrawn : Type 0
KeysAreDrawn =
    (c : Control) (o : OpenSearch) (edit : QueryEdit) (found : Option Re) → 1 ≤ c.rows → c.search ≡ Some o
    → (ops : List Op) × IsDrawing ops c (key_work c o edit found ∷ []) (keyed c o edit found)
