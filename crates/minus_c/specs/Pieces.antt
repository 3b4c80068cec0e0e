-- The texts of a pager that was started, by their numbers.
use Rattle.std.specs.Prelude.{◌≡◌, ℕ, List, Option, Some, option_map, string_bytes, chars}
use Rattle.minus_state.specs.States.{control_of}
use Rattle.minus_state.specs.declared.state.PagerState.{PagerState}
use Rattle.minus_text.specs.Searched.{IsStoredRow}
use Rattle.minus_c.specs.Rooms.{IsPutIf}
use Rattle.minus_c.specs.declared.found.Found.{Found}
use Rattle.minus_c.specs.declared.stage.Stage.{Stage}
use Rattle.minus_c.specs.declared.stage.Stage.TheVariants.{Running}

-- the displayed text, the prompt, the message, the query of the search prompt and the
-- typed prefix, each where there is one
pub record IsPiece (number : ℕ) (state : PagerState) (text : Option (List ℕ)) : Type 0 where
  pub shown : number ≡ 0 → text ≡ Some state.screen.document.text
  pub prompt : number ≡ 1 → text ≡ Some (string_bytes state.prompt)
  pub message : number ≡ 2 → text ≡ option_map string_bytes state.message
  pub query : number ≡ 3 → option_map chars text ≡ option_map (λ s. s.prompt.editor.query) (control_of state).search
  pub prefix : number ≡ 4 → text ≡ Some (string_bytes state.prefix_num)

-- such a text is put into room, if there is one
abbrev pub PutsPiece : ℕ → (room new : List ℕ) → Found → PagerState → Type 0
PutsPiece number room new found state =
    (text : Option (List ℕ)) × IsPiece number state text × IsPutIf text room new found

-- a row of the text is put into room, if there is one of this number
abbrev pub PutsRow : ℕ → (room new : List ℕ) → Found → PagerState → Type 0
PutsRow row room new found state =
    (text : Option (List ℕ)) × IsStoredRow state.screen row text × IsPutIf text room new found

-- a session was started whose state is so
abbrev pub InState : (PagerState → Type 0) → Stage → Type 0
InState so (Running session) = so session.core.parts.state
InState so other = ⊥
