-- A search prompt that is open.
use Rattle.std.specs.Prelude.{◌≡◌}
use Rattle.minus_term.specs.Refusals.{Refusal, for_memory, for_mode}
use Rattle.minus_state.specs.declared.search.SearchMode.{SearchMode}
use Rattle.minus_state.specs.declared.search.SearchMode.TheVariants.{Unknown}
use Rattle.minus_state.specs.declared.search.keys.QueryEdit.{QueryEdit}
use Rattle.minus_state.specs.QueryEditor.{Editor, first_editor, edited, moved}

-- the direction of its search, and its query with the cursor
pub record Prompt : Type 0 where
  pub mode : SearchMode
  pub editor : Editor

-- one that was opened just now
abbrev pub prompt_of : SearchMode → Prompt
prompt_of mode = record { mode = mode; editor = first_editor }

-- what an edit leaves
abbrev pub fed : Prompt → QueryEdit → Prompt
fed p edit = record p { editor = edited p.editor edit }

-- what a move of the cursor leaves
abbrev pub cursor_moved : Prompt → QueryEdit → Prompt
cursor_moved p edit = record p { editor = record p.editor { cursor = moved p.editor edit } }

-- why a prompt was not opened: no search has begun, or one has, and there was no memory
abbrev pub IsUnopened : Refusal → SearchMode → Type 0
IsUnopened for_mode mode = mode ≡ Unknown
IsUnopened for_memory mode = mode ≡ Unknown → ⊥
IsUnopened refusal mode = ⊥
