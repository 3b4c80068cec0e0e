-- The prompt row: what stands in it, and its columns.
use Rattle.std.specs.Prelude.{◌≡◌, ℕ, ◌+◌, ◌-◌, ◌^◌, ◌==◌, Bool, min, max, Option, is_some, unwrap_or, option_map, List}
use Rattle.std.specs.Prelude.{[], ◌∷◌, ◌++◌, length, chars, codes, if◌then◌else◌}
use Rattle.std.specs.Fmt.{decimal}
use Rattle.minus_text.specs.Units.{columns}
use Rattle.minus_text.specs.TextUnits.{text_units}
use Rattle.minus_text.specs.Crop.{fitted, fitted_units, columns_of}
use Rattle.minus_state.specs.declared.prompt.PromptRow as code

-- what the prompt row is formed of: whether it is shown, the prompt, the message if there is one, the prefix that was
-- typed, which match is reported, counted from 0, and of how many, whether the pager follows its text, and the columns
pub record PromptRow : Type 0 where
  pub is_shown : Bool
  pub prompt : List ℕ
  pub message : Option (List ℕ)
  pub prefix : List ℕ
  pub search_mark : ℕ
  pub match_count : ℕ
  pub follow : Bool
  pub cols : ℕ

-- what a value of the code is formed of
abbrev pub seen_prompt : code.PromptRow → PromptRow
seen_prompt p = record {
  is_shown = p.is_shown;
  prompt = p.prompt.now;
  message = option_map (λ m. m.now) p.message;
  prefix = p.prefix.now;
  search_mark = p.search_mark;
  match_count = p.match_count;
  follow = p.follow;
  cols = p.cols;
}

-- the prefix that was typed, between spaces
abbrev pub prefix_indicator : PromptRow → List ℕ
prefix_indicator p = if length p.prefix == 0 then [] else codes " " ++ p.prefix ++ codes " "

-- which match is shown, counted from 1 as far as numbers go, and of how many
abbrev pub match_indicator : PromptRow → List ℕ
match_indicator p =
    if p.match_count == 0 then []
    else codes " " ++ decimal (min (p.search_mark + 1) (2 ^ 64 - 1)) ++ codes "/" ++ decimal p.match_count ++ codes " "

-- that the pager follows its text
abbrev pub follow_indicator : PromptRow → List ℕ
follow_indicator p = if p.follow then codes "[F]" else []

-- the number of columns of the indicators, each taken by itself
abbrev pub indicator_columns : PromptRow → ℕ
indicator_columns p = columns (prefix_indicator p) + columns (match_indicator p) + columns (follow_indicator p)

-- the number of columns that the indicators leave for what the row says, 0 where they take more than the row has
abbrev pub columns_left : PromptRow → ℕ
columns_left p = p.cols - indicator_columns p

-- what the row says: the message, or else the prompt
abbrev pub said : PromptRow → List ℕ
said p = unwrap_or p.message p.prompt

-- the sequence that sets the style of what the row says: one for a message, another for the prompt
abbrev pub said_style : PromptRow → List ℕ
said_style p = if is_some p.message then 27 ∷ codes "[30;1;41m" else 27 ∷ codes "[2;40;37m"

-- an indicator in its style, where there is one
abbrev pub styled : List ℕ → List ℕ → List ℕ
styled style text = if length text == 0 then [] else style ++ text

-- the row's text: what it says, cut or filled with spaces to the columns that the indicators leave, the indicators,
-- and the styles' end; a hidden prompt has none
unfoldable pub prompt_row : PromptRow → List ℕ
prompt_row p =
    if p.is_shown then
    said_style p ++ fitted (columns_left p) (said p)
    ++ styled (27 ∷ codes "[30;43m") (prefix_indicator p)
    ++ styled (27 ∷ codes "[30;44m") (match_indicator p)
    ++ styled (27 ∷ codes "[1m") (follow_indicator p)
    ++ (27 ∷ codes "[0m")
    else []

-- what the row says and the indicators take all columns together, and as many as the indicators where these are more
abbrev pub FillsItsRow : PromptRow → Type 0
FillsItsRow p = columns (fitted (columns_left p) (said p)) + indicator_columns p ≡ max p.cols (indicator_columns p)

-- what any prompt row says fills its row, counted in characters
abbrev pub PromptFillsItsRow : Type 0
PromptFillsItsRow =
    (p : PromptRow)
    → columns_of (fitted_units (columns_left p) (text_units (chars (said p)))) + indicator_columns p
    ≡ max p.cols (indicator_columns p)
