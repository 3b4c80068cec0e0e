-- What is saved while help is open, as it stands in a state.
use Rattle.std.specs.Prelude.{string_bytes, Option}
use Rattle.std.specs.Option.{option_map}
use Rattle.minus_state.specs.declared.state.help.Saved.{Saved}
use Rattle.minus_state.specs.Control.{Saved as Aside}

-- what a state has saved while help is open, as values alone: each text is its bytes, and mark and left
-- mark are a row and a column, counted from 0
abbrev pub aside_in : Saved → Aside
aside_in s = record {
  text = string_bytes s.text;
  wrapping = s.wrapping;
  numbers = s.numbers;
  mark = s.upper_mark;
  left = s.left_mark;
  prompt = string_bytes s.prompt;
  follow = s.follow;
}

-- what a state has saved, as values alone, if something is saved
abbrev pub aside_of : Option Saved → Option Aside
aside_of saved = option_map aside_in saved
