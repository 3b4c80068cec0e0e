-- Help: a displayed text in the place of the one that is saved.
use Rattle.std.specs.Prelude.{ℕ, ◌++◌, List, [], is_some, Bool, false, Option, None, Some, codes, if◌then◌else◌}
use Rattle.std.specs.Option.{option_map, unwrap_or}
use Rattle.minus_text.specs.declared.line_numbers.LineNumbers.TheVariants.{Disabled}
use Rattle.minus_state.specs.Control.{Control, Saved, Settings, reformed, without_message}

-- what the prompt says while help is open
abbrev pub help_prompt : List ℕ
help_prompt = codes "HELP -- Press q or Shift-m to return to pager"

-- whether help is open
abbrev pub help_open : Control → Bool
help_open c = is_some c.help

-- what is saved as help is opened
abbrev pub put_aside : Control → Saved
put_aside c =
    record {
      text = c.text;
      wrapping = c.wrapping;
      numbers = c.numbers;
      mark = c.mark;
      left = c.left;
      prompt = c.settings.prompt;
      follow = c.settings.follow;
    }

-- what is set beside the text, with another prompt, without a message, and following what is appended or not
abbrev pub switched : Settings → List ℕ → Bool → Settings
switched s prompt follow = record s { prompt = prompt; message = None; follow = follow }

-- help is opened with a text: its lines are not wrapped and have no numbers, the marks are at the first row and column,
-- and the page stays where it is at an append; what is selected stays, and so does the term
abbrev pub opened : Control → List ℕ → Control
opened c text = reformed (record c {
  text = text;
  numbers = Disabled;
  wrapping = false;
  mark = 0;
  left = 0;
  settings = switched c.settings help_prompt false;
  help = Some (put_aside c);
})

-- help is left: what was saved returns, without a message
abbrev pub closed : Control → Saved → Control
closed c saved = reformed (record c {
  text = saved.text;
  numbers = saved.numbers;
  wrapping = saved.wrapping;
  mark = saved.mark;
  left = saved.left;
  settings = switched c.settings saved.prompt saved.follow;
  help = None;
})

-- help is left where it is open
abbrev pub left_help : Control → Option Saved → Control
left_help c None = c
left_help c (Some saved) = closed c saved

-- help is opened with a text where it is not open
abbrev pub shown_help : Control → Option Saved → List ℕ → Control
shown_help c None text = opened c text
shown_help c (Some saved) text = c

-- help is left where it is open, and else the message goes
abbrev pub prompt_restored : Control → Option Saved → Control
prompt_restored c None = without_message c
prompt_restored c (Some saved) = closed c saved

-- help is left where it is open, and else opened with a text
abbrev pub help_toggled : Control → Option Saved → List ℕ → Control
help_toggled c None text = opened c text
help_toggled c (Some saved) text = closed c saved

-- help left where it is open, and else opened with a text, an empty one where none is given
abbrev pub toggled_with : Control → Option (List ℕ) → Control
toggled_with c text = help_toggled c c.help (unwrap_or text [])

-- another text in the place of the saved one, if one is saved
abbrev pub text_aside : List ℕ → Option Saved → Option Saved
text_aside text help = option_map (λ (s : Saved). let r : Saved = record s { text = text } in r) help

-- what is saved, with more text at the end of the saved one, if one is saved
abbrev pub more_aside : List ℕ → Option Saved → Option Saved
more_aside text help = option_map (λ (s : Saved). let r : Saved = record s { text = s.text ++ text } in r) help

-- the prompt says this; while help is open, it stays that of help
abbrev pub with_prompt : Control → List ℕ → Control
with_prompt c text =
    record c { settings = record c.settings { prompt = if help_open c then c.settings.prompt else text } }

-- another text is put in the place of the displayed one; while help is open, of the saved one
abbrev pub with_text : Control → List ℕ → Control
with_text c text = record c {
  text = if help_open c then c.text else text;
  search_mark = if help_open c then c.search_mark else (reformed (record c { text = text })).search_mark;
  help = text_aside text c.help;
}
