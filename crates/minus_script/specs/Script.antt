-- The script: its lines, and what each of them tells the session.
use Rattle.std.specs.Prelude.{ℕ, ◌+◌, ◌==◌, ◌++◌, nat_lt, List, [], ◌∷◌, length, map, Bool, true, false, Option, Some}
use Rattle.std.specs.Prelude.{None, Result, Ok, Err, bytes_eq, codes, ◌&&◌, if◌then◌else◌}
use Rattle.std.specs.Option.{option_map}
use Rattle.std.specs.Str.{is_utf8, chars}
use Rattle.std.specs.List.{slice_split, before_first, after_first, position_or_len}
use Rattle.minus_term.specs.declared.event.Event.TheVariants.{Key, Mouse}
use Rattle.minus_term.specs.declared.event.KeyEvent.{KeyEvent}
use Rattle.minus_term.specs.declared.event.MouseEvent.{MouseEvent}
use Rattle.minus_term.specs.declared.event.KeyCode.TheVariants.{Char}
use Rattle.minus_term.specs.declared.event.KeyEventKind.TheVariants.{Press}
use Rattle.minus_text.specs.declared.line_numbers.LineNumbers.{LineNumbers}
use Rattle.minus_text.specs.declared.line_numbers.LineNumbers.TheVariants.{AlwaysOn, Enabled, Disabled, AlwaysOff}
use Rattle.minus_state.specs.declared.search.condition.NeverShows.{NeverShows}
use Rattle.minus_script.specs.declared.keys.DefaultKeys.{DefaultKeys}
use Rattle.minus_commands.specs.Reads.{Told, a_command, an_event}
use Rattle.minus_commands.specs.Table.{Wanted, sets_data, appends_data, moves_mark, resizes, sets_prompt, sends_message}
use Rattle.minus_commands.specs.Table.{follows, shows_prompt, sets_numbers, sets_wrapping, sets_match_lines}
use Rattle.minus_commands.specs.Table.{sets_carry_style}
use Rattle.minus_input.specs.Number.{usize_of}
use Rattle.minus_script.specs.DescribedEvents.{key_described, mouse_said}
use Rattle.minus_script.specs.Escapes.{unescaped}

-- the parts but an empty last one
abbrev pub without_empty_last : List (List ℕ) → List (List ℕ)
without_empty_last [] = []
without_empty_last (part ∷ []) = if length part == 0 then [] else part ∷ []
without_empty_last (part ∷ next ∷ parts) = part ∷ without_empty_last (next ∷ parts)

-- whether a byte is a newline
abbrev pub is_newline : ℕ → Bool
is_newline b = b == 10

-- whether a byte is a blank
abbrev pub is_blank : ℕ → Bool
is_blank b = b == 32

-- the lines of a script: the parts between its newlines, where an empty last part is none
abbrev pub script_lines : List ℕ → List (List ℕ)
script_lines script = without_empty_last (slice_split is_newline script)

-- whether a line has a blank
abbrev pub has_blank : List ℕ → Bool
has_blank line = nat_lt (position_or_len is_blank line) (length line)

-- a character typed: the press of its key, without a modifier
abbrev pub typed : ℕ → Told NeverShows DefaultKeys
typed character =
    an_event (Key (record {
      code = Char character;
      modifiers = record { 0 = 0 };
      kind = Press;
      state = record { 0 = 0 };
    }))

-- two numbers ask for a size
abbrev pub size_asked : Option ℕ → Option ℕ → Option (Wanted NeverShows DefaultKeys)
size_asked (Some cols) (Some rows) = Some (resizes cols rows)
size_asked (Some cols) None = None
size_asked None rows = None

-- a size is two numbers with one blank between them
abbrev pub resize_asked : List ℕ → Option (Wanted NeverShows DefaultKeys)
resize_asked argument =
    if has_blank argument
    then size_asked (usize_of (before_first is_blank argument)) (usize_of (after_first is_blank argument)) else None

-- whether an argument says on or off
abbrev pub switch_of : List ℕ → Option Bool
switch_of argument =
    if bytes_eq argument (codes "on") then Some true else if bytes_eq argument (codes "off") then Some false else None

-- the numbers that an argument asks for
abbrev pub numbers_of : List ℕ → Option LineNumbers
numbers_of argument =
    if bytes_eq argument (codes "always-on") then Some AlwaysOn
    else if bytes_eq argument (codes "on") then Some Enabled
    else if bytes_eq argument (codes "off") then Some Disabled
    else if bytes_eq argument (codes "always-off") then Some AlwaysOff
    else None

-- what a word sets beside the text with its argument
abbrev pub setting_asked : List ℕ → List ℕ → Option (Wanted NeverShows DefaultKeys)
setting_asked word argument =
    if bytes_eq word (codes "prompt") then option_map sets_prompt (unescaped argument)
    else if bytes_eq word (codes "message") then option_map sends_message (unescaped argument)
    else if bytes_eq word (codes "follow") then option_map follows (switch_of argument)
    else if bytes_eq word (codes "showprompt") then option_map shows_prompt (switch_of argument)
    else if bytes_eq word (codes "wrap") then option_map sets_wrapping (switch_of argument)
    else if bytes_eq word (codes "matchlines") then option_map sets_match_lines (switch_of argument)
    else if bytes_eq word (codes "carrystyle") then option_map sets_carry_style (switch_of argument)
    else if bytes_eq word (codes "numbers") then option_map sets_numbers (numbers_of argument)
    else None

-- what a word asks for as a command with its argument: a known word, whose argument is well formed
abbrev pub command_asked : List ℕ → List ℕ → Option (Wanted NeverShows DefaultKeys)
command_asked word argument =
    if bytes_eq word (codes "push") then option_map appends_data (unescaped argument)
    else if bytes_eq word (codes "set") then option_map sets_data (unescaped argument)
    else if bytes_eq word (codes "mark") then option_map moves_mark (usize_of argument)
    else if bytes_eq word (codes "resize") then resize_asked argument
    else setting_asked word argument

-- a command is one input
abbrev pub one_command : Wanted NeverShows DefaultKeys → List (Told NeverShows DefaultKeys)
one_command wanted = a_command wanted ∷ []

-- a text that is typed is as many as it has characters
abbrev pub all_typed : List ℕ → List (Told NeverShows DefaultKeys)
all_typed text = map typed (chars text)

-- a key is one input
abbrev pub key_told : KeyEvent → List (Told NeverShows DefaultKeys)
key_told key = an_event (Key key) ∷ []

-- an event of the mouse is one input
abbrev pub mouse_told : MouseEvent → List (Told NeverShows DefaultKeys)
mouse_told mouse = an_event (Mouse mouse) ∷ []

-- what a word tells the session with its argument
abbrev pub word_told : List ℕ → List ℕ → Option (List (Told NeverShows DefaultKeys))
word_told word argument =
    if bytes_eq word (codes "type") then option_map all_typed (unescaped argument)
    else if bytes_eq word (codes "key") then option_map key_told (key_described argument)
    else if bytes_eq word (codes "mouse") then option_map mouse_told (mouse_said argument)
    else option_map one_command (command_asked word argument)

-- what a line tells: it is UTF-8, and its first blank ends its word and begins the
-- argument; a faulty line tells nothing
abbrev pub line_told : List ℕ → Option (List (Told NeverShows DefaultKeys))
line_told line =
    if is_utf8 line && has_blank line then word_told (before_first is_blank line) (after_first is_blank line) else None

-- what a first line tells, and then the later ones, or the number of the first faulty line
abbrev pub then_told :
    Option (List (Told NeverShows DefaultKeys)) → Result (List (Told NeverShows DefaultKeys)) ℕ
    → Result (List (Told NeverShows DefaultKeys)) ℕ
then_told None later = Err 1
then_told (Some first) (Ok later) = Ok (first ++ later)
then_told (Some first) (Err number) = Err (number + 1)

-- what all lines tell, or the number from 1 of the first faulty one
abbrev pub script_told : List (List ℕ) → Result (List (Told NeverShows DefaultKeys)) ℕ
script_told [] = Ok []
script_told (line ∷ lines) = then_told (line_told line) (script_told lines)
