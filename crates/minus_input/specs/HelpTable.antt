-- The names of keys, and the table of them that a help page shows.
use Rattle.std.specs.Prelude.{ℕ, ◌-◌, ◌==◌, List, [], ◌∷◌, ◌++◌, map, length, replicate, Bool, false, not, ◌&&◌}
use Rattle.std.specs.Prelude.{bytes_eq, codes, encode_utf8, string_bytes, if◌then◌else◌}
use denote.Ref.{Bor}
use Rattle.std.specs.Char.{is_ascii_uppercase}
use Rattle.std.specs.Fmt.{decimal, char_count}
use Rattle.std.specs.Int.RustNames.{bit_and}
use Rattle.std.specs.List.{filter, flat_map, join_by, list_any}
use Rattle.std.specs.Str.{trim}
use Rattle.minus_term.specs.declared.event.KeyCode.{KeyCode}
use Rattle.minus_term.specs.declared.event.KeyCode.TheVariants.{Backspace, Enter, Left, Right, Up, Down, Home, End}
use Rattle.minus_term.specs.declared.event.KeyCode.TheVariants.{PageUp, PageDown, Tab, BackTab, Delete, Insert, F, Char}
use Rattle.minus_term.specs.declared.event.KeyCode.TheVariants.{Null, Esc}
use Rattle.minus_term.specs.declared.event.KeyEvent.{KeyEvent}
use Rattle.minus_input.specs.declared.help_table.Entry as code
use Rattle.minus_input.specs.Names.{shift, control, alt}

-- the name of a code that is neither a character's nor a function key's
abbrev pub named_code_name : KeyCode → List ℕ
named_code_name Enter = codes "Enter"
named_code_name Tab = codes "Tab"
named_code_name BackTab = codes "BackTab"
named_code_name Backspace = codes "Backspace"
named_code_name Esc = codes "Esc"
named_code_name Up = codes "Up"
named_code_name Down = codes "Down"
named_code_name Left = codes "Left"
named_code_name Right = codes "Right"
named_code_name PageUp = codes "PageUp"
named_code_name PageDown = codes "PageDown"
named_code_name Home = codes "Home"
named_code_name End = codes "End"
named_code_name Delete = codes "Delete"
named_code_name Insert = codes "Insert"
named_code_name Null = codes "Null"
named_code_name other = codes "Unknown"

-- the name of a code
abbrev pub code_name : KeyCode → List ℕ
code_name (Char c) = if c == 32 then codes "<Space>" else encode_utf8 c
code_name (F number) = codes "F" ++ decimal number
code_name other = named_code_name other

-- whether a modifier is held down with a key
abbrev pub has : KeyEvent → ℕ → Bool
has key bit = bit_and key.modifiers.0 bit == bit

-- whether a code is an ASCII capital
abbrev pub is_capital : KeyCode → Bool
is_capital (Char c) = is_ascii_uppercase c
is_capital other = false

-- a text that is shown, or is not
abbrev pub shown : Bool → List ℕ → List ℕ
shown whether text = if whether then text else []

-- whether a key's name shows SHIFT: an ASCII capital says it already
abbrev pub shows_shift : KeyEvent → Bool
shows_shift key = has key shift && not (is_capital key.code)

-- a key's name: its modifiers, and then its code's name
abbrev pub key_name : KeyEvent → List ℕ
key_name key =
    shown (has key control) (codes "Ctrl-") ++ shown (has key alt) (codes "Alt-")
    ++ shown (shows_shift key) (codes "Shift-") ++ code_name key.code

-- an entry of the help table: a key's name, and a description without white space at its ends
pub record Entry : Type 0 where
  pub name : List ℕ
  pub description : List ℕ

-- the entry of a key and its description: the key's name, and the description without white space at its ends
abbrev pub entry_of : Bor KeyEvent × Bor (List ℕ) → Entry
entry_of entry = record { name = key_name entry.0.now; description = trim entry.1.now }

-- the entry that a value of the code is
abbrev pub seen_entry : code.Entry → Entry
seen_entry entry = record { name = string_bytes entry.name; description = entry.description.now }

-- some texts without repeats, in the order of first ones
abbrev pub once_each : List (List ℕ) → List (List ℕ)
once_each [] = []
once_each (text ∷ texts) = text ∷ filter (λ other. not (bytes_eq other text)) (once_each texts)

-- one more text, unless it is there
abbrev pub add_once : List (List ℕ) → List ℕ → List (List ℕ)
add_once texts text = if list_any (λ other. bytes_eq other text) texts then texts else texts ++ text ∷ []

-- the descriptions that are not empty
abbrev pub descriptions : List Entry → List (List ℕ)
descriptions entries = once_each (filter (λ text. not (length text == 0)) (map (λ e. e.description) entries))

-- the names of the keys with a description
abbrev pub names_of : List Entry → List ℕ → List (List ℕ)
names_of entries description = once_each (map (λ e. e.name) (filter (λ e. bytes_eq e.description description) entries))

-- some texts with a comma and a blank between them
abbrev pub joined : List (List ℕ) → List ℕ
joined texts = join_by (λ text. text) (codes ", ") texts

-- a text with as many blanks after it as make 30 characters
abbrev pub filled : List ℕ → List ℕ
filled text = text ++ replicate (30 - char_count text) 32

-- the line of a description
abbrev pub group_line : List Entry → List ℕ → List ℕ
group_line entries description =
    codes "  " ++ filled (joined (names_of entries description)) ++ codes " " ++ description ++ codes "\n"

-- what stands above the lines
abbrev pub table_head : List ℕ
table_head =
    codes "             COMMAND SUMMARY\n" ++ codes "\n"
    ++ codes "  Key(s)                         Action\n"
    ++ codes "  ------                         ------\n"

-- and below them
abbrev pub table_foot : List ℕ
table_foot = codes "\n" ++ codes "  -- Press q to return to pager --\n"

-- the table: nothing, where no description is left
abbrev pub help_table : List Entry → List ℕ
help_table entries =
    if length (descriptions entries) == 0 then []
    else table_head ++ flat_map (group_line entries) (descriptions entries) ++ table_foot
