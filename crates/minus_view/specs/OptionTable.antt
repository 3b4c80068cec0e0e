-- The table of options, by their letters and by their names: what each does here, as `less` has them. A letter is told
-- by its code, and a name by its bytes.
use Rattle.std.specs.Prelude.{ℕ, ◌==◌, ◌||◌, Bool, true, false, List, [], ◌∷◌, Option, Some, None, if◌then◌else◌, codes}
use Rattle.std.specs.Prelude.{bytes_eq}
use Rattle.std.specs.Int.{is_in_range}
use Rattle.std.specs.List.{list_any}
use Rattle.minus_view.specs.declared.arguments.Case.TheVariants.{Smart, Ignored}
use Rattle.minus_view.specs.declared.arguments.AtEnd.TheVariants.{EndsAtSecond, EndsAtFirst}
use Rattle.minus_view.specs.declared.arguments.option_table.Setting.{Setting}
use Rattle.minus_view.specs.declared.arguments.option_table.Setting.TheVariants.{Idle, Numbers, Chops, Prints, Leaves}
use Rattle.minus_view.specs.declared.arguments.option_table.Setting.TheVariants.{Squeezes, Mouse, Case, AtEnd}
use Rattle.minus_view.specs.declared.arguments.option_table.Valued.{Valued}
use Rattle.minus_view.specs.declared.arguments.option_table.Valued.TheVariants.{Number, Text, Tabs, Pattern}
use Rattle.minus_view.specs.declared.arguments.option_table.Valued.TheVariants.{Prompt, Command}
use Rattle.minus_view.specs.declared.arguments.option_table.Kind.{Kind}
use Rattle.minus_view.specs.declared.arguments.option_table.Kind.TheVariants.{Sets, Takes, Help, Version, Unknown}

-- whether a letter is one of these letters
abbrev pub is_one_of : ℕ → List ℕ → Bool
is_one_of letter letters = list_any (λ c. letter == c) letters

-- whether a name is one of these names
abbrev pub is_named : List ℕ → List (List ℕ) → Bool
is_named name names = list_any (bytes_eq name) names

-- letters that mean nothing here: options of `less`, digits, blanks and `$`
abbrev pub is_idle_letter : ℕ → Bool
is_idle_letter c = is_in_range 48 57 c || is_one_of c (9 ∷ codes " $aABcCdfgGJKLmMqQrRuUwW~")

-- a letter that has a value
abbrev pub letter_value : ℕ → Option Valued
letter_value c =
    if c == 120 then Some Tabs  -- x
    else (if c == 112 then Some Pattern  -- p
    else (if c == 80 then Some Prompt  -- P
    else (if c == 43 then Some Command  -- +
    else (if is_one_of c (codes "bhjyz#") then Some Number
    else (if is_one_of c (codes "DkoOtT\"") then Some Text else None)))))

-- a letter that sets something, and has no value
abbrev pub letter_setting : ℕ → Option Setting
letter_setting c =
    if c == 78 then Some (Numbers true)  -- N
    else (if c == 110 then Some (Numbers false)  -- n
    else (if c == 83 then Some Chops  -- S
    else (if c == 70 then Some Prints  -- F
    else (if c == 88 then Some Leaves  -- X
    else (if c == 115 then Some Squeezes  -- s
    else (if c == 105 then Some (Case Smart)  -- i
    else (if c == 73 then Some (Case Ignored)  -- I
    else (if c == 101 then Some (AtEnd EndsAtSecond)  -- e
    else (if c == 69 then Some (AtEnd EndsAtFirst)  -- E
    else (if is_idle_letter c then Some Idle else None))))))))))

-- an option that sets something; or one that has a value; or neither
abbrev pub kind_of : Option Setting → Option Valued → Kind → Kind
kind_of (Some setting) valued other = Sets setting
kind_of None (Some valued) other = Takes valued
kind_of None None other = other

-- the option of a letter
abbrev pub letter_kind : ℕ → Kind
letter_kind c =
    kind_of (letter_setting c) (letter_value c) (if c == 63 then Help else (if c == 86 then Version else Unknown))

-- names without a value that mean nothing here
abbrev pub is_idle_name : List ℕ → Bool
is_idle_name name =
    is_named name (codes "CLEAR-SCREEN" ∷ codes "HILITE-SEARCH" ∷ codes "HILITE-UNREAD" ∷ codes "LONG-PROMPT"
    ∷ codes "QUIET" ∷ codes "RAW-CONTROL-CHARS" ∷ codes "SEARCH-SKIP-SCREEN" ∷ codes "SILENT"
    ∷ codes "UNDERLINE-SPECIAL" ∷ codes "auto-buffers" ∷ codes "clear-screen" ∷ codes "dumb" ∷ codes "file-size"
    ∷ codes "follow-name" ∷ codes "force" ∷ codes "hilite-search" ∷ codes "hilite-unread" ∷ codes "incsearch"
    ∷ codes "long-prompt" ∷ codes "no-histdups" ∷ codes "no-keypad" ∷ codes "no-lessopen" ∷ codes "old-bot"
    ∷ codes "quiet" ∷ codes "quit-on-intr" ∷ codes "raw-control-chars" ∷ codes "save-marks"
    ∷ codes "search-skip-screen" ∷ codes "silent" ∷ codes "status-column" ∷ codes "tilde"
    ∷ codes "underline-special" ∷ codes "use-backslash" ∷ codes "use-color" ∷ [])

-- a name that sets something, and has no value
abbrev pub name_setting : List ℕ → Option Setting
name_setting name =
    if bytes_eq name (codes "LINE-NUMBERS") then Some (Numbers true)
    else (if bytes_eq name (codes "line-numbers") then Some (Numbers false)
    else (if bytes_eq name (codes "chop-long-lines") then Some Chops
    else (if bytes_eq name (codes "quit-if-one-screen") then Some Prints
    else (if bytes_eq name (codes "no-init") then Some Leaves
    else (if bytes_eq name (codes "squeeze-blank-lines") then Some Squeezes
    else (if is_named name (codes "mouse" ∷ codes "MOUSE" ∷ []) then Some (Mouse true)
    else (if bytes_eq name (codes "no-mouse") then Some (Mouse false)
    else (if bytes_eq name (codes "ignore-case") then Some (Case Smart)
    else (if bytes_eq name (codes "IGNORE-CASE") then Some (Case Ignored)
    else (if bytes_eq name (codes "quit-at-eof") then Some (AtEnd EndsAtSecond)
    else (if bytes_eq name (codes "QUIT-AT-EOF") then Some (AtEnd EndsAtFirst)
    else (if is_idle_name name then Some Idle else None))))))))))))

-- a name that has a value
abbrev pub name_value : List ℕ → Option Valued
name_value name =
    if bytes_eq name (codes "tabs") then Some Tabs
    else (if bytes_eq name (codes "pattern") then Some Pattern
    else (if bytes_eq name (codes "prompt") then Some Prompt
    else (if is_named name (codes "buffers" ∷ codes "jump-target" ∷ codes "line-num-width" ∷ codes "max-back-scroll"
    ∷ codes "max-forw-scroll" ∷ codes "shift" ∷ codes "status-col-width" ∷ codes "wheel-lines" ∷ codes "window" ∷ [])
    then Some Number
    else (if is_named name (codes "LOG-FILE" ∷ codes "color" ∷ codes "lesskey-file" ∷ codes "lesskey-src"
    ∷ codes "log-file" ∷ codes "quotes" ∷ codes "rscroll" ∷ codes "tag" ∷ codes "tag-file" ∷ [])
    then Some Text else None))))

-- a name that does neither
abbrev pub name_other : List ℕ → Kind
name_other name =
    if bytes_eq name (codes "help") then Help else (if bytes_eq name (codes "version") then Version else Unknown)

-- the option of a name
abbrev pub name_kind : List ℕ → Kind
name_kind name = kind_of (name_setting name) (name_value name) (name_other name)
