-- What an option sets, by itself or with its value. A text is told by its bytes, wherever it lies.
use Rattle.std.specs.Prelude.{ℕ, ◌+◌, ◌-◌, ◌*◌, ◌==◌, ◌&&◌, ◌||◌, ◌^◌, Bool, false, not, List, [], ◌∷◌, Option, Some}
use Rattle.std.specs.Prelude.{None, if◌then◌else◌, codes, bytes_eq, nat_lt, length, map, option_map}
use Rattle.std.specs.Int.{is_in_range}
use Rattle.std.specs.Borrow.{Bor}
use Rattle.minus_view.specs.Numbers.{number}
use Rattle.minus_view.specs.OptionWords.{cut, number_len}
use Rattle.minus_view.specs.declared.arguments.Case.TheVariants as case
use Rattle.minus_view.specs.declared.arguments.AtEnd.TheVariants as at_end
use Rattle.minus_view.specs.declared.arguments.Opening.{Opening}
use Rattle.minus_view.specs.declared.arguments.Opening.TheVariants.{First, Line, End, Follows, Finds}
use Rattle.minus_view.specs.declared.arguments.Paging.{Paging}
use Rattle.minus_view.specs.declared.arguments.option_table.Setting.{Setting}
use Rattle.minus_view.specs.declared.arguments.option_table.Setting.TheVariants.{Idle, Numbers, Chops, Prints, Leaves}
use Rattle.minus_view.specs.declared.arguments.option_table.Setting.TheVariants.{Squeezes, Mouse, Case, AtEnd}
use Rattle.minus_view.specs.declared.arguments.option_table.Valued.{Valued}
use Rattle.minus_view.specs.declared.arguments.option_table.Valued.TheVariants.{Number, Text, Tabs, Pattern}
use Rattle.minus_view.specs.declared.arguments.option_table.Valued.TheVariants.{Prompt, Command}

-- a reference to a value, without the place in memory where the value lies
abbrev pub shown : {X : Type 0} → X → Bor X
shown x = record { ref_ptr = (0, 0); now = x }

-- the reference without the place in memory where its value lies
abbrev pub bare : {X : Type 0} → Bor X → Bor X
bare x = shown x.now

-- the bytes of each of the texts to which these references lead
abbrev pub texts_of : List (Bor (List ℕ)) → List (List ℕ)
texts_of texts = map (λ text. text.now) texts

-- a reference to a list of references to these texts, without the places in memory where they lie
abbrev pub shown_all : List (List ℕ) → Bor (List (Bor (List ℕ)))
shown_all texts = shown (map shown texts)

-- where the first page begins, without the place in memory of its query
abbrev pub bare_opening : Opening → Opening
bare_opening First = First
bare_opening (Line line) = Line line
bare_opening End = End
bare_opening Follows = Follows
bare_opening (Finds query) = Finds (bare query)

-- how texts are paged, told by what the names and the query are
abbrev pub bare_paging : Paging → Paging
bare_paging p =
    record p {
      opening = bare_opening p.opening;
      name = option_map bare p.name;
      texts = shown_all (texts_of p.texts.now);
    }

-- an option without a value is set, or set back
abbrev pub with_setting : Paging → Bool → Setting → Paging
with_setting so_far resets Idle = so_far
with_setting so_far resets (Numbers numbers) = record so_far { numbers = numbers && not resets }
with_setting so_far resets Chops = record so_far { chops = not resets }
with_setting so_far resets Prints = record so_far { prints = not resets }
with_setting so_far resets Leaves = record so_far { leaves = not resets }
with_setting so_far resets Squeezes = record so_far { squeezes = not resets }
with_setting so_far resets (Mouse mouse) = record so_far { mouse = mouse && not resets }
with_setting so_far resets (Case c) = record so_far { case = if resets then case.Exact else c }
with_setting so_far resets (AtEnd e) = record so_far { at_end = if resets then at_end.Stays else e }

-- the number that digits make behind `so_far`, where it has no more than 13 digits
abbrev pub line_from : ℕ → List ℕ → Option ℕ
line_from so_far [] = Some so_far
line_from so_far (b ∷ digits) =
    if is_in_range 48 57 b && nat_lt so_far (10 ^ 12) then line_from (so_far * 10 + (b - 48)) digits else None

-- a line's number, counted from 1
abbrev pub positive : Option ℕ → Option ℕ
positive (Some line) = if line == 0 then None else Some line
positive None = None

-- the number of a line, counted from 1, that these digits make; nothing where they are no number, or are 0
abbrev pub line_number : List ℕ → Option ℕ
line_number digits = positive (line_from 0 digits)

-- whether the first byte is c
abbrev pub begins_with : ℕ → List ℕ → Bool
begins_with c [] = false
begins_with c (b ∷ bytes) = b == c

-- where the first page begins, by the command behind `+`: `G` at the end, `F` at the end and followed, `/` and a query
-- at a match, and a number at that line; nothing for any other command
abbrev pub opening_of : List ℕ → Option Opening
opening_of command =
    if bytes_eq command (codes "G") then Some End
    else (if bytes_eq command (codes "F") then Some Follows
    else (if begins_with 47 command then Some (Finds (shown (cut command 1 (length command))))
    else option_map Line (line_number command)))

-- the first page begins where the command behind `+` says; nothing where the command is not known
abbrev pub with_command : Paging → List ℕ → Option Paging
with_command so_far command = option_map (λ opening. record so_far { opening = opening }) (opening_of command)

-- a value is a number
abbrev pub is_number : List ℕ → Bool
is_number value = not (length value == 0) && (number_len value == length value)

-- how far tabs stand apart, by the number at the front of a value
abbrev pub with_tab_width : Paging → List ℕ → Option Paging
with_tab_width so_far value = if number 0 value == 0 then None else Some (record so_far { tabs = number 0 value })

-- the place behind the last byte of a prompt that is no blank, before the first `?` or `%`
abbrev pub words_end : ℕ → ℕ → List ℕ → ℕ
words_end at end [] = end
words_end at end (b ∷ bytes) =
    if (b == 63) || (b == 37) then end
    else (if b == 32 then words_end (at + 1) end bytes else words_end (at + 1) (at + 1) bytes)

-- a text without a name is called by these bytes; where there are none, nothing changes
abbrev pub named : Paging → List ℕ → Paging
named so_far [] = so_far
named so_far (b ∷ name) = record so_far { name = Some (shown (b ∷ name)) }

-- a text without a name is called by the words of the prompt from the byte `from` on;
-- where there are none, nothing changes
abbrev pub with_name : Paging → List ℕ → ℕ → Paging
with_name so_far prompt from = named so_far (cut prompt from (words_end 0 0 prompt))

-- a prompt: behind `s`, `m` or `M` for a short, a middle and a long one, and a blank, its words are that; one behind
-- `h`, `=` or `w` is not that of the text
abbrev pub with_prompt : Paging → List ℕ → Paging
with_prompt so_far [] = with_name so_far [] 0
with_prompt so_far (c ∷ rest) =
    if (c == 104) || (c == 61) || (c == 119) then so_far
    else (if (c == 115) || (c == 109) || (c == 77)
    then with_name so_far (c ∷ rest) (if begins_with 32 rest then 2 else 1)
    else with_name so_far (c ∷ rest) 0)

-- an option with its value; nothing where that has to be a number, or a command, and is none
abbrev pub with_value : Paging → Valued → List ℕ → Option Paging
with_value so_far Number value = if is_number value then Some so_far else None
with_value so_far Text value = Some so_far
with_value so_far Tabs value = with_tab_width so_far value
with_value so_far Pattern value = Some (record so_far { opening = Finds (shown value) })
with_value so_far Prompt value = Some (with_prompt so_far value)
with_value so_far Command value = with_command so_far value
