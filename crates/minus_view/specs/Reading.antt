-- The options that a text says, from the left.
use Rattle.std.specs.Prelude.{ℕ, ◌+◌, ◌-◌, ◌==◌, Bool, true, false, not, List, [], ◌∷◌, Option, Some, None}
use Rattle.std.specs.Prelude.{if◌then◌else◌, length, drop, slice_index}
use Rattle.minus_view.specs.OptionWords.{cut, run_of, value_len}
use Rattle.minus_view.specs.OptionTable.{letter_kind, name_kind}
use Rattle.minus_view.specs.Paging.{bare_paging, begins_with, with_setting, with_value}
use Rattle.minus_view.specs.declared.arguments.Paging.{Paging}
use Rattle.minus_view.specs.declared.arguments.reading.Class.TheVariants.{Blank, Name, Word}
use Rattle.minus_view.specs.declared.arguments.reading.Item.{Item}
use Rattle.minus_view.specs.declared.arguments.reading.Ending.{Ending}
use Rattle.minus_view.specs.declared.arguments.reading.Ending.TheVariants as ending
use Rattle.minus_view.specs.declared.arguments.reading.Reading.{Reading}
use Rattle.minus_view.specs.declared.arguments.option_table.Valued.{Valued}
use Rattle.minus_view.specs.declared.arguments.option_table.Kind.{Kind}
use Rattle.minus_view.specs.declared.arguments.option_table.Kind.TheVariants.{Sets, Takes, Begins, Help}
use Rattle.minus_view.specs.declared.arguments.option_table.Kind.TheVariants.{Version, Unknown}

-- an option whose value begins at a place
abbrev pub begun_at : Valued → List ℕ → ℕ → Item
begun_at valued bytes from =
    record { kind = Takes valued; from = from; to = from + value_len valued (drop from bytes) }

-- an option that ends at a place; if it has a value, that follows, behind blanks
abbrev pub ended_at : Kind → List ℕ → ℕ → Item
ended_at (Takes valued) bytes end = begun_at valued bytes (end + run_of Blank (drop end bytes))
ended_at (Sets setting) bytes end = record { kind = Sets setting; from = end; to = end }
ended_at (Begins resets) bytes end = record { kind = Begins resets; from = end; to = end }
ended_at Help bytes end = record { kind = Help; from = end; to = end }
ended_at Version bytes end = record { kind = Version; from = end; to = end }
ended_at Unknown bytes end = record { kind = Unknown; from = end; to = end }

-- a named option: no `=` may stand behind one that has no value
abbrev pub known : Kind → Bool → Kind
known (Takes valued) is_told = Takes valued
known kind is_told = if is_told then Unknown else kind

-- where it ends: behind the `=`, if there is one; all of the word is one that there is not
abbrev pub named_end : Kind → Bool → List ℕ → ℕ → ℕ
named_end Unknown is_told bytes end = 2 + run_of Word (drop 2 bytes)
named_end kind is_told bytes end = if is_told then end + 1 else end

-- an option behind `--`
abbrev pub long_item : List ℕ → Item
long_item bytes =
    let end = 2 + run_of Name (drop 2 bytes) in
    let is_told = begins_with 61 (drop end bytes) in
    let kind = known (name_kind (cut bytes 2 end)) is_told in
    ended_at kind bytes (named_end kind is_told bytes end)

-- the first option of some bytes: `--` and its name, what begins options, or a letter
abbrev pub item_of : List ℕ → Item
item_of bytes =
    if not (begins_with 45 bytes) then ended_at (letter_kind (slice_index bytes 0)) bytes 1
    else (if begins_with 45 (drop 1 bytes) then long_item bytes
    else (if begins_with 43 (drop 1 bytes) then ended_at (Begins true) bytes 2
    else ended_at (Begins false) bytes 1))

-- what was read so far, without the places in memory of its texts
abbrev pub bare_reading : Reading → Reading
bare_reading r = record r { paging = bare_paging r.paging }

-- the reading before any option: the options are as `paging` says, options are set and
-- not reset, and nothing has ended the reading
abbrev pub new_reading : Paging → Reading
new_reading paging = record { paging = paging; resets = false; ending = ending.Nothing }

-- how the reading ends, by how it ended before and how it ends now: the first ending stays
abbrev pub first_of : Ending → Ending → Ending
first_of ending.Nothing now = now
first_of ending.Help now = ending.Help
first_of ending.Version now = ending.Version
first_of ending.Unknown now = ending.Unknown
first_of ending.BadNumber now = ending.BadNumber
first_of (ending.Waits valued) now = ending.Waits valued

-- the reading with this ending, or with the one that it has already
abbrev pub ends_with : Reading → Ending → Reading
ends_with so_far ending = record so_far { ending = first_of so_far.ending ending }

-- the reading after an option with its value: what the value sets, or a bad number where the option does not take it
abbrev pub valued_with : Reading → Option Paging → Reading
valued_with so_far (Some paging) = record so_far { paging = paging }
valued_with so_far None = ends_with so_far ending.BadNumber

-- the reading after an option that has a value: where the bytes end before the value, the
-- option waits for it in the next word
abbrev pub with_valued : Reading → Valued → List ℕ → Bool → Reading
with_valued so_far valued value ends =
    if ends then ends_with so_far (ending.Waits valued)
    else valued_with so_far (with_value so_far.paging valued value)

-- an option that has none
abbrev pub with_kind : Reading → Kind → Reading
with_kind so_far (Sets setting) = record so_far { paging = with_setting so_far.paging so_far.resets setting }
with_kind so_far (Begins resets) = record so_far { resets = resets }
with_kind so_far (Takes valued) = ends_with so_far (ending.Waits valued)
with_kind so_far Help = ends_with so_far ending.Help
with_kind so_far Version = ends_with so_far ending.Version
with_kind so_far Unknown = ends_with so_far ending.Unknown

-- an option, as it stands in some bytes
abbrev pub with_item : Reading → Kind → List ℕ → Bool → Reading
with_item so_far (Takes valued) value ends = with_valued so_far valued value ends
with_item so_far kind value ends = with_kind so_far kind

-- all options of a text, behind what was read before: `passed` bytes of it belong to the last option
abbrev pub read_options : Reading → ℕ → List ℕ → Reading
read_options so_far passed [] = so_far
read_options so_far passed (b ∷ bytes) =
    if passed == 0 then
    (let item = item_of (b ∷ bytes) in
    let value = cut (b ∷ bytes) item.from item.to in
    read_options (with_item so_far item.kind value (item.from == length (b ∷ bytes))) (item.to - 1) bytes)
    else read_options so_far (passed - 1) bytes
