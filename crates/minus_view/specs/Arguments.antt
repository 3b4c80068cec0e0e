-- What the words behind the program's name ask for, and why they ask for nothing. They are read from the left.
use Rattle.std.specs.Prelude.{ℕ, ◌==◌, ◌||◌, Bool, false, List, [], ◌∷◌, Option, Some, None, Result, Ok, Err}
use Rattle.std.specs.Prelude.{if◌then◌else◌, codes, bytes_eq, option_map}
use Rattle.std.specs.Borrow.{Bor}
use Rattle.minus_view.specs.Paging.{shown, shown_all, bare, bare_paging, with_value}
use Rattle.minus_view.specs.Reading.{new_reading, read_options}
use Rattle.minus_view.specs.declared.arguments.Case.TheVariants.{Exact}
use Rattle.minus_view.specs.declared.arguments.AtEnd.TheVariants.{Stays}
use Rattle.minus_view.specs.declared.arguments.Opening.TheVariants.{First}
use Rattle.minus_view.specs.declared.arguments.Paging.{Paging}
use Rattle.minus_view.specs.declared.arguments.Arguments.{Arguments}
use Rattle.minus_view.specs.declared.arguments.Arguments.TheVariants.{Page, Help, Version}
use Rattle.minus_view.specs.declared.arguments.ArgumentFault.{ArgumentFault}
use Rattle.minus_view.specs.declared.arguments.ArgumentFault.TheVariants.{UnknownOption, BadNumber, NoValue}
use Rattle.minus_view.specs.declared.arguments.reading.Ending.{Ending}
use Rattle.minus_view.specs.declared.arguments.reading.Ending.TheVariants as ending
use Rattle.minus_view.specs.declared.arguments.option_table.Valued.{Valued}
use Rattle.minus_view.specs.declared.arguments.words.Words.{Words}
use Rattle.minus_view.specs.declared.arguments.words.Step.{Step}
use Rattle.minus_view.specs.declared.arguments.words.Step.TheVariants.{Options, End, Text, Says}

-- arguments without the places in memory of their texts, so that those with equal texts are equal
abbrev pub bare_arguments : Arguments → Arguments
bare_arguments (Page paging) = Page (bare_paging paging)
bare_arguments Help = Help
bare_arguments Version = Version

-- a fault of the words without the place in memory of the word that it names
abbrev pub bare_fault : ArgumentFault → ArgumentFault
bare_fault (UnknownOption word) = UnknownOption (bare word)
bare_fault (BadNumber word) = BadNumber (bare word)
bare_fault (NoValue word) = NoValue (bare word)

-- the answer to all words, arguments or a fault, without the places in memory of its texts
abbrev pub bare_answer : Result Arguments ArgumentFault → Result Arguments ArgumentFault
bare_answer (Ok arguments) = Ok (bare_arguments arguments)
bare_answer (Err fault) = Err (bare_fault fault)

-- what the words so far have set, without the places in memory of its texts and of the option that waits for its value
abbrev pub bare_words : Words → Words
bare_words w = record { paging = bare_paging w.paging; waiting = option_map (λ x. (x.0, bare x.1)) w.waiting }

-- what one word says, without the places in memory of its texts
abbrev pub bare_said : Step → Step
bare_said (Options words) = Options (bare_words words)
bare_said End = End
bare_said Text = Text
bare_said (Says arguments) = Says (bare_arguments arguments)

-- what one word says, or its fault, without the places in memory of its texts
abbrev pub bare_step : Result Step ArgumentFault → Result Step ArgumentFault
bare_step (Ok step) = Ok (bare_said step)
bare_step (Err fault) = Err (bare_fault fault)

-- nothing is asked for: standard input from its first line on
abbrev pub default_paging : Paging
default_paging = record {
  numbers = false;
  chops = false;
  prints = false;
  leaves = false;
  squeezes = false;
  mouse = false;
  case = Exact;
  at_end = Stays;
  tabs = 8;
  opening = First;
  name = None;
  texts = shown_all [];
}

-- a word of options: `-` or `+`, and more
abbrev pub is_option : List ℕ → Bool
is_option [] = false
is_option (c ∷ []) = false
is_option (c ∷ d ∷ rest) = (c == 45) || (c == 43)

-- the answer to a word of options, by what its reading ended with: more words follow, the last option waits for its
-- value in the next word, help or the version is asked for, or the word is at fault
abbrev pub after_word : Paging → Ending → List ℕ → Result Step ArgumentFault
after_word paging ending.Nothing word = Ok (Options (record { paging = paging; waiting = None }))
after_word paging (ending.Waits valued) word =
    Ok (Options (record { paging = paging; waiting = Some (valued, shown word) }))
after_word paging ending.Help word = Ok (Says Help)
after_word paging ending.Version word = Ok (Says Version)
after_word paging ending.Unknown word = Err (UnknownOption (shown word))
after_word paging ending.BadNumber word = Err (BadNumber (shown word))

-- the answer to a word of options: `-h` asks for help, and in any other word the options are read from the left
abbrev pub read_word : Paging → List ℕ → Result Step ArgumentFault
read_word so_far word =
    if bytes_eq word (codes "-h") then Ok (Says Help)
    else (let reading = read_options (new_reading so_far) 0 word in after_word reading.paging reading.ending word)

-- the answer to a word that is the value of an option: what it sets, or a fault where the option does not take it
abbrev pub after_value : Option Paging → List ℕ → Result Step ArgumentFault
after_value (Some paging) value = Ok (Options (record { paging = paging; waiting = None }))
after_value None value = Err (BadNumber (shown value))

-- the answer to a word that is the value of the option `valued`, which the word before ended with
abbrev pub read_value : Paging → Valued → List ℕ → Result Step ArgumentFault
read_value so_far valued value = after_value (with_value so_far valued value) value

-- the answer to one word other than `--`: the value of the option that waits for one, or else options, or
-- else the first text, which ends the options
abbrev pub next_of : Option (Valued × Bor (List ℕ)) → Paging → List ℕ → Result Step ArgumentFault
next_of (Some waiting) so_far word = read_value so_far waiting.0 word
next_of None so_far word = if is_option word then read_word so_far word else Ok Text

-- the answer to one word: `--` ends the options, even where an option waits for its value
abbrev pub next_word : Words → List ℕ → Result Step ArgumentFault
next_word so_far word = if bytes_eq word (codes "--") then Ok End else next_of so_far.waiting so_far.paging word

-- the texts are paged, where no option lacks its value
abbrev pub paged_unless : Option (Valued × Bor (List ℕ)) → Paging → List (List ℕ) → Result Arguments ArgumentFault
paged_unless (Some waiting) paging texts = Err (NoValue waiting.1)
paged_unless None paging texts = Ok (Page (record paging { texts = shown_all texts }))

-- the answer to these texts behind all options: they are paged, or the option that still
-- waits for its value is the fault
abbrev pub paged : Words → List (List ℕ) → Result Arguments ArgumentFault
paged so_far texts = paged_unless so_far.waiting so_far.paging texts

-- all words: what asks for help or the version, and what is at fault, ends it
abbrev pub goes_on : Result Step ArgumentFault → Words → List ℕ → List (List ℕ)
    → (Words → Result Arguments ArgumentFault) → Result Arguments ArgumentFault
goes_on (Ok (Options words)) so_far word texts rest = rest words
goes_on (Ok End) so_far word texts rest = paged so_far texts
goes_on (Ok Text) so_far word texts rest = paged so_far (word ∷ texts)
goes_on (Ok (Says arguments)) so_far word texts rest = Ok arguments
goes_on (Err fault) so_far word texts rest = Err fault

-- no word was read yet: the options are as `paging` says, and none waits for a value
abbrev pub new_words : Paging → Words
new_words paging = record { paging = paging; waiting = None }

-- the answer to the words from the left, behind what was read so far
abbrev pub read_words : Words → List (List ℕ) → Result Arguments ArgumentFault
read_words so_far [] = paged so_far []
read_words so_far (word ∷ words) = goes_on (next_word so_far word) so_far word words (λ next. read_words next words)

-- what a variable sets comes first
abbrev pub arguments_of : List ℕ → List (List ℕ) → Result Arguments ArgumentFault
arguments_of set words = read_words (new_words (read_options (new_reading default_paging) 0 set).paging) words
