-- A terminal's screen as far as it is known, and what operations leave of it.
use Rattle.std.specs.Prelude.{◌≡◌, ℕ, ◌+◌, ◌-◌, nat_le, min, List, [], ◌∷◌, ◌++◌, length, map, take, drop, replicate}
use Rattle.std.specs.Prelude.{Option, Some, None, IfSome, slice_set, slice_index_or, if◌then◌else◌, Bool}
use Rattle.std.specs.Option.{option_map}
use Rattle.minus_term.specs.Operations.{Op, ClearAll, ClearRow, GoTo, Return, NextRow, Put, ScrollUp, ScrollDown}
use Rattle.minus_term.specs.Operations.{ShowCursor, HideCursor}

-- a page that a screen is to show: the text of each of its rows and, where the cursor has
-- a place in the last row, its column
pub record ShownPage : Type 0 where
  pub texts : List (List ℕ)
  pub cursor : Option ℕ

-- a screen as far as it is known: the text of each of its rows, and the cursor's row and column
pub record PlayedScreen : Type 0 where
  pub texts : List (Option (List ℕ))
  pub row : Option ℕ
  pub column : Option ℕ

-- the text of a blank row
abbrev pub blank : Option (List ℕ)
blank = Some []

-- rows of which nothing is known, as many as these
abbrev pub unknown_texts : List (Option (List ℕ)) → List (Option (List ℕ))
unknown_texts texts = replicate (length texts) None

-- whether a row, counted from 0, is the last row of a screen with this number of rows, or lies behind it
abbrev pub is_last_row : ℕ → ℕ → Bool
is_last_row rows row = nat_le rows (row + 1)

-- the rows after the cursor's row was cleared
abbrev pub cleared_row : List (Option (List ℕ)) → Option ℕ → List (Option (List ℕ))
cleared_row texts None = unknown_texts texts
cleared_row texts (Some row) = slice_set texts row blank

-- the rows after a text was put behind what the cursor's row holds
abbrev pub put_text : List ℕ → List (Option (List ℕ)) → Option ℕ → List (Option (List ℕ))
put_text text texts None = unknown_texts texts
put_text text texts (Some row) = slice_set texts row (option_map (λ held. held ++ text) (slice_index_or texts row None))

-- the rows moved up by n, and blank ones after them
abbrev pub scrolled_up : ℕ → List (Option (List ℕ)) → List (Option (List ℕ))
scrolled_up n texts = drop n texts ++ replicate (min n (length texts)) blank

-- the rows moved down by n, and blank ones before them
abbrev pub scrolled_down : ℕ → List (Option (List ℕ)) → List (Option (List ℕ))
scrolled_down n texts = replicate (min n (length texts)) blank ++ take (length texts - n) texts

-- the rows after the cursor went to the next row: in the last one they move up
abbrev pub next_texts : List (Option (List ℕ)) → Option ℕ → List (Option (List ℕ))
next_texts texts None = unknown_texts texts
next_texts texts (Some row) = if is_last_row (length texts) row then scrolled_up 1 texts else texts

-- the cursor's row after it went to the next row of a screen with this number of rows: in the last row it stays
abbrev pub next_row : ℕ → Option ℕ → Option ℕ
next_row rows None = None
next_row rows (Some row) = if is_last_row rows row then Some row else Some (row + 1)

-- the screen after one operation
abbrev pub play : Op → PlayedScreen → PlayedScreen
play ClearAll s = record { texts = replicate (length s.texts) blank; row = s.row; column = s.column }
play ClearRow s = record { texts = cleared_row s.texts s.row; row = s.row; column = s.column }
play (GoTo x y) s = record { texts = s.texts; row = Some (min y (length s.texts - 1)); column = Some x }
play Return s = record { texts = s.texts; row = s.row; column = Some 0 }
play NextRow s = record { texts = next_texts s.texts s.row; row = next_row (length s.texts) s.row; column = s.column }
play (Put text) s = record { texts = put_text text s.texts s.row; row = s.row; column = None }
play (ScrollUp n) s = record { texts = scrolled_up n s.texts; row = s.row; column = s.column }
play (ScrollDown n) s = record { texts = scrolled_down n s.texts; row = s.row; column = s.column }
play ShowCursor s = s
play HideCursor s = s

-- the screen after the operations, one after another
abbrev pub play_all : List Op → PlayedScreen → PlayedScreen
play_all [] s = s
play_all (op ∷ ops) s = play_all ops (play op s)

-- a screen with this number of rows, of which nothing is known
abbrev pub unknown_screen : ℕ → PlayedScreen
unknown_screen rows = record { texts = replicate rows None; row = None; column = None }

-- what is known of a screen that shows the page: its texts and, where the page has a cursor, the cursor's place
abbrev pub screen_of : ShownPage → PlayedScreen
screen_of page = record {
  texts = map Some page.texts;
  row = option_map (λ column. length page.texts - 1) page.cursor;
  column = page.cursor;
}

-- the screen's rows are known to be the page's and, where the page has a cursor, the cursor to be there
pub record Shows (screen : PlayedScreen) (page : ShownPage) : Type 0 where
  pub texts : screen.texts ≡ map Some page.texts
  pub cursor : IfSome page.cursor (λ x. (screen.row ≡ Some (length page.texts - 1)) × (screen.column ≡ Some x))

-- from what the old page makes known of a screen, the operations lead to one that shows the new page
abbrev pub Draws : List Op → ShownPage → ShownPage → Type 0
Draws ops old new = Shows (play_all ops (screen_of old)) new

-- what is known of the first is known of the second too
abbrev pub Below : {A : Type 0} → Option A → Option A → Type 0
Below None known = Unit {0}
Below (Some x) known = known ≡ Some x

-- what is known of the first rows is known of the second too, and they are as many
abbrev pub AllBelow : List (Option (List ℕ)) → List (Option (List ℕ)) → Type 0
AllBelow [] [] = Unit {0}
AllBelow [] (q ∷ qs) = ⊥
AllBelow (p ∷ ps) [] = ⊥
AllBelow (p ∷ ps) (q ∷ qs) = Below p q × AllBelow ps qs

-- what is known of the first screen is known of the second too
pub record IsBelow (s t : PlayedScreen) : Type 0 where
  pub texts : AllBelow s.texts t.texts
  pub row : Below s.row t.row
  pub column : Below s.column t.column

-- what operations show on a screen of which nothing is known, they show on every screen with as many rows
abbrev pub UnknownStandsForAll : Type 0
UnknownStandsForAll =
    (ops : List Op) (page : ShownPage) (s : PlayedScreen) → Shows (play_all ops (unknown_screen (length s.texts))) page
    → Shows (play_all ops s) page

-- what a play makes known from a screen, it makes known from each screen of which more is known
abbrev pub PlayIsMonotone : Type 0
PlayIsMonotone = (ops : List Op) (s t : PlayedScreen) → IsBelow s t → IsBelow (play_all ops s) (play_all ops t)
