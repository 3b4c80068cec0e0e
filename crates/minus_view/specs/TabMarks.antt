-- Tabs that are shown as spaces: their marks in a prepared text, where they stand in it, and the text with tabs again.
use Rattle.std.specs.Prelude.{ℕ, ◌≡◌, ◌+◌, ◌-◌, ◌==◌, ◌&&◌, Bool, true, nat_le, nat_lt, zero, suc, List, [], ◌∷◌, ◌++◌}
use Rattle.std.specs.Prelude.{Option, Some, None, length, take, drop, replicate, unwrap_or, option_and_then}
use Rattle.std.specs.Prelude.{if◌then◌else◌}
use Rattle.std.specs.Int.{is_in_range}
use Rattle.std.specs.List.{prefix_len}
use Rattle.minus_view.specs.declared.tab_marks.Tab.{Tab}

-- what stands before and behind the spaces of a tab where no style is open, `ESC[m`
abbrev pub tab_mark : List ℕ
tab_mark = 27 ∷ 91 ∷ 109 ∷ []

-- what stands for a tab: `count` spaces, between marks or not
abbrev pub tab_text : Bool → ℕ → List ℕ
tab_text marks count = if marks then tab_mark ++ (replicate count 32 ++ tab_mark) else replicate count 32

-- what follows a byte at the front
abbrev pub past : ℕ → List ℕ → Option (List ℕ)
past c [] = None
past c (b ∷ bytes) = if b == c then Some bytes else None

-- what follows a mark behind its `ESC`: `[m`, or `[:m` where a style is open
abbrev pub past_mark : List ℕ → Option (List ℕ)
past_mark bytes = option_and_then (λ numbers. past 109 (unwrap_or (past 58 numbers) numbers)) (past 91 bytes)

-- how many bytes of a mark stand behind its `ESC`; 0 where there is none
abbrev pub len_behind : List ℕ → Option (List ℕ) → ℕ
len_behind bytes None = 0
len_behind bytes (Some rest) = length bytes - length rest

-- the number of bytes of a mark behind its `ESC` at the front of these, 0 where none stands there
abbrev pub mark_len : List ℕ → ℕ
mark_len bytes = len_behind bytes (past_mark bytes)

-- how many bytes behind a byte are skipped with it
abbrev pub passed : ℕ → List ℕ → ℕ
passed b bytes = if b == 27 then mark_len bytes else 0

-- a text without its marks, where `skip` bytes are skipped first
abbrev pub unmarked_behind : ℕ → List ℕ → List ℕ
unmarked_behind skip [] = []
unmarked_behind zero (b ∷ bytes) =
    if passed b bytes == 0 then b ∷ unmarked_behind zero bytes else unmarked_behind (passed b bytes) bytes
unmarked_behind (suc skip) (b ∷ bytes) = unmarked_behind skip bytes

-- the text without the marks of its tabs
abbrev pub unmarked : List ℕ → List ℕ
unmarked bytes = unmarked_behind 0 bytes

-- the tab that ends at a mark at `place`, if one was begun
abbrev pub ended_tab : Option ℕ → ℕ → List Tab
ended_tab None place = []
ended_tab (Some start) place = record { start = start; end = place } ∷ []

-- the place where a tab begins, after a mark at `place`: a mark begins a tab where none
-- was begun, and otherwise ends it
abbrev pub begun_tab : Option ℕ → ℕ → Option ℕ
begun_tab None place = Some place
begun_tab (Some start) place = None

-- where the tabs of a text stand in it without its marks, where it begins at a place, in a tab or not
abbrev pub tabs_behind : ℕ → Option ℕ → ℕ → List ℕ → List Tab
tabs_behind place begun skip [] = []
tabs_behind place begun zero (b ∷ bytes) =
    if passed b bytes == 0 then tabs_behind (place + 1) begun zero bytes
    else ended_tab begun place ++ tabs_behind place (begun_tab begun place) (passed b bytes) bytes
tabs_behind place begun (suc skip) (b ∷ bytes) = tabs_behind place begun skip bytes

-- the tabs of a text with marks, each as the places in the text without marks where its spaces begin and end, in bytes;
-- the text begins at `place`, and `begun` is where a tab began before it
abbrev pub tab_places : ℕ → Option ℕ → List ℕ → List Tab
tab_places place begun bytes = tabs_behind place begun 0 bytes

-- a text that begins at a place has the spaces of a tab
abbrev pub has_tab : ℕ → List ℕ → Tab → Bool
has_tab place text tab =
    nat_le place tab.start
    && (nat_lt tab.start tab.end
    && nat_le (tab.end - tab.start) (prefix_len (is_in_range 32 32) (drop (tab.start - place) text)))

-- a text that begins at a place has the spaces of a tab, and these bytes stand before and behind them
abbrev pub IsCutAt : ℕ → List ℕ → Tab → (front behind : List ℕ) → Type 0
IsCutAt place text tab front behind =
    (has_tab place text tab ≡ true)
    × (front ≡ take (tab.start - place) text) × (behind ≡ drop (tab.end - place) text)

-- a text that begins at a place with these tabs in the place of their spaces, where it has them
abbrev pub with_tabs : ℕ → List ℕ → List Tab → List ℕ
with_tabs place text [] = text
with_tabs place text (tab ∷ tabs) =
    if has_tab place text tab
    then take (tab.start - place) text ++ 9 ∷ with_tabs tab.end (drop (tab.end - place) text) tabs
    else with_tabs place text tabs
