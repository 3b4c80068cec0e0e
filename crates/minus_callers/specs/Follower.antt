-- A text that is followed.
use Rattle.std.specs.Prelude.{◌≡◌, ℕ, ◌++◌, ◌∷◌, [], List, true, None}
use Rattle.std.specs.List.{flat_map}
use Rattle.minus_state.specs.ClampedMark.{top}
use Rattle.minus.specs.Seen.{Seen}
use Rattle.minus.specs.Waiting.{IsReady}

-- a line with the newline that ends it
abbrev pub ended : List ℕ → List ℕ
ended line = line ++ 10 ∷ []

-- this is the displayed text, its last page is the page, the page goes on with what is
-- pushed, and what is pushed does not wait
pub record Follows {Q K : Type 0} (text : List ℕ) (seen : Seen Q K) : Type 0 where
  pub shows : seen.control.text ≡ text
  pub last_page : seen.control.mark ≡ top seen.control
  pub goes_on : seen.control.settings.follow ≡ true
  pub no_help : seen.control.help ≡ None
  pub ready : IsReady seen

-- a text is followed, where help was not open and what was pushed did not wait
abbrev pub FollowsThen : {Q K : Type 0} → (old new : Seen Q K) → (text : List ℕ) → Type 0
FollowsThen old new text = old.control.help ≡ None → IsReady old → Follows text new

-- lines, each with its newline, one behind another
abbrev pub ended_all : List (List ℕ) → List ℕ
ended_all lines = flat_map ended lines
