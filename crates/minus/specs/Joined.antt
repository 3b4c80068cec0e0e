-- Neighbouring appends that are read in, or performed, together.
use Rattle.std.specs.Prelude.{◌≡◌, ℕ, ◌^◌, ◌<◌, List, [], ◌∷◌, ◌++◌, length, map, None, false}
use Rattle.std.specs.List.{concat}
use Rattle.std.specs.Str.Lines.{lines}
use Rattle.minus_state.specs.Control.{Control}
use Rattle.minus_commands.specs.Reads.{Told, a_command}
use Rattle.minus_commands.specs.Shapes.{adds_text}
use Rattle.minus_commands.specs.Table.{Wanted, appends_data, changed_by}
use Rattle.minus_state.specs.declared.hooks.HookId.{HookId}
use Rattle.minus.specs.Starts.{taken_all}
use Rattle.minus_commands.specs.WaitingRegistrations.{CanTakeAll}
use Rattle.minus_commands.specs.Unmoved.{unmoved}

-- appends of these texts, one after another
abbrev pub appends : {Q K : Type 0} → List (List ℕ) → List (Wanted Q K)
appends texts = map appends_data texts

-- appends may be read in together: help is open, or the page stays at its first row and nothing is searched for
abbrev pub MayJoin : Control → Type 0
MayJoin c = c.help ≡ None → (c.mark ≡ 0) × (c.term ≡ None)

-- appends that are read in together leave what they leave one after another
abbrev pub AppendsJoin : Type 0 → Type 0 → Type 0
AppendsJoin Q K = (c : Control) (texts : List (List ℕ)) → MayJoin c → 0 < length texts
    → taken_all {Q = Q} {K = K} c (appends texts) ≡ unmoved {Q = Q} {K = K} c (appends_data (concat texts))

-- some commands are read in as this one first and then those that are left
abbrev pub TakesFirst : {Q K : Type 0} → Control → (all : List (Wanted Q K)) → (first : Wanted Q K)
    → (left : List (Wanted Q K)) → Type 0
TakesFirst c all first left = taken_all (unmoved c first) left ≡ taken_all c all

-- where all commands can be read in, so can those that are left
abbrev pub CanTakeRest : {Q K : Type 0} → (all left : List (Wanted Q K)) → Type 0
CanTakeRest all left = (ids : List HookId) → CanTakeAll ids all → (free : List HookId) × CanTakeAll free left

-- some begin with appends, and others stand behind these; with a text before theirs, these are joined
pub record AreJoined {X : Type 0} (append : List ℕ → X) (first : List ℕ) (all : List X) (joined : List ℕ)
    (behind : List X) : Type 0 where
  pub texts : List (List ℕ)
  pub front : all ≡ map append texts ++ behind
  pub text : joined ≡ first ++ concat texts

-- what an append leaves that is performed alone
abbrev pub appended_to : Control → List ℕ → Control
appended_to c text = changed_by (adds_text c text)

-- what appends of these texts leave that are performed one after another
abbrev pub appended_all : Control → List (List ℕ) → Control
appended_all c [] = c
appended_all c (text ∷ texts) = appended_all (appended_to c text) texts

-- appends may be performed together: no search prompt is open, and help is open, or the page stays at its first row,
-- does not go on with what is appended, and nothing is searched for
pub record MayWorkJoined (c : Control) : Type 0 where
  pub closed : c.search ≡ None
  pub may : MayJoin c
  pub stays : c.help ≡ None → c.settings.follow ≡ false

-- appends that are performed together leave what they leave one after another
abbrev pub WorkedAppendsJoin : Type 0
WorkedAppendsJoin =
    (c : Control) (texts : List (List ℕ)) → MayWorkJoined c → 0 < length texts
    → appended_all c texts ≡ appended_to c (concat texts)

-- the input that appends a text
abbrev pub append_told : {Q K : Type 0} → List ℕ → Told Q K
append_told text = a_command (appends_data text)

-- the inputs that append these texts, in their order
abbrev pub appending : {Q K : Type 0} → List (List ℕ) → List (Told Q K)
appending texts = map append_told texts

-- `count` appends wait behind one that is taken, and may be performed together with it: the
-- joined text is its text with theirs behind it
pub record MayGoWith {Q K : Type 0} (c : Control) (told : Told Q K) (waiting : List (Told Q K)) (joined : List ℕ)
    (count : ℕ) : Type 0 where
  pub text : List ℕ
  pub texts : List (List ℕ)
  pub behind : List (Told Q K)
  pub told_is : told ≡ append_told text
  pub waits : waiting ≡ appending texts ++ behind
  pub joined_is : joined ≡ concat (text ∷ texts)
  pub count_is : count ≡ length texts
  pub may : MayWorkJoined c
  pub fits : c.help ≡ None → length (lines (c.text ++ joined)) < 2 ^ 64
