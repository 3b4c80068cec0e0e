-- Hyphenation: where a word may be cut at a hyphen. A word is here the list of its characters.
use Rattle.std.specs.Prelude.{◌≡◌, ℕ, ◌+◌, ◌<◌, ◌==◌, ◌&&◌, Bool, true, false, not, List, [], ◌∷◌, ◌++◌, length}
use Rattle.std.specs.Prelude.{if◌then◌else◌}
use Rattle.std.specs.List.{concat, All}
use Rattle.std.specs.Char.{is_ascii_alphanumeric}
use Rattle.minus_text.specs.Cuts.{cuts}

-- no hyphen, at which alone a word is cut
abbrev pub is_unhyphened : ℕ → Bool
is_unhyphened c = not (c == 45)

-- an ASCII letter or digit comes first
abbrev pub begins_alphanumeric : List ℕ → Bool
begins_alphanumeric [] = false
begins_alphanumeric (c ∷ cs) = is_ascii_alphanumeric c

-- how many characters the first part has, if an ASCII letter or digit stands before the text or not:
-- it ends with the first hyphen between such letters or digits, or with the text
abbrev pub part_len_after : Bool → List ℕ → ℕ
part_len_after before [] = 0
part_len_after before (c ∷ cs) =
    if before && ((c == 45) && begins_alphanumeric cs) then 1 else 1 + part_len_after (is_ascii_alphanumeric c) cs

-- the whole text is its first part
abbrev pub IsOnePart : List ℕ → Type 0
IsOnePart cs = part_len_after false cs ≡ length cs

-- the parts of a word's body, cut after each hyphen between ASCII letters or digits
abbrev pub parts : List ℕ → List (List ℕ)
parts cs = cuts (part_len_after false) cs

-- a hyphen between ASCII letters or digits ends the front of a word
pub record EndsAtJoint (front rest : List ℕ) : Type 0 where
  pub before : List ℕ
  pub letter : ℕ
  pub next : ℕ
  pub more : List ℕ
  pub front_is : front ≡ before ++ letter ∷ 45 ∷ []
  pub rest_is : rest ≡ next ∷ more
  pub between : (is_ascii_alphanumeric letter && is_ascii_alphanumeric next) ≡ true

-- no such hyphen stands inside
abbrev pub HasNoJoint : List ℕ → Type 0
HasNoJoint cs =
    (before more : List ℕ) (letter next : ℕ) → cs ≡ before ++ letter ∷ 45 ∷ next ∷ more
    → (is_ascii_alphanumeric letter && is_ascii_alphanumeric next) ≡ false

-- the parts of a word, one after another, are the word; each cut stands after a hyphen between ASCII letters or digits,
-- and no such hyphen is left inside a part
pub record IsCutAtJoints (word : List ℕ) : Type 0 where
  pub joins : concat (parts word) ≡ word
  pub cuts_stand :
      (before after : List (List ℕ)) → parts word ≡ before ++ after → 0 < length before → 0 < length after
      → EndsAtJoint (concat before) (concat after)
  pub none_left : All HasNoJoint (parts word)

-- each word is cut so
abbrev pub WordsAreCutAtJoints : Type 0
WordsAreCutAtJoints = (word : List ℕ) → IsCutAtJoints word
