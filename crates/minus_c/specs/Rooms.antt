-- A number or a text that may not be there, and a text in a caller's room.
use Rattle.std.specs.Prelude.{◌≡◌, ◌≤◌, ◌<◌, ℕ, List, length, take, drop, true, false, Option, None, Some}
use Rattle.minus_c.specs.declared.found.Found.{Found}

-- nothing is there, for the reason with this number, 0 for none
abbrev pub found_nothing : ℕ → Found
found_nothing refusal = record { refusal = refusal; is_there = false; value = 0 }

-- this number is there, and nothing was refused
abbrev pub found_value : ℕ → Found
found_value value = record { refusal = 0; is_there = true; value = value }

-- a number, if it is there; nothing was refused
abbrev pub found_number : Option ℕ → Found
found_number None = found_nothing 0
found_number (Some number) = found_value number

-- a text is there; where it fits the room, it stands at its front, and what is behind it
-- stays; where it does not, all does
pub record IsPut (text room new : List ℕ) (found : Found) : Type 0 where
  pub tells : found ≡ found_value (length text)
  pub put : length text ≤ length room → take (length text) new ≡ text
  pub behind : drop (length text) new ≡ drop (length text) room
  pub full : length room < length text → new ≡ room

-- a text is put so where there is one
abbrev pub IsPutIf : Option (List ℕ) → (room new : List ℕ) → Found → Type 0
IsPutIf None room new found = (found ≡ found_nothing 0) × (new ≡ room)
IsPutIf (Some text) room new found = IsPut text room new found
