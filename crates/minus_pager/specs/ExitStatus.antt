-- The status that the pager ends with where it pages nothing, or no more.
use Rattle.std.specs.Prelude.{ℕ}
use Rattle.minus_pager.specs.declared.exit_status.Refusal.{Refusal}
use Rattle.minus_pager.specs.declared.exit_status.Refusal.TheVariants.{Words, Failed}

-- 2 where the words are at fault, and 1 else
abbrev pub status_of : Refusal → ℕ
status_of (Words said) = 2
status_of (Failed cause) = 1
