-- Which of several texts is next.
use Rattle.std.specs.Prelude.{ℕ, ◌+◌, ◌-◌, nat_lt, Option, None, Some, if◌then◌else◌}
use Rattle.minus_app.specs.declared.app.Neighbour.{Neighbour}
use Rattle.minus_app.specs.declared.app.Neighbour.TheVariants.{Next, Before}

-- the place of the next text among this many, or of the one before, where there is one
abbrev pub neighbour_of : (at count : ℕ) → Neighbour → Option ℕ
neighbour_of at count Next = if nat_lt (at + 1) count then Some (at + 1) else None
neighbour_of at count Before = if nat_lt 0 at then Some (at - 1) else None
