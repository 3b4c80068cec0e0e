-- The place of the page in its text, which stays where the rows become others.
use Rattle.std.specs.Prelude.{ℕ, ◌==◌, Option, None, Some, if◌then◌else◌}
use Rattle.minus_state.specs.declared.state.PagerState.{PagerState}
use Rattle.minus_app.specs.Prompt.{start_of}
use Rattle.minus_app.specs.declared.view.kept_place.PutAt.{PutAt}

-- the place of the page, in bytes of its text: the one that it was put at, as long as it begins with the row with which
-- it began then, and else where its first row begins
abbrev pub place_of : Option PutAt → PagerState → ℕ
place_of None state = start_of state state.upper_mark
place_of (Some put) state = if put.mark == state.upper_mark then put.byte else start_of state state.upper_mark
