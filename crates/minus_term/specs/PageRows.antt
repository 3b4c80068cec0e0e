-- How many rows of text a page has.
use Rattle.std.specs.Prelude.{ℕ, ◌-◌}

-- the rows of text that a page has: one less than the rows of the terminal, the last of which is the prompt's
abbrev pub page_len : ℕ → ℕ
page_len rows = rows - 1
