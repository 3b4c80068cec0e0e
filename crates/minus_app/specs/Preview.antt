-- Whether the page shows where a query leads while it is typed.
use Rattle.std.specs.Prelude.{◌&&◌, Bool, false, Option, None, Some, length, nat_lt, nat_le, string_bytes}
use Rattle.minus_state.specs.declared.search.opts.IncrementalSearchOpts.{IncrementalSearchOpts}
use Rattle.minus_state.specs.declared.search.opts.SearchOpts.{SearchOpts}

-- in a text of 16 MiB at most: one that is searched to its end takes a key's time then
abbrev pub is_previewed : Option IncrementalSearchOpts → Bool
is_previewed None = false
is_previewed (Some seen) = nat_le (length seen.screen.now.document.text) 16777216

-- and for a query of two bytes or more
abbrev pub shows_within : SearchOpts → Bool
shows_within opts = nat_lt 1 (length (string_bytes opts.string)) && is_previewed opts.incremental_search_options
