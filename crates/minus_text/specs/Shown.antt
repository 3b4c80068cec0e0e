-- What a highlighted line prints.
use Rattle.std.specs.Prelude.{ℕ, Bool, List, map, string_bytes}
use Rattle.regex.specs.Patterns.{Re}
use Rattle.minus_text.specs.declared.search.escapes.Parted.{Parted}
use Rattle.minus_text.specs.declared.search.highlight.HighlightMatchesArgs.{HighlightMatchesArgs}
use Rattle.minus_text.specs.Escapes.{insert_of}
use Rattle.minus_text.specs.Highlight.{put_in, highlighted_text}

-- the bytes of a highlighted line: its text with what is put into it
abbrev pub shown_line : HighlightMatchesArgs → List ℕ
shown_line h = put_in (string_bytes h.text) 0 (map insert_of h.puts.items)

-- a parted line highlighted for a pattern
abbrev pub highlighted_parted : Re → Bool → Parted → List ℕ
highlighted_parted pattern accurate p =
    highlighted_text pattern accurate (string_bytes p.text) (map insert_of p.escapes.items)
