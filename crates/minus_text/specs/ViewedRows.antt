-- What a row of a view prints.
use Rattle.std.specs.Prelude.{ℕ, List, ◌++◌, option_map}
use Rattle.minus_text.specs.declared.viewed_row.ViewedRow.{ViewedRow}
use Rattle.minus_text.specs.Formatted.{prefix_of}
use Rattle.minus_text.specs.Found.{marked}
use Rattle.minus_text.specs.FoundRows.{matches_of}
use Rattle.minus_text.specs.StyleSources.{source_style}

-- what stands before its text, the style that is carried to it, and its text with what was found in it in reverse
abbrev pub viewed_text : ViewedRow → List ℕ
viewed_text r =
    prefix_of r.row.prefix ++ source_style r.style ++ marked (option_map (λ f. matches_of f.now) r.found) r.row.row.now
