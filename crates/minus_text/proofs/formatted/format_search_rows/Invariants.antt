use Rattle.std.proofs.Common.{◌≡◌, map, option_map, take}
use Rattle.minus_text.specs.FoundRows.{finder_pattern, pattern_of}
use Rattle.minus_text.specs.Formatted.{printed_under, printed_searched, row_matches}
use Rattle.minus_text.proofs.formatted.format_search_rows.Given as goal

abbrev pub invariant-loop-row : goal.invariant-loop-row
invariant-loop-row l =
    (option_map finder_pattern l.finder ≡ pattern_of l.search_term)
    × (map (λ r. printed_searched r.0) l.found.items ≡ map (printed_under (pattern_of l.search_term)) (take l.row-index l.rows))
    × (map (λ r. r.1) l.found.items ≡ map (λ r. row_matches (pattern_of l.search_term) r.row.now) (take l.row-index l.rows))
