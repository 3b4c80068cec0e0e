-- All rows are formed, and all that was found is told.
use Rattle.std.proofs.Common.{rules}
use Rattle.std.specs.String.{string_bytes}
use Rattle.minus_text.specs.FoundRows.{pattern_of}
use Rattle.minus_text.specs.FoundBy.{found_rows}
use Rattle.minus_text.proofs.FormatResultLaws.{tells_formed}
use Rattle.minus_text.proofs.screen.Screen.of_text.Goals as goal

pub returns-clause-ok : goal.returns-clause-ok
returns-clause-ok c = search rules

pub returns-clause-told : goal.returns-clause-told
returns-clause-told c =
    tells_formed c.with_matches.result c.in_ok-store.told c.in_ok-matches.matches (pattern_of c.args.term) (found_rows c.in_ok-found.found) c.in_ok-store.store
    (record { text = string_bytes c.args.text; layout = c.args.layout })
    c.with_matches.ensures c.in_ok-matches.ensures c.in_ok-found.ensures.found c.in_ok-store.ensures.ok c.in_ok-store.ensures.told
