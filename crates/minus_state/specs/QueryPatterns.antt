-- What may be found for a query.
use Rattle.std.specs.Prelude.{◌≡◌, ◌≢◌, ℕ, List, Option, None, Some, length, nat_lt, nat_le, ◌&&◌, Bool, true, false}
use Rattle.std.specs.Str.{encode_utf8_all}
use Rattle.regex.specs.Patterns.{Re, default_config}
use Rattle.regex.specs.Strings.{regex_pattern, regex_source, regex_config, IsReadFromSource}
use Rattle.regex.specs.Failures.{IsRightKind}
use Rattle.regex.specs.Sources.{IsTextRefusal}
use Rattle.regex.specs.declared.error.Error.{Error}
use Rattle.regex.specs.declared.error.Error.TheVariants.{OutOfMemory}
use Rattle.regex.specs.declared.string.regex.Regex.{Regex}
use Rattle.minus_text.specs.Document.{line_count}
use Rattle.minus_state.specs.Control.{Control, document_of}
use Rattle.minus_state.specs.OpenPrompts.{Prompt}
use Rattle.minus_state.specs.OpenSearches.{OpenSearch}

-- the text of a query
abbrev pub query_text : Prompt → List ℕ
query_text p = encode_utf8_all p.editor.query

-- this is what the grammar of `regex` reads in a text
abbrev pub IsPatternOf : List ℕ → Re → Type 0
IsPatternOf text pattern =
    (r : Regex) × (regex_source r ≡ text) × (regex_config r ≡ default_config) × IsReadFromSource r
    × (regex_pattern r ≡ pattern)

-- whether the page shows where a query leads: its text has more than one byte, and there are at most 5,000 lines
abbrev pub shows_by_default : Control → Prompt → Bool
shows_by_default c p = nat_lt 1 (length (query_text p)) && nat_le (line_count (document_of c)) 5000

-- `regex` may build no pattern of a text, for another cause than memory
abbrev pub HasNoPattern : List ℕ → Type 0
HasNoPattern text =
    (e : Error) × (e ≢ OutOfMemory) × IsTextRefusal default_config text e × IsRightKind default_config text e

-- what may be found for a query that is taken: the pattern whose matches the page shows already, if there is one; else
-- no pattern, where none may be built, or the one that is read in its text
abbrev pub MayTakeOver : Option Re → Prompt → Option Re → Type 0
MayTakeOver (Some shown) p found = found ≡ Some shown
MayTakeOver None p None = HasNoPattern (query_text p)
MayTakeOver None p (Some pattern) = IsPatternOf (query_text p) pattern

-- what may be found for a query that is taken, by whether it was edited since the prompt was
-- opened; one that was not edited is not taken
abbrev pub MayTakeWhere : (edited : Bool) → OpenSearch → Option Re → Type 0
MayTakeWhere true o found = MayTakeOver o.preview o.prompt found
MayTakeWhere false o found = found ≡ None

-- what may be found for the query of an open search prompt that is taken
abbrev pub MayTake : OpenSearch → Option Re → Type 0
MayTake o found = MayTakeWhere o.edited o found
