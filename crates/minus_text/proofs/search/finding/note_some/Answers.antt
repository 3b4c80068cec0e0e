-- A row that there is stands among the rows with its number.
use Rattle.std.proofs.Common.{sym, ap, ◌∙◌, option_map}
use Rattle.minus_text.proofs.search.finding.note_some.Goals as goal

pub returns-clause-placed : goal.returns-clause-placed
returns-clause-placed c = λ first rows i at here h. c.in_ok-note.ensures.placed first rows i at (sym (ap (λ o. option_map (λ r. r.now) o) c.in-Some.is) ∙ here) h
