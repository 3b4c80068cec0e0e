-- What is found in a row of some is what is found in it among all.
use Rattle.std.proofs.Common.{ap, ◌∙◌}
use Rattle.minus_text.specs.Found.{found_of_row}
use Rattle.minus_text.specs.Finds.{finds}
use Rattle.minus_text.specs.FoundRows.{pattern_of}
use Rattle.minus_text.specs.Searched.{Searched}
use Rattle.minus_text.proofs.screen.Screen.search_rows.Goals as goal

pub returns-clause-found : goal.returns-clause-found
returns-clause-found c = λ i from to.
    c.in_ok-of_rows.ensures.found i from to ∙ ap (λ (s : Searched). found_of_row i (finds (pattern_of c.args.term) s.document)) c.self.view_is
