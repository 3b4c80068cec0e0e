use Rattle.std.proofs.Common.{◌≡◌, true, false, eqb, [], ◌∷◌, ◌++◌, map, length, sym, ap, ◌∙◌}
use Rattle.std.proofs.lemmas.List.{append-nil, map-append}
use Rattle.minus_text.specs.FoundRows.{finder_pattern, matches_of}
use Rattle.minus_text.proofs.FoundLaws.{not_noted, noted}
use Rattle.minus_text.proofs.FoundInLaws.{note_placed}
use Rattle.minus_text.proofs.search.found.Finder.note.Goals as goal

pub returns-then-is_empty-clause-found : goal.returns-then-is_empty-clause-found
returns-then-is_empty-clause-found c =
    let f = c.in_ok-here.here in
    let old = map matches_of c.args.found.now.items in
    let none : eqb (length f.matches.items) 0 ≡ true = ap (λ n. eqb n 0) (sym f.matches.ok.0) ∙ sym c.is_empty.ensures ∙ c.if-is_empty.true in
    let e = c.in_ok-here.ensures in
    sym (append-nil old) ∙ ap (λ l. old ++ l) (sym (not_noted (finder_pattern c.args.self.now) c.args.n c.args.row.now f e.row e.escapes e.matches e.begins none))

pub returns-clause-found : goal.returns-clause-found
returns-clause-found c =
    let f = c.in_ok-here.here in
    let old = map matches_of c.args.found.now.items in
    let some : eqb (length f.matches.items) 0 ≡ false = ap (λ n. eqb n 0) (sym f.matches.ok.0) ∙ sym c.is_empty.ensures ∙ c.if-is_empty.false in
    let e = c.in_ok-here.ensures in
    ap (map matches_of) c.in_ok-push.ensures.items ∙ map-append matches_of c.args.found.now.items (f ∷ [])
    ∙ ap (λ l. old ++ l) (noted (finder_pattern c.args.self.now) c.args.n c.args.row.now f e.row e.escapes e.matches e.begins some)

pub returns-clause-placed : goal.returns-clause-placed
returns-clause-placed c = λ first rows i at here h.
    let e = c.in_ok-here.ensures in
    note_placed first rows i c.args.n c.args.row.now c.args.found.now.items _ c.in_ok-here.here c.in_ok-push.ensures.items e.row at (sym here) e.placed h
