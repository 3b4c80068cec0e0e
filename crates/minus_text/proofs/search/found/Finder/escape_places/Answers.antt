-- A row without a character that an escape sequence begins with has none.
use Rattle.std.proofs.Common.{sym, subst, ◌∙◌, true≢false}
use Rattle.std.proofs.lemmas.Str.{IsCharBoundary-start}
use Rattle.minus_text.specs.Escapes.{CutsText}
use Rattle.minus_text.proofs.NoEscapeLaws.{no_escapes}
use Rattle.minus_text.proofs.search.found.Finder.escape_places.Goals as goal

pub returns-then-not-has_escape_start-clause-found : goal.returns-then-not-has_escape_start-clause-found
returns-then-not-has_escape_start-clause-found c =
    c.new.ensures.items
    ∙ sym (no_escapes c.args.row.now (λ start. true≢false (sym (c.has_escape_start.ensures.1 start) ∙ c.if-not-has_escape_start.true)))

pub returns-then-not-has_escape_start-clause-cuts : goal.returns-then-not-has_escape_start-clause-cuts
returns-then-not-has_escape_start-clause-cuts c = subst (λ ps. CutsText c.args.row.now 0 ps) (sym c.new.ensures.items) (IsCharBoundary-start c.args.row.now c.utf8.row)
