-- The first row that stands not above one is that one, or there is none.
use Rattle.std.proofs.Common.{◌≡◌, nat_le, true, false, eqb, map, Some, None, refl, ap, ◌∙◌, length}
use Rattle.std.specs.List.{position_or_len, slice_get}
use Rattle.std.proofs.lemmas.Bool.{eq-eqb, ne_eqb}
use Rattle.std.proofs.lemmas.Option.{slice_get_read, slice_get_past}
use Rattle.minus_text.specs.Found.{RowMatches}
use Rattle.minus_text.specs.FoundRows.{matches_of}
use Rattle.minus_text.proofs.FoundInLaws.{row_found}
use Rattle.minus_text.proofs.search.found_rows.FoundRows.of_row.Goals as goal

pub returns-in_default : goal.returns-in_default
returns-in_default c =
    let fs = c.args.self.now.rows.items in
    let at = c.count_above_near-at.result in
    let here = row_found c.args.n fs at c.requires (c.count_above_near-at.ensures.value ∙ ap (λ l. position_or_len (λ (f : RowMatches). nat_le c.args.n f.row) (map matches_of l)) c.as_slice.ensures.value) in
    let none : slice_get fs at ≡ None = slice_get_past fs at (rw c.deref.ensures.value at c.in_default.ensures.lookup.3) in
    rw none at here

pub returns-then-found-n : goal.returns-then-found-n
returns-then-found-n c =
    let fs = c.args.self.now.rows.items in
    let at = c.count_above_near-at.result in
    let here = row_found c.args.n fs at c.requires (c.count_above_near-at.ensures.value ∙ ap (λ l. position_or_len (λ (f : RowMatches). nat_le c.args.n f.row) (map matches_of l)) c.as_slice.ensures.value) in
    let some : slice_get fs at ≡ Some c.in-Some.found.now = rw c.deref.ensures.value at (slice_get_read c.deref.result.now (length c.deref.result.now) at c.in-Some.found.now refl c.in-Some.ensures.lookup.3.0 c.in-Some.ensures.lookup.1) in
    let same : eqb c.in-Some.found.now.row c.args.n ≡ true = eq-eqb c.in-Some.found.now.row c.args.n c.if-found-n.true in
    rw (some, same) at here

pub returns : goal.returns
returns c =
    let fs = c.args.self.now.rows.items in
    let at = c.count_above_near-at.result in
    let here = row_found c.args.n fs at c.requires (c.count_above_near-at.ensures.value ∙ ap (λ l. position_or_len (λ (f : RowMatches). nat_le c.args.n f.row) (map matches_of l)) c.as_slice.ensures.value) in
    let some : slice_get fs at ≡ Some c.in-Some.found.now = rw c.deref.ensures.value at (slice_get_read c.deref.result.now (length c.deref.result.now) at c.in-Some.found.now refl c.in-Some.ensures.lookup.3.0 c.in-Some.ensures.lookup.1) in
    let other : eqb c.in-Some.found.now.row c.args.n ≡ false = ne_eqb c.in-Some.found.now.row c.args.n c.if-found-n.false in
    rw (some, other) at here
