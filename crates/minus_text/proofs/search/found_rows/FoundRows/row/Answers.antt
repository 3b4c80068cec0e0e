use Rattle.std.proofs.Common.{◌≡◌, Some, None, option_map, length, refl, sym, ap, ◌∙◌}
use Rattle.std.specs.List.{slice_get}
use Rattle.std.proofs.lemmas.Option.{slice_get-map, slice_get_read, slice_get_past}
use Rattle.minus_text.specs.FoundBy.{found_rows}
use Rattle.minus_text.proofs.JumpLaws.{row_of, rows_are}
use Rattle.minus_text.proofs.search.found_rows.FoundRows.row.Goals as goal

pub returns-in-Some : goal.returns-in-Some
returns-in-Some c =
    let js = c.args.self.now.jumps.items in
    let some : slice_get js c.args.i ≡ Some c.in-Some.jump.now = rw c.deref.ensures.value at (slice_get_read c.deref.result.now (length c.deref.result.now) c.args.i c.in-Some.jump.now refl c.in-Some.ensures.lookup.3.0 c.in-Some.ensures.lookup.1) in
    sym (ap (λ ns. slice_get ns c.args.i) (sym (rows_are js (found_rows c.args.self.now) c.requires)) ∙ slice_get-map row_of js c.args.i ∙ ap (option_map row_of) some)

pub returns-in-None : goal.returns-in-None
returns-in-None c =
    let js = c.args.self.now.jumps.items in
    let none : slice_get js c.args.i ≡ None = slice_get_past js c.args.i (rw c.deref.ensures.value at c.in-None.ensures.lookup.3) in
    sym (ap (λ ns. slice_get ns c.args.i) (sym (rows_are js (found_rows c.args.self.now) c.requires)) ∙ slice_get-map row_of js c.args.i ∙ ap (option_map row_of) none)
