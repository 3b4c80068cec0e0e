-- The rows that are kept are places.
use Rattle.std.proofs.Common.{length, ap, sym, ◌∙◌, refl}
use Rattle.std.specs.List.{slice_get}
use Rattle.std.specs.String.{string_bytes}
use Rattle.std.proofs.lemmas.Option.{slice_get_read, slice_get_past}
use Rattle.minus_text.proofs.LinePlacesLaws.{formed_places}
use Rattle.minus_text.proofs.store.Store.row_place.Goals as goal

pub returns-in-Some : goal.returns-in-Some
returns-in-Some c =
    let within = c.in-Some.ensures.lookup.3.0 in
    let places = formed_places (string_bytes c.self.inside.text) c.self.inside.layout c.self.inside.rows.items c.self.inside.first_rows c.self.inside.finished c.self.inside.longest c.self.inside.border c.args.self.now c.self.view_is c.self.invariant.0 in
    sym (slice_get_read c.deref.result.now (length c.deref.result.now) c.args.i c.in-Some.place.now refl within c.in-Some.ensures.lookup.1) ∙ ap (λ rs. slice_get rs c.args.i) (c.deref.ensures.value ∙ places)

pub returns-in-None : goal.returns-in-None
returns-in-None c =
    let places = formed_places (string_bytes c.self.inside.text) c.self.inside.layout c.self.inside.rows.items c.self.inside.first_rows c.self.inside.finished c.self.inside.longest c.self.inside.border c.args.self.now c.self.view_is c.self.invariant.0 in
    sym (slice_get_past c.deref.result.now c.args.i c.in-None.ensures.lookup.3) ∙ ap (λ rs. slice_get rs c.args.i) (c.deref.ensures.value ∙ places)
