use Rattle.std.proofs.Common.{◌≡◌, ◌-◌, ℕ, List, length, drop, take, Some, None, refl, sym, ap, ◌∙◌}
use Rattle.std.specs.List.{slice_get}
use Rattle.std.specs.Str.{IsUtf8}
use Rattle.std.specs.String.{string_bytes}
use Rattle.std.proofs.lemmas.Option.{slice_get_read, slice_get_past}
use Rattle.minus_text.proofs.RowTextsLaws.{unescaped_part}
use Rattle.minus_text.proofs.RowTextLaws.{row_here, no_row}
use Rattle.minus_text.proofs.store.Store.row.Goals as goal

pub range-requires-clause-start_le_end : goal.range-requires-clause-start_le_end
range-requires-clause-start_le_end c =
    let u : IsUtf8 (string_bytes c.self.inside.text) = rw c.as_str-text.ensures.value at c.as_str-text.utf8 in
    let within = c.in-Some.ensures.lookup.3.0 in
    let found : slice_get c.self.inside.rows.items c.args.i ≡ Some c.in-Some.row.now = rw c.deref.ensures.value at (slice_get_read c.deref.result.now (length c.deref.result.now) c.args.i c.in-Some.row.now refl within c.in-Some.ensures.lookup.1) in
    let h = row_here (string_bytes c.self.inside.text) c.self.inside.layout c.self.inside.rows.items c.self.inside.first_rows c.self.inside.finished c.self.inside.longest c.self.inside.border c.args.self.now c.args.i c.in-Some.row.now c.self.view_is c.self.invariant.0 u found in
    h.ordered

pub range-requires-clause-start_boundary : goal.range-requires-clause-start_boundary
range-requires-clause-start_boundary c =
    let u : IsUtf8 (string_bytes c.self.inside.text) = rw c.as_str-text.ensures.value at c.as_str-text.utf8 in
    let within = c.in-Some.ensures.lookup.3.0 in
    let found : slice_get c.self.inside.rows.items c.args.i ≡ Some c.in-Some.row.now = rw c.deref.ensures.value at (slice_get_read c.deref.result.now (length c.deref.result.now) c.args.i c.in-Some.row.now refl within c.in-Some.ensures.lookup.1) in
    let h = row_here (string_bytes c.self.inside.text) c.self.inside.layout c.self.inside.rows.items c.self.inside.first_rows c.self.inside.finished c.self.inside.longest c.self.inside.border c.args.self.now c.args.i c.in-Some.row.now c.self.view_is c.self.invariant.0 u found in
    λ _. rw c.as_str-text.ensures.value h.start

pub range-requires-clause-end_boundary : goal.range-requires-clause-end_boundary
range-requires-clause-end_boundary c =
    let u : IsUtf8 (string_bytes c.self.inside.text) = rw c.as_str-text.ensures.value at c.as_str-text.utf8 in
    let within = c.in-Some.ensures.lookup.3.0 in
    let found : slice_get c.self.inside.rows.items c.args.i ≡ Some c.in-Some.row.now = rw c.deref.ensures.value at (slice_get_read c.deref.result.now (length c.deref.result.now) c.args.i c.in-Some.row.now refl within c.in-Some.ensures.lookup.1) in
    let h = row_here (string_bytes c.self.inside.text) c.self.inside.layout c.self.inside.rows.items c.self.inside.first_rows c.self.inside.finished c.self.inside.longest c.self.inside.border c.args.self.now c.args.i c.in-Some.row.now c.self.view_is c.self.invariant.0 u found in
    rw c.as_str-text.ensures.value h.end

pub returns-in-Some : goal.returns-in-Some
returns-in-Some c =
    let u : IsUtf8 (string_bytes c.self.inside.text) = rw c.as_str-text.ensures.value at c.as_str-text.utf8 in
    let within = c.in-Some.ensures.lookup.3.0 in
    let found : slice_get c.self.inside.rows.items c.args.i ≡ Some c.in-Some.row.now = rw c.deref.ensures.value at (slice_get_read c.deref.result.now (length c.deref.result.now) c.args.i c.in-Some.row.now refl within c.in-Some.ensures.lookup.1) in
    let h = row_here (string_bytes c.self.inside.text) c.self.inside.layout c.self.inside.rows.items c.self.inside.first_rows c.self.inside.finished c.self.inside.longest c.self.inside.border c.args.self.now c.args.i c.in-Some.row.now c.self.view_is c.self.invariant.0 u found in
    rw (c.range.ensures.value, c.as_str-text.ensures.value) (sym h.value)

pub returns-in-None : goal.returns-in-None
returns-in-None c =
    let u : IsUtf8 (string_bytes c.self.inside.text) = rw c.as_str-text.ensures.value at c.as_str-text.utf8 in
    let past = c.in-None.ensures.lookup.3 in
    let none : slice_get c.self.inside.rows.items c.args.i ≡ None = rw c.deref.ensures.value at (slice_get_past c.deref.result.now c.args.i past) in
    sym (no_row (string_bytes c.self.inside.text) c.self.inside.layout c.self.inside.rows.items c.self.inside.first_rows c.self.inside.finished c.self.inside.longest c.self.inside.border c.args.self.now c.args.i c.self.view_is c.self.invariant.0 u none)

-- the row is a part of the text
pub invariant_of-result : goal.invariant_of-result
invariant_of-result c =
    let r = c.in-Some.row.now in
    let part : c.range.result.now ≡ take (r.end - r.start) (drop r.start (string_bytes c.self.inside.text)) = c.range.ensures.value ∙ ap (λ (t : List ℕ). take (r.end - r.start) (drop r.start t)) c.as_str-text.ensures.value in
    let is = unescaped_part c.self.inside.escapes_end r.start (r.end - r.start) (string_bytes c.self.inside.text) c.self.invariant.1 in
    record { plain = rw (c.saturating_sub.ensures, part) is }
