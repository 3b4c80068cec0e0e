-- The row is a part of the tail.
use Rattle.std.proofs.Common.{◌≡◌, ◌+◌, ◌-◌, ℕ, List, length, drop, take, Some, refl, sym, ap, ◌∙◌}
use Rattle.std.specs.List.{slice_get}
use Rattle.std.specs.String.{string_bytes}
use Rattle.std.proofs.lemmas.Option.{slice_get_read}
use Rattle.std.proofs.lemmas.Str.{IsUtf8-string_bytes}
use Rattle.minus_text.proofs.RowTextsLaws.{unescaped_part}
use Rattle.minus_text.specs.Fragments.{Fragment}
use Rattle.minus_text.specs.Pending.{Pending}
use Rattle.minus_text.proofs.RowTextLaws.{tail_row, no_tail_row}
use Rattle.minus_text.proofs.formed_push.FormedPush.row.Goals as goal

pub overflow_sub-row : goal.overflow_sub-row
overflow_sub-row c =
    let h = c.self.invariant.0.0 in
    let tail : (let e : Fragment = record { text = (string_bytes c.self.inside.tail); wrap = c.self.inside.wrap } in e) ≡ c.args.self.now.tail = ap (λ (p : Pending). p.tail) c.self.view_is in
    let found : slice_get c.self.inside.formed.rows.items c.args.i ≡ Some c.in-Some.row.now = rw c.deref.ensures.value at (slice_get_read c.deref.result.now (length c.deref.result.now) c.args.i c.in-Some.row.now refl c.in-Some.ensures.lookup.3.0 c.in-Some.ensures.lookup.1) in
    let row = tail_row (string_bytes c.self.inside.tail) c.self.inside.wrap (c.self.inside.start.finished.bytes + c.self.inside.start.bytes) c.self.inside.formed.rows.items c.args.self.now.tail c.args.i c.in-Some.row.now tail h.its_rows (IsUtf8-string_bytes c.self.inside.tail) found in
    row.begins

pub overflow_sub-row-in-Some : goal.overflow_sub-row-in-Some
overflow_sub-row-in-Some c =
    let h = c.self.invariant.0.0 in
    let tail : (let e : Fragment = record { text = (string_bytes c.self.inside.tail); wrap = c.self.inside.wrap } in e) ≡ c.args.self.now.tail = ap (λ (p : Pending). p.tail) c.self.view_is in
    let found : slice_get c.self.inside.formed.rows.items c.args.i ≡ Some c.in-Some.row.now = rw c.deref.ensures.value at (slice_get_read c.deref.result.now (length c.deref.result.now) c.args.i c.in-Some.row.now refl c.in-Some.ensures.lookup.3.0 c.in-Some.ensures.lookup.1) in
    let row = tail_row (string_bytes c.self.inside.tail) c.self.inside.wrap (c.self.inside.start.finished.bytes + c.self.inside.start.bytes) c.self.inside.formed.rows.items c.args.self.now.tail c.args.i c.in-Some.row.now tail h.its_rows (IsUtf8-string_bytes c.self.inside.tail) found in
    row.ends

pub range-requires-clause-start_le_end : goal.range-requires-clause-start_le_end
range-requires-clause-start_le_end c =
    let h = c.self.invariant.0.0 in
    let tail : (let e : Fragment = record { text = (string_bytes c.self.inside.tail); wrap = c.self.inside.wrap } in e) ≡ c.args.self.now.tail = ap (λ (p : Pending). p.tail) c.self.view_is in
    let found : slice_get c.self.inside.formed.rows.items c.args.i ≡ Some c.in-Some.row.now = rw c.deref.ensures.value at (slice_get_read c.deref.result.now (length c.deref.result.now) c.args.i c.in-Some.row.now refl c.in-Some.ensures.lookup.3.0 c.in-Some.ensures.lookup.1) in
    let row = tail_row (string_bytes c.self.inside.tail) c.self.inside.wrap (c.self.inside.start.finished.bytes + c.self.inside.start.bytes) c.self.inside.formed.rows.items c.args.self.now.tail c.args.i c.in-Some.row.now tail h.its_rows (IsUtf8-string_bytes c.self.inside.tail) found in
    row.row.ordered

pub range-requires-clause-start_boundary : goal.range-requires-clause-start_boundary
range-requires-clause-start_boundary c =
    let h = c.self.invariant.0.0 in
    let tail : (let e : Fragment = record { text = (string_bytes c.self.inside.tail); wrap = c.self.inside.wrap } in e) ≡ c.args.self.now.tail = ap (λ (p : Pending). p.tail) c.self.view_is in
    let found : slice_get c.self.inside.formed.rows.items c.args.i ≡ Some c.in-Some.row.now = rw c.deref.ensures.value at (slice_get_read c.deref.result.now (length c.deref.result.now) c.args.i c.in-Some.row.now refl c.in-Some.ensures.lookup.3.0 c.in-Some.ensures.lookup.1) in
    let row = tail_row (string_bytes c.self.inside.tail) c.self.inside.wrap (c.self.inside.start.finished.bytes + c.self.inside.start.bytes) c.self.inside.formed.rows.items c.args.self.now.tail c.args.i c.in-Some.row.now tail h.its_rows (IsUtf8-string_bytes c.self.inside.tail) found in
    λ _. rw c.as_str-text.ensures.value row.row.start

pub range-requires-clause-end_boundary : goal.range-requires-clause-end_boundary
range-requires-clause-end_boundary c =
    let h = c.self.invariant.0.0 in
    let tail : (let e : Fragment = record { text = (string_bytes c.self.inside.tail); wrap = c.self.inside.wrap } in e) ≡ c.args.self.now.tail = ap (λ (p : Pending). p.tail) c.self.view_is in
    let found : slice_get c.self.inside.formed.rows.items c.args.i ≡ Some c.in-Some.row.now = rw c.deref.ensures.value at (slice_get_read c.deref.result.now (length c.deref.result.now) c.args.i c.in-Some.row.now refl c.in-Some.ensures.lookup.3.0 c.in-Some.ensures.lookup.1) in
    let row = tail_row (string_bytes c.self.inside.tail) c.self.inside.wrap (c.self.inside.start.finished.bytes + c.self.inside.start.bytes) c.self.inside.formed.rows.items c.args.self.now.tail c.args.i c.in-Some.row.now tail h.its_rows (IsUtf8-string_bytes c.self.inside.tail) found in
    rw c.as_str-text.ensures.value row.row.end

pub returns-in-Some : goal.returns-in-Some
returns-in-Some c =
    let h = c.self.invariant.0.0 in
    let tail : (let e : Fragment = record { text = (string_bytes c.self.inside.tail); wrap = c.self.inside.wrap } in e) ≡ c.args.self.now.tail = ap (λ (p : Pending). p.tail) c.self.view_is in
    let found : slice_get c.self.inside.formed.rows.items c.args.i ≡ Some c.in-Some.row.now = rw c.deref.ensures.value at (slice_get_read c.deref.result.now (length c.deref.result.now) c.args.i c.in-Some.row.now refl c.in-Some.ensures.lookup.3.0 c.in-Some.ensures.lookup.1) in
    let row = tail_row (string_bytes c.self.inside.tail) c.self.inside.wrap (c.self.inside.start.finished.bytes + c.self.inside.start.bytes) c.self.inside.formed.rows.items c.args.self.now.tail c.args.i c.in-Some.row.now tail h.its_rows (IsUtf8-string_bytes c.self.inside.tail) found in
    rw (c.range.ensures.value, c.as_str-text.ensures.value) (sym row.row.value)

pub returns-in-None : goal.returns-in-None
returns-in-None c =
    let h = c.self.invariant.0.0 in
    let tail : (let e : Fragment = record { text = (string_bytes c.self.inside.tail); wrap = c.self.inside.wrap } in e) ≡ c.args.self.now.tail = ap (λ (p : Pending). p.tail) c.self.view_is in
    let past = rw c.deref.ensures.value at c.in-None.ensures.lookup.3 in
    sym (no_tail_row (string_bytes c.self.inside.tail) c.self.inside.wrap (c.self.inside.start.finished.bytes + c.self.inside.start.bytes) c.self.inside.formed.rows.items c.args.self.now.tail c.args.i tail h.its_rows (IsUtf8-string_bytes c.self.inside.tail) past)

-- and it has no ESC where the tail has none
pub invariant_of-result : goal.invariant_of-result
invariant_of-result c =
    let n = c.self.inside.start.finished.bytes + c.self.inside.start.bytes in
    let start = c.in-Some.row.now.start - n in
    let count = (c.in-Some.row.now.end - n) - start in
    let part : c.range.result.now ≡ take count (drop start (string_bytes c.self.inside.tail)) = c.range.ensures.value ∙ ap (λ (t : List ℕ). take count (drop start t)) c.as_str-text.ensures.value in
    let is = unescaped_part c.self.inside.escapes_end start count (string_bytes c.self.inside.tail) c.self.invariant.1 in
    record { plain = rw (c.saturating_sub.ensures, part) is }

pub overflow_sub-row-in-Some-2 : goal.overflow_sub-row-in-Some-2
overflow_sub-row-in-Some-2 c =
    let h = c.self.invariant.0.0 in
    let tail : (let e : Fragment = record { text = (string_bytes c.self.inside.tail); wrap = c.self.inside.wrap } in e) ≡ c.args.self.now.tail = ap (λ (p : Pending). p.tail) c.self.view_is in
    let found : slice_get c.self.inside.formed.rows.items c.args.i ≡ Some c.in-Some.row.now = rw c.deref.ensures.value at (slice_get_read c.deref.result.now (length c.deref.result.now) c.args.i c.in-Some.row.now refl c.in-Some.ensures.lookup.3.0 c.in-Some.ensures.lookup.1) in
    let row = tail_row (string_bytes c.self.inside.tail) c.self.inside.wrap (c.self.inside.start.finished.bytes + c.self.inside.start.bytes) c.self.inside.formed.rows.items c.args.self.now.tail c.args.i c.in-Some.row.now tail h.its_rows (IsUtf8-string_bytes c.self.inside.tail) found in
    row.begins
