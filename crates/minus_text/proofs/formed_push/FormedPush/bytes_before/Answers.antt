-- What stands before the row is a front of the tail.
use Rattle.std.proofs.Common.{◌≡◌, ◌+◌, ◌-◌, ◌≤◌, length, take, Some, None, option_map, refl, sym, subst, ap, ◌∙◌, arith}
use Rattle.std.specs.List.{slice_get}
use Rattle.std.specs.Str.{IsUtf8}
use Rattle.std.proofs.lemmas.List.{length-take-le}
use Rattle.std.proofs.lemmas.Option.{slice_get_read, slice_get_past}
use Rattle.std.proofs.lemmas.Str.{IsUtf8-string_bytes}
use Rattle.minus_text.specs.declared.rows.Span.{Span}
use Rattle.minus_text.specs.Pending.{Pending}
use Rattle.minus_text.specs.PushedPlaces.{formed_from, tail_places}
use Rattle.minus_text.proofs.PushedPlacesLaws.{tail_within}
use Rattle.minus_text.proofs.formed_push.FormedPush.bytes_before.Goals as goal

pub slice_bounds-result-count : goal.slice_bounds-result-count
slice_bounds-result-count c =
    let p = c.args.self.now in
    let there : slice_get (tail_places p.start p.tail) c.args.i ≡ Some c.in-Some.row.now =
    ap (λ (q : Pending). slice_get (tail_places q.start q.tail) c.args.i) (sym c.self.view_is) ∙ ap (λ rs. slice_get rs c.args.i) (sym c.self.invariant.0.0.its_rows)
    ∙ rw c.deref.ensures.value at (slice_get_read c.deref.result.now (length c.deref.result.now) c.args.i c.in-Some.row.now refl c.in-Some.ensures.lookup.3.0 c.in-Some.ensures.lookup.1) in
    let text : IsUtf8 p.tail.text = subst (λ (q : Pending). IsUtf8 q.tail.text) c.self.view_is (IsUtf8-string_bytes c.self.inside.tail) in
    let within = tail_within p.start p.tail c.args.i c.in-Some.row.now text there in
    let from : formed_from p.start ≡ c.self.inside.start.finished.bytes + c.self.inside.start.bytes = ap (λ (q : Pending). formed_from q.start) (sym c.self.view_is) in
    omega (arith, within.0, from)

pub slice_bounds-result-length : goal.slice_bounds-result-length
slice_bounds-result-length c =
    let p = c.args.self.now in
    let there : slice_get (tail_places p.start p.tail) c.args.i ≡ Some c.in-Some.row.now =
    ap (λ (q : Pending). slice_get (tail_places q.start q.tail) c.args.i) (sym c.self.view_is) ∙ ap (λ rs. slice_get rs c.args.i) (sym c.self.invariant.0.0.its_rows)
    ∙ rw c.deref.ensures.value at (slice_get_read c.deref.result.now (length c.deref.result.now) c.args.i c.in-Some.row.now refl c.in-Some.ensures.lookup.3.0 c.in-Some.ensures.lookup.1) in
    let text : IsUtf8 p.tail.text = subst (λ (q : Pending). IsUtf8 q.tail.text) c.self.view_is (IsUtf8-string_bytes c.self.inside.tail) in
    let within = tail_within p.start p.tail c.args.i c.in-Some.row.now text there in
    let from : formed_from p.start ≡ c.self.inside.start.finished.bytes + c.self.inside.start.bytes = ap (λ (q : Pending). formed_from q.start) (sym c.self.view_is) in
    let bytes = c.as_bytes-bytes.ensures.value ∙ ap (λ (q : Pending). q.tail.text) c.self.view_is in
    let at = c.self.inside.start.finished.bytes + c.self.inside.start.bytes in
    let le : c.in-Some.row.now.start - at ≤ length c.as_bytes-bytes.result.now = omega (arith, within.1, from, ap length bytes) in
    sym (length-take-le (c.in-Some.row.now.start - at) c.as_bytes-bytes.result.now le)

pub returns-in-Some-clause-before : goal.returns-in-Some-clause-before
returns-in-Some-clause-before c =
    let p = c.args.self.now in
    let there : slice_get (tail_places p.start p.tail) c.args.i ≡ Some c.in-Some.row.now =
    ap (λ (q : Pending). slice_get (tail_places q.start q.tail) c.args.i) (sym c.self.view_is) ∙ ap (λ rs. slice_get rs c.args.i) (sym c.self.invariant.0.0.its_rows)
    ∙ rw c.deref.ensures.value at (slice_get_read c.deref.result.now (length c.deref.result.now) c.args.i c.in-Some.row.now refl c.in-Some.ensures.lookup.3.0 c.in-Some.ensures.lookup.1) in
    let text : IsUtf8 p.tail.text = subst (λ (q : Pending). IsUtf8 q.tail.text) c.self.view_is (IsUtf8-string_bytes c.self.inside.tail) in
    let within = tail_within p.start p.tail c.args.i c.in-Some.row.now text there in
    let from : formed_from p.start ≡ c.self.inside.start.finished.bytes + c.self.inside.start.bytes = ap (λ (q : Pending). formed_from q.start) (sym c.self.view_is) in
    let bytes = c.as_bytes-bytes.ensures.value ∙ ap (λ (q : Pending). q.tail.text) c.self.view_is in
    let part = ap (λ n. take (c.in-Some.row.now.start - n) c.as_bytes-bytes.result.now) (sym from) ∙ ap (λ t. take (c.in-Some.row.now.start - formed_from p.start) t) bytes in
    ap (λ t. Some t) part ∙ sym (ap (option_map (λ (s : Span). take (s.start - formed_from p.start) p.tail.text)) there)

pub returns-in-None-clause-before : goal.returns-in-None-clause-before
returns-in-None-clause-before c =
    let p = c.args.self.now in
    let none : slice_get (tail_places p.start p.tail) c.args.i ≡ None =
    ap (λ (q : Pending). slice_get (tail_places q.start q.tail) c.args.i) (sym c.self.view_is) ∙ ap (λ rs. slice_get rs c.args.i) (sym c.self.invariant.0.0.its_rows)
    ∙ rw c.deref.ensures.value at (slice_get_past c.deref.result.now c.args.i c.in-None.ensures.lookup.3) in
    sym (ap (option_map (λ (s : Span). take (s.start - formed_from p.start) p.tail.text)) none)

pub returns-in-Some-clause-text : goal.returns-in-Some-clause-text
returns-in-Some-clause-text c = subst (λ (q : Pending). IsUtf8 q.tail.text) c.self.view_is (IsUtf8-string_bytes c.self.inside.tail)

pub returns-in-None-clause-text : goal.returns-in-None-clause-text
returns-in-None-clause-text c = subst (λ (q : Pending). IsUtf8 q.tail.text) c.self.view_is (IsUtf8-string_bytes c.self.inside.tail)
