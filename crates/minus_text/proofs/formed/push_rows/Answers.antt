use Rattle.std.proofs.Common.{◌≡◌, ◌+◌, ◌++◌, length, map, take, sym, subst, ap, arith, ◌∙◌}
use Rattle.std.proofs.lemmas.List.{length-append, length-map, take_all}
use Rattle.minus_text.specs.declared.rows.Span.{Span}
use Rattle.minus_text.specs.Layouts.{own_rows, own_places}
use Rattle.minus_text.specs.Rows.{line_places, ArePlaces}
use Rattle.minus_text.specs.Kept.{moved}
use Rattle.minus_text.proofs.LayoutLaws.{own_places-are}
use Rattle.minus_text.proofs.FormLaws.{length-places, place_within}
use Rattle.minus_text.proofs.formed.push_rows.Goals as goal

pub overflow_add-at-in-loop-part : goal.overflow_add-at-in-loop-part
overflow_add-at-in-loop-part c =
    let d : Span = record { start = 0; end = 0 } in
    let at : own_places c.args.wrap c.args.line.now ≡ line_places c.in-At.cols c.args.line.now = ap (λ w. own_places w c.args.line.now) c.in-At.is in
    let are : ArePlaces c.args.line.now c.deref-part-items.result.now (own_rows c.args.wrap c.args.line.now) = subst (λ ss. ArePlaces c.args.line.now ss (own_rows c.args.wrap c.args.line.now)) (at ∙ sym (c.deref-part-items.ensures.value ∙ c.in_ok-places.ensures.places)) (own_places-are c.args.wrap c.args.line.now c.utf8.line) in
    let h = place_within c.args.line.now c.deref-part-items.result.now (own_rows c.args.wrap c.args.line.now) c.loop-part.part-index d are c.loop-part-test.true in
    omega (arith, h.0, h.1)

pub overflow_add-at-in-loop-part-2 : goal.overflow_add-at-in-loop-part-2
overflow_add-at-in-loop-part-2 c =
    let d : Span = record { start = 0; end = 0 } in
    let at : own_places c.args.wrap c.args.line.now ≡ line_places c.in-At.cols c.args.line.now = ap (λ w. own_places w c.args.line.now) c.in-At.is in
    let are : ArePlaces c.args.line.now c.deref-part-items.result.now (own_rows c.args.wrap c.args.line.now) = subst (λ ss. ArePlaces c.args.line.now ss (own_rows c.args.wrap c.args.line.now)) (at ∙ sym (c.deref-part-items.ensures.value ∙ c.in_ok-places.ensures.places)) (own_places-are c.args.wrap c.args.line.now c.utf8.line) in
    let h = place_within c.args.line.now c.deref-part-items.result.now (own_rows c.args.wrap c.args.line.now) c.loop-part.part-index d are c.loop-part-test.true in
    omega (arith, h.0, h.1)

pub returns-clause-len : goal.returns-clause-len
returns-clause-len c =
    let at : own_places c.args.wrap c.args.line.now ≡ line_places c.in-At.cols c.args.line.now = ap (λ w. own_places w c.args.line.now) c.in-At.is in
    let all : take c.loop-part.part-index c.deref-part-items.result.now ≡ own_places c.args.wrap c.args.line.now = take_all c.loop-part.part-index c.deref-part-items.result.now c.loop-part-test.false ∙ c.deref-part-items.ensures.value ∙ c.in_ok-places.ensures.places ∙ sym at in
    let many = length-places c.args.line.now (own_places c.args.wrap c.args.line.now) (own_rows c.args.wrap c.args.line.now) (own_places-are c.args.wrap c.args.line.now c.utf8.line) in
    ap length c.loop-part.invariant
    ∙ length-append c.args.rows.now.items (map (moved c.args.at) (take c.loop-part.part-index c.deref-part-items.result.now))
    ∙ ap (λ n. length c.args.rows.now.items + n) (length-map (take c.loop-part.part-index c.deref-part-items.result.now) (moved c.args.at) ∙ ap length all ∙ many)

pub returns-clause-items : goal.returns-clause-items
returns-clause-items c =
    let at : own_places c.args.wrap c.args.line.now ≡ line_places c.in-At.cols c.args.line.now = ap (λ w. own_places w c.args.line.now) c.in-At.is in
    let all : take c.loop-part.part-index c.deref-part-items.result.now ≡ own_places c.args.wrap c.args.line.now = take_all c.loop-part.part-index c.deref-part-items.result.now c.loop-part-test.false ∙ c.deref-part-items.ensures.value ∙ c.in_ok-places.ensures.places ∙ sym at in
    c.loop-part.invariant ∙ ap (λ ss. c.args.rows.now.items ++ map (moved c.args.at) ss) all

pub returns-then-branch-clause-len : goal.returns-then-branch-clause-len
returns-then-branch-clause-len c =
    let at : own_places c.args.wrap c.args.line.now ≡ line_places c.in-At.cols c.args.line.now = ap (λ w. own_places w c.args.line.now) c.in-At.is in
    let items = c.in_ok-push_printable.ensures.rows c.if-branch.true in
    let many = length-places c.args.line.now (own_places c.args.wrap c.args.line.now) (own_rows c.args.wrap c.args.line.now) (own_places-are c.args.wrap c.args.line.now c.utf8.line) in
    ap length items ∙ length-append c.args.rows.now.items (map (moved c.args.at) (line_places c.in-At.cols c.args.line.now))
    ∙ ap (λ n. length c.args.rows.now.items + n) (length-map (line_places c.in-At.cols c.args.line.now) (moved c.args.at) ∙ ap length (sym at) ∙ many)
