use Rattle.std.proofs.Common.{rules, ◌≡◌, map, length, ◌++◌, ◌-◌, ◌+◌, string_bytes, sym, ap, ap₂, subst₂, ℕ, List, ◌∙◌, arith, get_or}
use Rattle.std.proofs.lemmas.List.{append-nil, length-append, drop_all}
use Rattle.minus_text.specs.Escapes.{outside, inside, insert_of}
use Rattle.minus_text.proofs.PartedLaws.{cuts_at, cuts_here, one_more_outside, one_more_inside}
use Rattle.minus_text.specs.Highlight.{StandIn}
use Rattle.minus_text.proofs.StandLaws.{escapes_stand}
use Rattle.minus_text.proofs.search.escapes.part.Goals as goal

pub loop-place-init : goal.loop-place-init
loop-place-init c =
    let line = c.args.line.now in (
      ap (λ t. t ++ outside line 0 c.args.places.now) c.new-text.ensures.bytes,
      ap (λ t. map insert_of c.new-escapes.result.items ++ inside line 0 (length t) c.args.places.now) c.new-text.ensures.bytes
          ∙ ap (λ l. map insert_of l ++ inside line 0 0 c.args.places.now) c.new-escapes.ensures.items,
      c.requires,
    )

pub range-requires-clause-start_le_end : goal.range-requires-clause-start_le_end
range-requires-clause-start_le_end c = (cuts_here c.args.line.now c.args.places.now c.loop-place.place-index c.loop-place.at c.loop-place-test.true c.loop-place.invariant.2).1

pub range-requires-clause-start_boundary : goal.range-requires-clause-start_boundary
range-requires-clause-start_boundary c = λ _. (cuts_here c.args.line.now c.args.places.now c.loop-place.place-index c.loop-place.at c.loop-place-test.true c.loop-place.invariant.2).0

pub range-requires-clause-end_boundary : goal.range-requires-clause-end_boundary
range-requires-clause-end_boundary c = (cuts_here c.args.line.now c.args.places.now c.loop-place.place-index c.loop-place.at c.loop-place-test.true c.loop-place.invariant.2).2

pub range-requires-in-loop-place-clause-start_le_end : goal.range-requires-in-loop-place-clause-start_le_end
range-requires-in-loop-place-clause-start_le_end c = (cuts_here c.args.line.now c.args.places.now c.loop-place.place-index c.loop-place.at c.loop-place-test.true c.loop-place.invariant.2).3

pub range-requires-in-loop-place-clause-start_boundary : goal.range-requires-in-loop-place-clause-start_boundary
range-requires-in-loop-place-clause-start_boundary c = λ _. (cuts_here c.args.line.now c.args.places.now c.loop-place.place-index c.loop-place.at c.loop-place-test.true c.loop-place.invariant.2).2

pub range-requires-in-loop-place-clause-end_boundary : goal.range-requires-in-loop-place-clause-end_boundary
range-requires-in-loop-place-clause-end_boundary c = cuts_at c.args.line.now _ _ (cuts_here c.args.line.now c.args.places.now c.loop-place.place-index c.loop-place.at c.loop-place-test.true c.loop-place.invariant.2).4

pub loop-place-preserved : goal.loop-place-preserved
loop-place-preserved c =
    let line = c.args.line.now in
    let places = c.args.places.now in
    let i = c.loop-place.place-index in
    let inv = c.loop-place.invariant in
    let cuts = cuts_here line places i c.loop-place.at c.loop-place-test.true inv.2 in
    let text = string_bytes c.loop-place.text in
    let grown = c.in_ok-push_str.ensures.bytes ∙ ap (λ s. text ++ s) c.range.ensures.value in
    let size = ap length c.in_ok-push_str.ensures.bytes ∙ length-append text c.range.result.now in
    let later : length (string_bytes c.push_str.new.self) ≡ length text + ((get_or places i (0, 0)).0 - c.loop-place.at) =
    omega (arith, size, c.range.ensures.len, cuts.1) in
    let pair : ℕ → List ℕ → ℕ × List ℕ = λ a b. (a, b) in
    let place : c.len.result ≡ length (string_bytes c.push_str.new.self) = search (rules, c.len.ensures) in
    let is = ap₂ pair place c.range-in-loop-place.ensures.value in (
      one_more_outside line places i c.loop-place.at c.loop-place-test.true text _ inv.0 grown,
      one_more_inside line places i c.loop-place.at c.loop-place-test.true (length text) _ c.loop-place.escapes.items _ _ inv.1 c.in_ok-push.ensures.items later is,
      cuts.4,
    )

pub range_from-requires : goal.range_from-requires
range_from-requires c = λ _. cuts_at c.args.line.now c.loop-place.at _ c.loop-place.invariant.2

pub returns-clause-text : goal.returns-clause-text
returns-clause-text c =
    let line = c.args.line.now in
    let text = string_bytes c.loop-place.text in
    c.in_ok-push_str-2.ensures.bytes ∙ ap (λ s. text ++ s) c.range_from.ensures.value
    ∙ ap (λ ps. text ++ outside line c.loop-place.at ps) (sym (drop_all c.loop-place.place-index c.args.places.now c.loop-place-test.false)) ∙ c.loop-place.invariant.0

pub returns-clause-escapes : goal.returns-clause-escapes
returns-clause-escapes c =
    let line = c.args.line.now in
    let found = map insert_of c.loop-place.escapes.items in
    let before = length (string_bytes c.loop-place.text) in
    sym (append-nil found)
    ∙ ap (λ ps. found ++ inside line c.loop-place.at before ps) (sym (drop_all c.loop-place.place-index c.args.places.now c.loop-place-test.false)) ∙ c.loop-place.invariant.1

pub returns-clause-stand : goal.returns-clause-stand
returns-clause-stand c =
    subst₂ (λ t es. StandIn t 0 es) (sym (returns-clause-text c)) (sym (returns-clause-escapes c)) (escapes_stand c.args.line.now c.utf8.line c.args.places.now c.requires)
