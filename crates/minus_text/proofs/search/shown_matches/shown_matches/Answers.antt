-- One match more, the first behind the columns, and the last.
use Rattle.std.proofs.Common.{◌≡◌, ◌+◌, ◌≤◌, ◌∷◌, ◌++◌, [], drop, get_or, chars, append-nil, if◌then◌else◌, arith, sym, subst, ap, ap₂, ◌∙◌}
use Rattle.std.specs.List.{filter}
use Rattle.std.proofs.lemmas.List.{drop_more, drop_all}
use Rattle.minus_text.specs.Escapes.{CutsText}
use Rattle.minus_text.specs.TextUnits.{text_units}
use Rattle.minus_text.specs.ShownMatches.{meets, columns_before, shows_match, shown_matches}
use Rattle.minus_text.proofs.ShownMatchesLaws.{cuts_filtered, filter_more, none_behind}
use Rattle.minus_text.proofs.search.shown_matches.shown_matches.Goals as goal

pub loop-place-init : goal.loop-place-init
loop-place-init c = record {
  so_far = ap (λ l. l ++ shown_matches c.args.window.left c.args.window.width c.args.text.now c.args.matches.now) c.new-shown.ensures.items;
  counted = (0, c.begin_walk-walk.ensures.counts, c.requires);
  bytes = c.begin_walk-walk.ensures.bytes;
  room = c.begin_walk-walk.ensures.columns;
}

pub loop-place-preserved : goal.loop-place-preserved
loop-place-preserved c =
    let i = c.loop-place.place-index in
    let ms = c.args.matches.now in
    let m = get_or ms i (0, 0) in
    let us = text_units (chars c.args.text.now) in
    let left = c.args.window.left in
    let width = c.args.window.width in
    let inv = c.loop-place.invariant in
    let p = inv.counted.0 in
    let here = drop_more ms i (0, 0) c.loop-place-test.true in
    let cuts = subst (CutsText c.args.text.now p) here inv.counted.2 in
    let opened = c.walk_to-start.ensures.counts us p cuts.1 inv.counted.1 in
    let start = c.walk_to-start.ensures.columns us p cuts.1 inv.counted.1 in
    let stop = c.walk_to-walk.ensures.columns us m.0 cuts.3 opened in
    let test : c.meets.result ≡ shows_match left width us m = c.meets.ensures ∙ ap₂ (meets left width) (sym start) (sym stop) in
    record {
      so_far = filter_more (shows_match left width us) m (drop i ms) (drop (i + 1) ms) c.loop-place.shown.items c.push_if.new.shown.items (shown_matches left width c.args.text.now ms) here inv.so_far
          (c.in_ok-push_if.ensures ∙ ap (λ b. c.loop-place.shown.items ++ (if b then m ∷ [] else [])) test);
      counted = (m.1, c.walk_to-walk.ensures.counts us m.0 cuts.3 opened, cuts.4);
      bytes = let a = c.walk_to-start.ensures.bytes in let b = c.walk_to-walk.ensures.bytes in omega (arith, a, b, inv.bytes);
      room = let a = c.walk_to-start.ensures.room in let b = c.walk_to-walk.ensures.room in omega (arith, a, b, inv.room);
    }

pub returns-then-is_behind : goal.returns-then-is_behind
returns-then-is_behind c =
    let i = c.loop-place.place-index in
    let text = c.args.text.now in
    let ms = c.args.matches.now in
    let m = get_or ms i (0, 0) in
    let us = text_units (chars text) in
    let left = c.args.window.left in
    let width = c.args.window.width in
    let test = shows_match left width us in
    let inv = c.loop-place.invariant in
    let p = inv.counted.0 in
    let here = drop_more ms i (0, 0) c.loop-place-test.true in
    let cuts = subst (CutsText text p) here inv.counted.2 in
    let start = c.walk_to-start.ensures.columns us p cuts.1 inv.counted.1 in
    let behind : left + width ≤ columns_before m.0 us = let far = c.is_behind.ensures c.if-is_behind.true in omega (arith, far, start) in
    let from : CutsText text m.0 (m ∷ drop (i + 1) ms) = (cuts.2, omega arith, cuts.2, cuts.3, cuts.4) in
    let none : filter test (drop i ms) ≡ [] = ap (filter test) here ∙ none_behind left width text us m.0 m.0 (m ∷ drop (i + 1) ms) from (omega arith) behind in
    let shown = sym (append-nil c.loop-place.shown.items) ∙ ap (λ l. c.loop-place.shown.items ++ l) (sym none) ∙ inv.so_far in
    record {
      shown = shown;
      cuts = subst (CutsText text 0) (sym shown) (cuts_filtered text test 0 ms c.requires);
    }

pub returns : goal.returns
returns c =
    let text = c.args.text.now in
    let ms = c.args.matches.now in
    let test = shows_match c.args.window.left c.args.window.width (text_units (chars text)) in
    let none : filter test (drop c.loop-place.place-index ms) ≡ [] = ap (filter test) (drop_all c.loop-place.place-index ms c.loop-place-test.false) in
    let shown = sym (append-nil c.loop-place.shown.items) ∙ ap (λ l. c.loop-place.shown.items ++ l) (sym none) ∙ c.loop-place.invariant.so_far in
    record {
      shown = shown;
      cuts = subst (CutsText text 0) (sym shown) (cuts_filtered text test 0 ms c.requires);
    }
