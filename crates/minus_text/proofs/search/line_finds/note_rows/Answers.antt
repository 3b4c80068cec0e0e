use Rattle.std.proofs.Common.{◌≡◌, ◌+◌, ◌-◌, ◌++◌, List, length, drop, map, get_or, refl, sym, ap, ap₂, subst, ◌∙◌, arith}
use Rattle.std.proofs.lemmas.List.{take_rest, length-drop}
use Rattle.minus_text.specs.declared.rows.Span.{Span}
use Rattle.minus_text.specs.LineFinds.{Stretch, outside_before, between, first_start, finds_in_row}
use Rattle.minus_text.specs.FoundRows.{matches_of}
use Rattle.minus_text.specs.LineSplits.{Ordered, ended_count, in_line, stretch_of}
use Rattle.minus_text.proofs.LineSplitLaws.{ordered_drop, rows_lower, rows_here, one_row_more}
use Rattle.minus_text.proofs.search.line_finds.note_rows.Goals as goal

pub note_row-requires-clause-matches : goal.note_row-requires-clause-matches
note_row-requires-clause-matches c =
    let ms = c.args.matches.now in
    let k = c.loop-i.done + c.ended_count-done.result in
    subst (Ordered 0) (sym (take_rest ms k)) (ordered_drop 0 k ms c.requires.matches)

pub loop-i-preserved : goal.loop-i-preserved
loop-i-preserved c =
    let es = c.args.escapes.now in
    let ms = c.args.matches.now in
    let spans = c.args.line.rows.now in
    let base = c.args.line.base in
    let i = c.loop-i.i in
    let more = c.loop-i-test.true in
    let inv = c.loop-i.invariant in
    let k = c.loop-i.done + c.ended_count-done.result in
    let walk = c.go_to-walk.result in
    let p = c.place_in_line-place.result in
    let pe = c.place_in_line-place.ensures in
    let r : Stretch = stretch_of c.stretch_at-row.result in
    let rest = drop (i + 1) spans in
    let here = rows_here es ms spans base i more (base + c.loop-i.walk.at) inv.rows in
    let up = here.0 in
    let over = here.1 in
    let on = c.go_to-walk.ensures.on in
    let starts : p.start ≡ (get_or spans i (record { start = 0; end = 0 })).start - base = ap (λ (q : Span). q.start) pe in
    let is : r ≡ record { start = outside_before 0 es (in_line base (get_or spans i (record { start = 0; end = 0 }))).start; end = outside_before 0 es (in_line base (get_or spans i (record { start = 0; end = 0 }))).end; next = first_start es (map (in_line base) rest) } =
    c.stretch_at-row.ensures
    ∙ ap₂ (λ (q : Span) (l : List Span). let x : Stretch = record { start = outside_before 0 es q.start; end = outside_before 0 es q.end; next = first_start es (map (in_line base) l) } in x) pe (take_rest spans (i + 1)) in
    let inner : between p.start p.end (drop walk.passed es) ≡ between p.start p.end es = c.go_to-walk.ensures.walk.behind p.start p.end on in
    let inner_there = subst (λ (q : Span). between q.start q.end (drop walk.passed es) ≡ between q.start q.end es) pe inner in
    let n = c.args.line.first + i in
    let old = map matches_of c.loop-i.found.items in
    let new = map matches_of c.note_row.new.found.items in
    let put : new ≡ old ++ finds_in_row n (drop walk.passed es) (drop k ms) p r =
    c.in_ok-note_row.ensures ∙ ap₂ (λ xs ys. old ++ finds_in_row n xs ys p r) (take_rest es walk.passed) (take_rest ms k) in
    let put_there = put ∙ ap (λ (q : Span). old ++ finds_in_row n (drop walk.passed es) (drop k ms) q r) pe in
    let ended = c.ended_count-done.ensures.count ∙ ap (λ l. ended_count r.start l) (take_rest ms c.loop-i.done) in
    record {
      walk = c.go_to-walk.ensures.walk;
      rows = rows_lower (base + walk.at) (get_or spans i (record { start = 0; end = 0 })).end rest (omega (arith, on, starts, up, over)) here.2;
      few = let w = c.ended_count-done.ensures.within in omega (arith, w, ap length (take_rest ms c.loop-i.done), length-drop c.loop-i.done ms, inv.few);
      so_far = one_row_more es ms spans base i more n c.loop-i.done c.ended_count-done.result walk.passed k (c.args.line.first + (i + 1)) c.loop-i.walk.at r old new _
          inv.rows is ended refl (omega arith) inner_there put_there inv.so_far;
    }
