use Rattle.std.proofs.Common.{rules, ◌≡◌, ◌+◌, ◌++◌, ◌==◌, false, length, map, sym, ap, ap₂, subst, ◌∙◌, arith, refl, [], true}
use Rattle.std.proofs.lemmas.List.{take_rest}
use Rattle.minus_text.specs.Lines.{cut, whole}
use Rattle.minus_text.specs.Kept.{line_stored, stored_from}
use Rattle.minus_text.specs.FoundRows.{finder_pattern, matches_of}
use Rattle.minus_text.specs.LineFinds.{finds_in_line, finds_in_lines}
use Rattle.minus_text.specs.LineSplits.{RowsOrdered, lines_of}
use Rattle.std.specs.Str.{IsUtf8}
use Rattle.std.specs.Str.Lines.{strip_carriage_return}
use Rattle.minus_text.specs.Layouts.{own_rows}
use Rattle.minus_text.specs.Found.{ArePlaced}
use Rattle.minus_text.proofs.FindsLaws.{lines_ascend}
use Rattle.minus_text.proofs.PlacedFindsLaws.{one_line_placed, own_cut_out}
use Rattle.minus_text.specs.Document.{rows_of_lines}
use Rattle.minus_text.proofs.TextFindsLaws.{stored_ordered, found_in_own, ends, own_is, rest_is, end_within, starts_then, found_then, open_own, open_found}
use Rattle.minus_text.proofs.search.line_finds.find_in_text.Goals as goal

pub slice_bounds-stored-count : goal.slice_bounds-stored-count
slice_bounds-stored-count c =
    let e = c.rows_end-end.ensures ∙ ends c.args.wrap c.args.text.rows.now c.args.text.firsts.now c.args.text.first c.loop-line.at c.loop-line.done c.loop-line.line_number c.in-Some.line.now c.loop-line.rest.now (cut c.in-Some.more.now) c.in-Some.ensures.cut c.loop-line.invariant.rows c.loop-line.invariant.few c.loop-line.invariant.firsts in
    omega (arith, e)

pub slice_bounds-stored-start : goal.slice_bounds-stored-start
slice_bounds-stored-start c = slice_bounds-stored-count c

pub slice_bounds-stored-end : goal.slice_bounds-stored-end
slice_bounds-stored-end c =
    let e = c.rows_end-end.ensures ∙ ends c.args.wrap c.args.text.rows.now c.args.text.firsts.now c.args.text.first c.loop-line.at c.loop-line.done c.loop-line.line_number c.in-Some.line.now c.loop-line.rest.now (cut c.in-Some.more.now) c.in-Some.ensures.cut c.loop-line.invariant.rows c.loop-line.invariant.few c.loop-line.invariant.firsts in
    end_within c.args.wrap c.args.text.rows.now c.args.text.firsts.now c.args.text.first c.loop-line.at c.loop-line.done c.loop-line.line_number c.in-Some.line.now c.loop-line.rest.now (cut c.in-Some.more.now) c.in-Some.ensures.cut c.loop-line.invariant.rows c.loop-line.invariant.few c.loop-line.invariant.firsts c.rows_end-end.result e

pub find_in_line-requires-clause-rows : goal.find_in_line-requires-clause-rows
find_in_line-requires-clause-rows c =
    let e = c.rows_end-end.ensures ∙ ends c.args.wrap c.args.text.rows.now c.args.text.firsts.now c.args.text.first c.loop-line.at c.loop-line.done c.loop-line.line_number c.in-Some.line.now c.loop-line.rest.now (cut c.in-Some.more.now) c.in-Some.ensures.cut c.loop-line.invariant.rows c.loop-line.invariant.few c.loop-line.invariant.firsts in
    subst (RowsOrdered c.loop-line.at) (sym (own_is c.args.wrap c.args.text.rows.now c.args.text.firsts.now c.args.text.first c.loop-line.at c.loop-line.done c.loop-line.line_number c.in-Some.line.now c.loop-line.rest.now (cut c.in-Some.more.now) c.in-Some.ensures.cut c.loop-line.invariant.rows c.loop-line.invariant.few c.loop-line.invariant.firsts c.rows_end-end.result e)) (stored_ordered c.args.wrap c.loop-line.at _)

pub loop-line-preserved : goal.loop-line-preserved
loop-line-preserved c =
    let inv = c.loop-line.invariant in
    let e = c.rows_end-end.ensures ∙ ends c.args.wrap c.args.text.rows.now c.args.text.firsts.now c.args.text.first c.loop-line.at c.loop-line.done c.loop-line.line_number c.in-Some.line.now c.loop-line.rest.now (cut c.in-Some.more.now) c.in-Some.ensures.cut c.loop-line.invariant.rows c.loop-line.invariant.few c.loop-line.invariant.firsts in
    let re = finder_pattern c.args.finder.now in
    let old = map matches_of c.loop-line.found.items in
    let new = map matches_of c.find_in_line.new.found.items in
    let n = c.args.text.first + c.loop-line.done in
    let own = own_is c.args.wrap c.args.text.rows.now c.args.text.firsts.now c.args.text.first c.loop-line.at c.loop-line.done c.loop-line.line_number c.in-Some.line.now c.loop-line.rest.now (cut c.in-Some.more.now) c.in-Some.ensures.cut c.loop-line.invariant.rows c.loop-line.invariant.few c.loop-line.invariant.firsts c.rows_end-end.result e in
    let text = c.without_return.ensures in
    let line = c.without_return.result.now in
    let there = own ∙ ap (line_stored c.args.wrap c.loop-line.at) (sym text) in
    let grown = c.in_ok-find_in_line.ensures.found ∙ ap (λ f. old ++ f) (found_in_own (finder_pattern c.loop-line.finder) c.args.wrap n c.loop-line.at line _ there)
    ∙ ap₂ (λ r l. old ++ finds_in_line r c.args.wrap n l) inv.same text in
    let room = c.in-Some.ensures.room in
    record {
      rows = rest_is c.args.wrap c.args.text.rows.now c.args.text.firsts.now c.args.text.first c.loop-line.at c.loop-line.done c.loop-line.line_number c.in-Some.line.now c.loop-line.rest.now (cut c.in-Some.more.now) c.in-Some.ensures.cut c.loop-line.invariant.rows c.loop-line.invariant.few c.loop-line.invariant.firsts c.rows_end-end.result e;
      few = end_within c.args.wrap c.args.text.rows.now c.args.text.firsts.now c.args.text.first c.loop-line.at c.loop-line.done c.loop-line.line_number c.in-Some.line.now c.loop-line.rest.now (cut c.in-Some.more.now) c.in-Some.ensures.cut c.loop-line.invariant.rows c.loop-line.invariant.few c.loop-line.invariant.firsts c.rows_end-end.result e;
      firsts = starts_then c.args.wrap c.args.text.rows.now c.args.text.firsts.now c.args.text.first c.loop-line.at c.loop-line.done c.loop-line.line_number c.in-Some.line.now c.loop-line.rest.now (cut c.in-Some.more.now) c.in-Some.ensures.cut c.loop-line.invariant.rows c.loop-line.invariant.few c.loop-line.invariant.firsts c.rows_end-end.result e;
      room = omega (arith, room, inv.room);
      lines = omega (arith, inv.lines);
      utf8 = search rules;
      same = c.in_ok-find_in_line.ensures.same ∙ inv.same;
      placed = λ h.
          let end = c.rows_end-end.result in
          let to : c.args.text.first + end ≡ n + length (own_rows c.args.wrap (strip_carriage_return c.in-Some.line.now)) = omega (arith, e) in
          let stands = (c.in_ok-find_in_line.ensures.stands (own_rows c.args.wrap line) (own_cut_out c.args.wrap c.loop-line.at line _ c.without_return.utf8 there)).placed in
          let found_there = found_in_own (finder_pattern c.loop-line.finder) c.args.wrap n c.loop-line.at line _ there ∙ ap (λ r. finds_in_line r c.args.wrap n line) inv.same in
          let here = subst (λ l. ArePlaced n (own_rows c.args.wrap l) (finds_in_line re c.args.wrap n l)) text (subst (λ f. ArePlaced n (own_rows c.args.wrap line) f) found_there stands) in
          inv.placed (subst (λ q. ArePlaced n (rows_of_lines c.args.wrap (lines_of q)) (finds_in_lines re c.args.wrap n (lines_of q))) (sym c.in-Some.ensures.cut)
          (one_line_placed re c.args.wrap n (c.args.text.first + end) (strip_carriage_return c.in-Some.line.now) (lines_of (cut c.in-Some.more.now)) to here h));
      so_far = found_then c.args.wrap c.args.text.rows.now c.args.text.firsts.now c.args.text.first c.loop-line.at c.loop-line.done c.loop-line.line_number c.in-Some.line.now c.loop-line.rest.now (cut c.in-Some.more.now) c.in-Some.ensures.cut c.loop-line.invariant.rows c.loop-line.invariant.few c.loop-line.invariant.firsts re c.rows_end-end.result old new _ e grown inv.so_far;
    }

pub find_in_line-requires-2-clause-rows : goal.find_in_line-requires-2-clause-rows
find_in_line-requires-2-clause-rows c =
    let inv = c.loop-line.invariant in
    let wrap = c.args.wrap in
    let at = c.loop-line.at in
    let some : (length c.loop-line.rest.now == 0) ≡ false = search (rules, c.is_empty.ensures, c.if-is_empty.false) in
    let all = take_rest c.args.text.rows.now c.loop-line.done ∙ inv.rows ∙ ap (stored_from wrap at) c.in_default.ensures.cut ∙ open_own wrap at c.loop-line.rest.now some in
    subst (RowsOrdered at) (sym all) (stored_ordered wrap at c.loop-line.rest.now)

pub returns-clause-found : goal.returns-clause-found
returns-clause-found c =
    let inv = c.loop-line.invariant in
    let wrap = c.args.wrap in
    let at = c.loop-line.at in
    let n = c.args.text.first + c.loop-line.done in
    let rest = c.loop-line.rest.now in
    let re = finder_pattern c.args.finder.now in
    let old = map matches_of c.loop-line.found.items in
    let some : (length rest == 0) ≡ false = search (rules, c.is_empty.ensures, c.if-is_empty.false) in
    let all = take_rest c.args.text.rows.now c.loop-line.done ∙ inv.rows ∙ ap (stored_from wrap at) c.in_default.ensures.cut ∙ open_own wrap at rest some in
    let here = found_in_own (finder_pattern c.loop-line.finder) wrap n at rest _ all ∙ ap (λ r. finds_in_line r wrap n rest) inv.same ∙ sym (open_found re wrap n rest some)
    ∙ ap (λ q. finds_in_lines re wrap n (lines_of q)) (sym c.in_default.ensures.cut) in
    c.in_ok-find_in_line-2.ensures.found ∙ ap (λ f. old ++ f) here ∙ inv.so_far

pub returns-clause-stands : goal.returns-clause-stands
returns-clause-stands c =
    let inv = c.loop-line.invariant in
    let wrap = c.args.wrap in
    let at = c.loop-line.at in
    let n = c.args.text.first + c.loop-line.done in
    let rest = c.loop-line.rest.now in
    let re = finder_pattern c.args.finder.now in
    let some : (length rest == 0) ≡ false = search (rules, c.is_empty.ensures, c.if-is_empty.false) in
    let all = take_rest c.args.text.rows.now c.loop-line.done ∙ inv.rows ∙ ap (stored_from wrap at) c.in_default.ensures.cut ∙ open_own wrap at rest some in
    let utf8 : IsUtf8 rest = search (rules, inv.utf8) in
    let stands = (c.in_ok-find_in_line-2.ensures.stands (own_rows wrap rest) (own_cut_out wrap at rest _ utf8 all)).placed in
    let found_there = found_in_own (finder_pattern c.loop-line.finder) wrap n at rest _ all ∙ ap (λ r. finds_in_line r wrap n rest) inv.same in
    let here = subst (λ f. ArePlaced n (own_rows wrap rest) f) found_there stands in
    let last : ArePlaced n (rows_of_lines wrap (lines_of (whole rest))) (finds_in_lines re wrap n (lines_of (whole rest))) = rw some (one_line_placed re wrap n (n + length (own_rows wrap rest)) rest [] refl here tt) in
    record {
      placed = inv.placed (subst (λ q. ArePlaced n (rows_of_lines wrap (lines_of q)) (finds_in_lines re wrap n (lines_of q))) (sym c.in_default.ensures.cut) last);
      ascend = lines_ascend re wrap c.args.text.first (lines_of (cut c.args.text.text.now));
    }

pub returns-then-is_empty-clause-stands : goal.returns-then-is_empty-clause-stands
returns-then-is_empty-clause-stands c =
    let inv = c.loop-line.invariant in
    let wrap = c.args.wrap in
    let n = c.args.text.first + c.loop-line.done in
    let rest = c.loop-line.rest.now in
    let re = finder_pattern c.args.finder.now in
    let none : (length rest == 0) ≡ true = search (rules, c.is_empty.ensures, c.if-is_empty.true) in
    let last : ArePlaced n (rows_of_lines wrap (lines_of (whole rest))) (finds_in_lines re wrap n (lines_of (whole rest))) = rw none tt in
    record {
      placed = inv.placed (subst (λ q. ArePlaced n (rows_of_lines wrap (lines_of q)) (finds_in_lines re wrap n (lines_of q))) (sym c.in_default.ensures.cut) last);
      ascend = lines_ascend re wrap c.args.text.first (lines_of (cut c.args.text.text.now));
    }
