-- A line begins where its first row does, and its rows end where those of the next line begin.
use Rattle.std.proofs.Common.{◌≡◌, ◌<◌, ℕ, List, [], length, drop, get_or, refl, sym, ap, subst, ◌∙◌, arith}
use Rattle.std.specs.Str.Lines.{lines}
use Rattle.std.specs.String.{string_bytes}
use Rattle.std.proofs.lemmas.Str.{IsUtf8-string_bytes}
use Rattle.minus_text.specs.declared.rows.Span.{Span}
use Rattle.minus_text.specs.Layouts.{wrap_of}
use Rattle.minus_text.specs.Lines.{cut}
use Rattle.minus_text.specs.Document.{Document, line_map, wrap_in}
use Rattle.minus_text.specs.Kept.{line_stored}
use Rattle.minus_text.specs.LineSplits.{lines_of}
use Rattle.minus_text.specs.StoredLines.{first_of, line_of}
use Rattle.minus_text.proofs.DocumentLaws.{length-first_rows}
use Rattle.minus_text.proofs.StoredLineLaws.{line_at, rows_at}
use Rattle.minus_text.proofs.store.Store.line.Goals as goal

pub bounds-firsts-k : goal.bounds-firsts-k
bounds-firsts-k c =
    let text : List ℕ = (string_bytes c.self.inside.text) in
    let wrap = (wrap_of c.self.inside.layout (length (lines (string_bytes c.self.inside.text)))) in
    let rs = c.as_slice-rows.result.now in
    let fs = c.as_slice-firsts.result.now in
    let inv = c.self.invariant.0 in
    let count : c.args.k < length (lines text) = subst (λ (x : Document). c.args.k < length (lines x.text)) (sym c.self.view_is) c.requires in
    let lt : c.args.k < length fs = omega (arith, count, ap length c.as_slice-firsts.ensures, ap length inv.its_map, length-first_rows wrap 0 (lines text)) in
    lt

pub offset_bounds-firsts-k : goal.offset_bounds-firsts-k
offset_bounds-firsts-k c =
    let text : List ℕ = (string_bytes c.self.inside.text) in
    let wrap = (wrap_of c.self.inside.layout (length (lines (string_bytes c.self.inside.text)))) in
    let rs = c.as_slice-rows.result.now in
    let fs = c.as_slice-firsts.result.now in
    let inv = c.self.invariant.0 in
    let count : c.args.k < length (lines text) = subst (λ (x : Document). c.args.k < length (lines x.text)) (sym c.self.view_is) c.requires in
    let lt : c.args.k < length fs = omega (arith, count, ap length c.as_slice-firsts.ensures, ap length inv.its_map, length-first_rows wrap 0 (lines text)) in
    omega (arith, lt, c.as_slice-firsts.type_inv.1)

pub bounds-rows-first : goal.bounds-rows-first
bounds-rows-first c =
    let text : List ℕ = (string_bytes c.self.inside.text) in
    let wrap = (wrap_of c.self.inside.layout (length (lines (string_bytes c.self.inside.text)))) in
    let rs = c.as_slice-rows.result.now in
    let fs = c.as_slice-firsts.result.now in
    let inv = c.self.invariant.0 in
    let count : c.args.k < length (lines text) = subst (λ (x : Document). c.args.k < length (lines x.text)) (sym c.self.view_is) c.requires in
    let lt : c.args.k < length fs = omega (arith, count, ap length c.as_slice-firsts.ensures, ap length inv.its_map, length-first_rows wrap 0 (lines text)) in
    let none : Span = record { start = 0; end = 0 } in
    let first = get_or fs c.args.k 0 in
    let base = (get_or rs first none).start in
    let at = line_at wrap text rs fs c.args.k first base none (IsUtf8-string_bytes c.self.inside.text) (c.as_slice-rows.ensures.value ∙ inv.its_rows) (c.as_slice-firsts.ensures ∙ inv.its_map) lt refl refl in
    at.in_rows

pub offset_bounds-rows-first : goal.offset_bounds-rows-first
offset_bounds-rows-first c =
    let text : List ℕ = (string_bytes c.self.inside.text) in
    let wrap = (wrap_of c.self.inside.layout (length (lines (string_bytes c.self.inside.text)))) in
    let rs = c.as_slice-rows.result.now in
    let fs = c.as_slice-firsts.result.now in
    let inv = c.self.invariant.0 in
    let count : c.args.k < length (lines text) = subst (λ (x : Document). c.args.k < length (lines x.text)) (sym c.self.view_is) c.requires in
    let lt : c.args.k < length fs = omega (arith, count, ap length c.as_slice-firsts.ensures, ap length inv.its_map, length-first_rows wrap 0 (lines text)) in
    let none : Span = record { start = 0; end = 0 } in
    let first = get_or fs c.args.k 0 in
    let base = (get_or rs first none).start in
    let at = line_at wrap text rs fs c.args.k first base none (IsUtf8-string_bytes c.self.inside.text) (c.as_slice-rows.ensures.value ∙ inv.its_rows) (c.as_slice-firsts.ensures ∙ inv.its_map) lt refl refl in
    let inside = at.in_rows in
    omega (arith, inside, c.as_slice-rows.type_inv.1)

pub range_from-rest-requires : goal.range_from-rest-requires
range_from-rest-requires c =
    let text : List ℕ = (string_bytes c.self.inside.text) in
    let wrap = (wrap_of c.self.inside.layout (length (lines (string_bytes c.self.inside.text)))) in
    let rs = c.as_slice-rows.result.now in
    let fs = c.as_slice-firsts.result.now in
    let inv = c.self.invariant.0 in
    let count : c.args.k < length (lines text) = subst (λ (x : Document). c.args.k < length (lines x.text)) (sym c.self.view_is) c.requires in
    let lt : c.args.k < length fs = omega (arith, count, ap length c.as_slice-firsts.ensures, ap length inv.its_map, length-first_rows wrap 0 (lines text)) in
    let none : Span = record { start = 0; end = 0 } in
    let first = get_or fs c.args.k 0 in
    let base = (get_or rs first none).start in
    let at = line_at wrap text rs fs c.args.k first base none (IsUtf8-string_bytes c.self.inside.text) (c.as_slice-rows.ensures.value ∙ inv.its_rows) (c.as_slice-firsts.ensures ∙ inv.its_map) lt refl refl in
    λ _. rw c.deref.ensures at.boundary

pub overflow_add-k : goal.overflow_add-k
overflow_add-k c =
    let text : List ℕ = (string_bytes c.self.inside.text) in
    let wrap = (wrap_of c.self.inside.layout (length (lines (string_bytes c.self.inside.text)))) in
    let rs = c.as_slice-rows.result.now in
    let fs = c.as_slice-firsts.result.now in
    let inv = c.self.invariant.0 in
    let count : c.args.k < length (lines text) = subst (λ (x : Document). c.args.k < length (lines x.text)) (sym c.self.view_is) c.requires in
    let lt : c.args.k < length fs = omega (arith, count, ap length c.as_slice-firsts.ensures, ap length inv.its_map, length-first_rows wrap 0 (lines text)) in
    omega (arith, lt, c.as_slice-firsts.type_inv.0)

pub first_line-requires : goal.first_line-requires
first_line-requires c =
    let text : List ℕ = (string_bytes c.self.inside.text) in
    let wrap = (wrap_of c.self.inside.layout (length (lines (string_bytes c.self.inside.text)))) in
    let rs = c.as_slice-rows.result.now in
    let fs = c.as_slice-firsts.result.now in
    let inv = c.self.invariant.0 in
    let count : c.args.k < length (lines text) = subst (λ (x : Document). c.args.k < length (lines x.text)) (sym c.self.view_is) c.requires in
    let lt : c.args.k < length fs = omega (arith, count, ap length c.as_slice-firsts.ensures, ap length inv.its_map, length-first_rows wrap 0 (lines text)) in
    let none : Span = record { start = 0; end = 0 } in
    let first = get_or fs c.args.k 0 in
    let base = (get_or rs first none).start in
    let at = line_at wrap text rs fs c.args.k first base none (IsUtf8-string_bytes c.self.inside.text) (c.as_slice-rows.ensures.value ∙ inv.its_rows) (c.as_slice-firsts.ensures ∙ inv.its_map) lt refl refl in
    let rest : c.range_from-rest.result.now ≡ drop base text = c.range_from-rest.ensures.value ∙ ap (drop base) c.deref.ensures in
    rw rest at.some

pub offset_bounds-rows-first-2 : goal.offset_bounds-rows-first-2
offset_bounds-rows-first-2 c =
    let text : List ℕ = (string_bytes c.self.inside.text) in
    let wrap = (wrap_of c.self.inside.layout (length (lines (string_bytes c.self.inside.text)))) in
    let rs = c.as_slice-rows.result.now in
    let fs = c.as_slice-firsts.result.now in
    let inv = c.self.invariant.0 in
    let count : c.args.k < length (lines text) = subst (λ (x : Document). c.args.k < length (lines x.text)) (sym c.self.view_is) c.requires in
    let lt : c.args.k < length fs = omega (arith, count, ap length c.as_slice-firsts.ensures, ap length inv.its_map, length-first_rows wrap 0 (lines text)) in
    let none : Span = record { start = 0; end = 0 } in
    let first = get_or fs c.args.k 0 in
    let base = (get_or rs first none).start in
    let at = line_at wrap text rs fs c.args.k first base none (IsUtf8-string_bytes c.self.inside.text) (c.as_slice-rows.ensures.value ∙ inv.its_rows) (c.as_slice-firsts.ensures ∙ inv.its_map) lt refl refl in
    let inside = at.in_rows in
    omega (arith, inside, c.as_slice-rows.type_inv.1)

pub slice_bounds-result-count : goal.slice_bounds-result-count
slice_bounds-result-count c =
    let text : List ℕ = (string_bytes c.self.inside.text) in
    let wrap = (wrap_of c.self.inside.layout (length (lines (string_bytes c.self.inside.text)))) in
    let rs = c.as_slice-rows.result.now in
    let fs = c.as_slice-firsts.result.now in
    let inv = c.self.invariant.0 in
    let count : c.args.k < length (lines text) = subst (λ (x : Document). c.args.k < length (lines x.text)) (sym c.self.view_is) c.requires in
    let lt : c.args.k < length fs = omega (arith, count, ap length c.as_slice-firsts.ensures, ap length inv.its_map, length-first_rows wrap 0 (lines text)) in
    let none : Span = record { start = 0; end = 0 } in
    let first = get_or fs c.args.k 0 in
    let base = (get_or rs first none).start in
    let at = line_at wrap text rs fs c.args.k first base none (IsUtf8-string_bytes c.self.inside.text) (c.as_slice-rows.ensures.value ∙ inv.its_rows) (c.as_slice-firsts.ensures ∙ inv.its_map) lt refl refl in
    let ends = rows_at wrap text rs fs c.args.k first base c.rows_end-end.result at c.rows_end-end.ensures in
    ends.0

pub slice_bounds-result-start : goal.slice_bounds-result-start
slice_bounds-result-start c =
    let text : List ℕ = (string_bytes c.self.inside.text) in
    let wrap = (wrap_of c.self.inside.layout (length (lines (string_bytes c.self.inside.text)))) in
    let rs = c.as_slice-rows.result.now in
    let fs = c.as_slice-firsts.result.now in
    let inv = c.self.invariant.0 in
    let count : c.args.k < length (lines text) = subst (λ (x : Document). c.args.k < length (lines x.text)) (sym c.self.view_is) c.requires in
    let lt : c.args.k < length fs = omega (arith, count, ap length c.as_slice-firsts.ensures, ap length inv.its_map, length-first_rows wrap 0 (lines text)) in
    let none : Span = record { start = 0; end = 0 } in
    let first = get_or fs c.args.k 0 in
    let base = (get_or rs first none).start in
    let at = line_at wrap text rs fs c.args.k first base none (IsUtf8-string_bytes c.self.inside.text) (c.as_slice-rows.ensures.value ∙ inv.its_rows) (c.as_slice-firsts.ensures ∙ inv.its_map) lt refl refl in
    let ends = rows_at wrap text rs fs c.args.k first base c.rows_end-end.result at c.rows_end-end.ensures in
    ends.0

pub slice_bounds-result-end : goal.slice_bounds-result-end
slice_bounds-result-end c =
    let text : List ℕ = (string_bytes c.self.inside.text) in
    let wrap = (wrap_of c.self.inside.layout (length (lines (string_bytes c.self.inside.text)))) in
    let rs = c.as_slice-rows.result.now in
    let fs = c.as_slice-firsts.result.now in
    let inv = c.self.invariant.0 in
    let count : c.args.k < length (lines text) = subst (λ (x : Document). c.args.k < length (lines x.text)) (sym c.self.view_is) c.requires in
    let lt : c.args.k < length fs = omega (arith, count, ap length c.as_slice-firsts.ensures, ap length inv.its_map, length-first_rows wrap 0 (lines text)) in
    let none : Span = record { start = 0; end = 0 } in
    let first = get_or fs c.args.k 0 in
    let base = (get_or rs first none).start in
    let at = line_at wrap text rs fs c.args.k first base none (IsUtf8-string_bytes c.self.inside.text) (c.as_slice-rows.ensures.value ∙ inv.its_rows) (c.as_slice-firsts.ensures ∙ inv.its_map) lt refl refl in
    let ends = rows_at wrap text rs fs c.args.k first base c.rows_end-end.result at c.rows_end-end.ensures in
    ends.1

pub returns-clause-stored : goal.returns-clause-stored
unfolding line_map
returns-clause-stored c =
    let text : List ℕ = (string_bytes c.self.inside.text) in
    let wrap = (wrap_of c.self.inside.layout (length (lines (string_bytes c.self.inside.text)))) in
    let rs = c.as_slice-rows.result.now in
    let fs = c.as_slice-firsts.result.now in
    let inv = c.self.invariant.0 in
    let count : c.args.k < length (lines text) = subst (λ (x : Document). c.args.k < length (lines x.text)) (sym c.self.view_is) c.requires in
    let lt : c.args.k < length fs = omega (arith, count, ap length c.as_slice-firsts.ensures, ap length inv.its_map, length-first_rows wrap 0 (lines text)) in
    let none : Span = record { start = 0; end = 0 } in
    let first = get_or fs c.args.k 0 in
    let base = (get_or rs first none).start in
    let at = line_at wrap text rs fs c.args.k first base none (IsUtf8-string_bytes c.self.inside.text) (c.as_slice-rows.ensures.value ∙ inv.its_rows) (c.as_slice-firsts.ensures ∙ inv.its_map) lt refl refl in
    let rest : c.range_from-rest.result.now ≡ drop base text = c.range_from-rest.ensures.value ∙ ap (drop base) c.deref.ensures in
    let ends = rows_at wrap text rs fs c.args.k first base c.rows_end-end.result at c.rows_end-end.ensures in
    let line : c.first_line.result.now ≡ get_or (lines_of (cut (drop base text))) 0 [] = c.first_line.ensures ∙ ap (λ t. get_or (lines_of (cut t)) 0 []) rest in
    record {
      its_first = ap (λ l. get_or l c.args.k 0) (c.as_slice-firsts.ensures ∙ inv.its_map) ∙ ap (λ (x : Document). first_of x c.args.k) c.self.view_is;
      its_text = line ∙ sym at.its_line ∙ ap (λ (x : Document). line_of x c.args.k) c.self.view_is;
      its_rows = ends.2 ∙ ap (line_stored wrap base) (sym line) ∙ ap (λ (x : Document). line_stored (wrap_in x) base c.first_line.result.now) c.self.view_is;
    }
