-- The numbers between two rows, and those that follow.
use Rattle.std.proofs.Common.{◌≡◌, ◌-◌, map, take, drop, sym, ap, ap₂, ◌∙◌, arith}
use Rattle.std.proofs.lemmas.List.{take-map, drop-map}
use Rattle.minus_text.specs.Found.{jump_rows}
use Rattle.minus_text.specs.JumpRows.{numbers_with}
use Rattle.minus_text.specs.FoundBy.{found_rows}
use Rattle.minus_text.proofs.JumpLaws.{row_of, below, rows_are, rise_of}
use Rattle.minus_text.proofs.JumpNumbersLaws.{below_ordered, numbers_between}
use Rattle.minus_text.proofs.search.found_rows.FoundRows.numbers_from.Goals as goal

pub jumps_before-from-requires : goal.jumps_before-from-requires
jumps_before-from-requires c = rise_of c.as_slice-jumps.result.now (found_rows c.args.self.now) (c.as_slice-jumps.ensures.value ∙ c.requires.jumps) c.requires.ascend

pub jumps_before-staying-requires : goal.jumps_before-staying-requires
jumps_before-staying-requires c = rise_of c.as_slice-jumps.result.now (found_rows c.args.self.now) (c.as_slice-jumps.ensures.value ∙ c.requires.jumps) c.requires.ascend

pub slice_bounds-add_numbers-count : goal.slice_bounds-add_numbers-count
slice_bounds-add_numbers-count c =
    let old = found_rows c.args.self.now in
    let is = rows_are c.as_slice-jumps.result.now old (c.as_slice-jumps.ensures.value ∙ c.requires.jumps) in
    let at_a = c.jumps_before-from.ensures.value ∙ ap (below c.args.first) is in
    let at_b = c.jumps_before-staying.ensures.value ∙ ap (below c.args.row) is in
    omega (arith, below_ordered c.args.first c.args.row (jump_rows old) c.requires.order, at_a, at_b)

pub slice_bounds-add_numbers-start : goal.slice_bounds-add_numbers-start
slice_bounds-add_numbers-start c =
    let old = found_rows c.args.self.now in
    let is = rows_are c.as_slice-jumps.result.now old (c.as_slice-jumps.ensures.value ∙ c.requires.jumps) in
    let at_a = c.jumps_before-from.ensures.value ∙ ap (below c.args.first) is in
    let at_b = c.jumps_before-staying.ensures.value ∙ ap (below c.args.row) is in
    omega (arith, below_ordered c.args.first c.args.row (jump_rows old) c.requires.order, at_a, at_b)

pub returns : goal.returns
returns c =
    let old = found_rows c.args.self.now in
    let fresh = found_rows c.args.fresh.now in
    let js = c.as_slice-jumps.result.now in
    let a = c.jumps_before-from.result in
    let b = c.jumps_before-staying.result in
    let is = rows_are js old (c.as_slice-jumps.ensures.value ∙ c.requires.jumps) in
    let at_a = c.jumps_before-from.ensures.value ∙ ap (below c.args.first) is in
    let at_b = c.jumps_before-staying.ensures.value ∙ ap (below c.args.row) is in
    let mid : map row_of (take (b - a) (drop a js)) ≡ take (b - a) (drop a (jump_rows old)) =
    sym (take-map row_of (b - a) (drop a js)) ∙ ap (take (b - a)) (sym (drop-map row_of a js)) ∙ ap (λ l. take (b - a) (drop a l)) is in
    c.in_ok-add_numbers-2.ensures
    ∙ ap₂ numbers_with (ap (map row_of) c.as_slice.ensures.value ∙ rows_are c.args.fresh.now.jumps.items fresh c.requires.fresh) (c.in_ok-add_numbers.ensures ∙ ap₂ numbers_with mid c.new-numbers.ensures.empty)
    ∙ numbers_between c.args.first c.args.row a b old fresh c.requires.order c.requires.ascend c.requires.behind at_a at_b
