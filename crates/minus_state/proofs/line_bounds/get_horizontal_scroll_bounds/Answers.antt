-- The range lies in the text behind the prefix.
use Rattle.std.proofs.Common.{ℕ, ◌+◌, ◌-◌, ◌≤◌, List, [], Option, length, rules, arith, sym, ap, ◌∙◌}
use Rattle.minus_text.specs.NumberPrefix.{prefix_columns}
use Rattle.minus_state.specs.LineBounds.{seen_range, range_behind}
use Rattle.minus_state.specs.VisibleCharacters.{row_units}
use Rattle.minus_state.proofs.LineBoundsLaws.{range_within}
use Rattle.minus_state.proofs.line_bounds.get_horizontal_scroll_bounds.Goals as goal

pub overflow_add-result : goal.overflow_add-result
overflow_add-result c =
    let both = range_within c.args.start c.saturating_sub.result c.range_from.result.now (c.in-Some.first, c.in-Some.last) c.range_from.utf8 (sym c.in-Some.is ∙ c.seen_range.ensures) in
    let cut = c.prefix_end-prefix.ensures.cut in
    let within : c.prefix_end-prefix.result + c.in-Some.first ≤ length c.args.line.now = omega (arith, both.0, cut.0, c.range_from.ensures.len) in
    search (rules, within)

pub overflow_add-result-in-Some : goal.overflow_add-result-in-Some
overflow_add-result-in-Some c =
    let both = range_within c.args.start c.saturating_sub.result c.range_from.result.now (c.in-Some.first, c.in-Some.last) c.range_from.utf8 (sym c.in-Some.is ∙ c.seen_range.ensures) in
    let cut = c.prefix_end-prefix.ensures.cut in
    let within : c.prefix_end-prefix.result + c.in-Some.last ≤ length c.args.line.now = omega (arith, both.1, cut.0, c.range_from.ensures.len) in
    search (rules, within)

pub returns-in-Some : goal.returns-in-Some
returns-in-Some c =
    let line : List ℕ = c.args.line.now in
    let width = c.saturating_sub.ensures ∙ ap (λ (n : ℕ). c.args.cols - n) c.prefix_columns.ensures.value in
    let seen = sym c.in-Some.is ∙ c.seen_range.ensures
    ∙ ap (λ (w : ℕ). seen_range c.args.start w [] (row_units c.range_from.result.now)) width
    ∙ ap (λ (bs : List ℕ). seen_range c.args.start (c.args.cols - prefix_columns c.args.numbers c.args.line_count) [] (row_units bs)) c.range_from.ensures.value in
    record { prefix_ends = c.prefix_end-prefix.ensures; range_is = ap (λ (o : Option (ℕ × ℕ)). range_behind c.prefix_end-prefix.result (length line) o) seen }

pub returns-in-None : goal.returns-in-None
returns-in-None c =
    let line : List ℕ = c.args.line.now in
    let width = c.saturating_sub.ensures ∙ ap (λ (n : ℕ). c.args.cols - n) c.prefix_columns.ensures.value in
    let seen = sym c.in-None.is ∙ c.seen_range.ensures
    ∙ ap (λ (w : ℕ). seen_range c.args.start w [] (row_units c.range_from.result.now)) width
    ∙ ap (λ (bs : List ℕ). seen_range c.args.start (c.args.cols - prefix_columns c.args.numbers c.args.line_count) [] (row_units bs)) c.range_from.ensures.value in
    record { prefix_ends = c.prefix_end-prefix.ensures; range_is = ap (λ (o : Option (ℕ × ℕ)). range_behind c.prefix_end-prefix.result (length line) o) seen }
