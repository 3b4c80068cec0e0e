-- The prefix, and what is shown behind it.
use Rattle.std.proofs.Common.{◌≡◌, ◌-◌, ℕ, take, drop, string_bytes, arith, refl, ap, ◌∙◌}
use Rattle.minus_text.specs.Crop.{cropped}
use Rattle.minus_text.specs.NumberPrefix.{prefix_columns}
use Rattle.minus_state.specs.LineBounds.{prefix_bytes}
use Rattle.minus_draw.specs.WrittenRows.{prefix_end, cropped_behind}
use Rattle.minus_draw.proofs.WrittenRowsLaws.{last_cut_is}
use Rattle.minus_draw.proofs.written_rows.row_from.Goals as goal

pub returns : goal.returns
returns c =
    let s = c.args.style in
    let row = c.args.row.now in
    let place = c.get_horizontal_scroll_bounds-prefix.result.0 in
    let here : place ≡ prefix_end s.numbers s.line_count row = last_cut_is row (prefix_bytes s.numbers s.line_count) place c.get_horizontal_scroll_bounds-prefix.ensures.prefix_ends in
    let width : c.saturating_sub-width.result ≡ s.cols - prefix_columns s.numbers s.line_count = c.saturating_sub-width.ensures ∙ ap (λ (n : ℕ). s.cols - n) c.prefix_columns.ensures.value in
    let first : string_bytes c.in_ok-shown.shown ≡ take place row = c.in_ok-shown.ensures.ok ∙ c.range.ensures.value ∙ ap (λ (n : ℕ). take n row) (omega arith) in
    let second : string_bytes c.in_ok-text.text ≡ cropped s.left_mark c.saturating_sub-width.result (drop place row) = c.in_ok-text.ensures.row ∙ ap (cropped s.left_mark c.saturating_sub-width.result) c.range_from.ensures.value in
    c.in_ok-push_str.ensures.bytes ∙ rw (first, c.as_str.ensures.value, second) refl ∙ ap (λ (p : ℕ). cropped_behind p s.left_mark c.saturating_sub-width.result row) here
    ∙ ap (λ (w : ℕ). cropped_behind (prefix_end s.numbers s.line_count row) s.left_mark w row) width
