-- The rows from one on, as far as there are rows or were.
use Rattle.std.proofs.Common.{◌≡◌, ℕ, ◌-◌, ◌++◌, min, max, List, length, map, drop, ap, ◌∙◌}
use Rattle.minus_term.specs.Append.{rows_anew}
use Rattle.minus_term.specs.Operations.{Op}
use Rattle.minus_term.specs.Written.{written_all}
use Rattle.minus_term.proofs.AppendLaws.{anew_near}
use Rattle.minus_state.specs.Changes.{shown_by}
use Rattle.minus_state.specs.Showing.{row_text}
use Rattle.minus_draw.proofs.append_drawing.push_rows_after.Goals as goal

pub returns : goal.returns
returns c next =
    let shown : List (List ℕ) = shown_by c.args.state.now c.args.change.now in
    let out : List ℕ = c.args.out.now.items in
    let first : ℕ = c.args.first in
    let from : c.min-from.result ≡ min first (max (length shown) c.args.were) = c.min-from.ensures ∙ ap (min first) (c.max.ensures ∙ ap (λ n. max n c.args.were) c.count_after-count.ensures.count) in
    let blanks : c.saturating_sub-blanks.result ≡ c.args.were - max (length shown) first = c.saturating_sub-blanks.ensures ∙ ap (λ n. c.args.were - n) (c.max-2.ensures ∙ ap (λ n. max n first) c.count_after-count.ensures.count) in
    let texts : map row_text c.deref.result.now ≡ drop first shown = ap (map row_text) c.deref.ensures.value ∙ c.in_ok-texts.ensures.rows next in
    c.in_ok-push_rows_anew.ensures
    ∙ ap (λ n. out ++ written_all (rows_anew n (map row_text c.deref.result.now) c.saturating_sub-blanks.result)) from
    ∙ ap (λ ts. out ++ written_all (rows_anew (min first (max (length shown) c.args.were)) ts c.saturating_sub-blanks.result)) texts
    ∙ ap (λ n. out ++ written_all (rows_anew (min first (max (length shown) c.args.were)) (drop first shown) n)) blanks
    ∙ ap (λ (ops : List Op). out ++ written_all ops) (anew_near first c.args.were shown)
