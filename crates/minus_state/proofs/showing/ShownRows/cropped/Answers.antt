-- The row's text as a term shows it there.
use Rattle.std.proofs.Common.{ℕ, List, Option, Some, option_map, sym, ap, ◌∙◌}
use Rattle.minus_text.specs.declared.matched_text.MatchedText.{MatchedText}
use Rattle.minus_text.specs.MatchedTexts.{text_within}
use Rattle.minus_text.specs.Views.{viewed}
use Rattle.minus_state.specs.ShownRow.{cropped_line, columns_for_text}
use Rattle.minus_state.proofs.showing.ShownRows.cropped.Goals as goal

pub returns-in_default : goal.returns-in_default
returns-in_default c = λ term found.
    let d = (viewed c.args.self.view).document in
    let left = c.args.self.left_mark in
    let n = columns_for_text d in
    ap (λ (o : Option (List ℕ)). option_map (cropped_line d left c.args.i) o) (sym (ap (λ (o : Option MatchedText). option_map (text_within left n) o) c.in_default.is) ∙ c.matched_text.ensures term left n found)

pub returns : goal.returns
returns c = λ term found.
    let d = (viewed c.args.self.view).document in
    let left = c.args.self.left_mark in
    let n = columns_for_text d in
    ap (λ (bs : List ℕ). Some bs) (c.in_ok-row.ensures d left c.of.ensures)
    ∙ ap (λ (o : Option (List ℕ)). option_map (cropped_line d left c.args.i) o) (sym (ap (λ (o : Option MatchedText). option_map (text_within left n) o) c.in-Some.is) ∙ c.matched_text.ensures term left n found)
