-- The texts, and the blank rows after them.
use Rattle.std.proofs.Common.{◌++◌, ◌+◌, [], ℕ, map, sym, ap, ◌∙◌}
use Rattle.std.proofs.lemmas.List.{length-map}
use Rattle.minus_term.specs.Append.{rows_anew}
use Rattle.minus_term.specs.Written.{written_all}
use Rattle.minus_draw.proofs.DrawingLaws.{anew_added}
use Rattle.minus_state.specs.Showing.{row_text}
use Rattle.minus_draw.proofs.append_drawing.push_rows_anew.Goals as goal

pub returns : goal.returns
returns c =
    let a = c.push_texts_anew.new.out.items in
    let len = length-map c.args.texts.now row_text in
    anew_added c.args.out.now.items a c.clear_rows.new.out.items c.args.first c.args.blanks (map row_text c.args.texts.now) c.in_ok-push_texts_anew.ensures
    (c.in_ok-clear_rows.ensures ∙ ap (λ (n : ℕ). a ++ written_all (rows_anew (c.args.first + n) [] c.args.blanks)) (sym len))
