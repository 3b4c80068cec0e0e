-- What is left behind the mark, as far as the page goes.
use Rattle.std.proofs.Common.{◌-◌, min, length, take, drop, ap, ap₂, arith, ◌∙◌}
use Rattle.std.proofs.Math.Nat.{min_comm}
use Rattle.std.proofs.lemmas.List.{take_min, take_all, length-drop}
use Rattle.minus_draw.proofs.written_rows.lines_of_page.Goals as goal

pub returns : goal.returns
returns g c =
    let lines = c.args.lines.now in
    let first = c.min.result in
    let most = c.page_len.result in
    let rest = take (length lines - first) (drop first lines) in
    let whole = take_all (length lines - first) (drop first lines) (omega (arith, length-drop first lines)) in
    ap (λ n. take n rest) (c.min-2.ensures ∙ min_comm (length rest) most) ∙ take_min most rest
    ∙ ap (take most) (whole ∙ ap (λ n. drop n lines) c.min.ensures)
    ∙ ap₂ (λ m n. take m (drop (min c.args.upper_mark n) lines)) c.page_len.ensures c.top_of.ensures
