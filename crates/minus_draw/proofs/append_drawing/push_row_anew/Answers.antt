-- The three operations of the row's text.
use Rattle.std.proofs.Common.{ℕ, List, [], ◌∷◌, ◌++◌, ap, ◌∙◌}
use Rattle.minus_term.specs.Operations.{GoTo, ClearRow, Put}
use Rattle.minus_term.specs.Written.{written_all}
use Rattle.minus_draw.proofs.append_drawing.push_row_anew.Goals as goal

pub returns : goal.returns
returns c = c.in_ok-write_ops.ensures ∙ ap (λ (r : List ℕ). c.args.out.now.items ++ written_all (GoTo 0 c.args.row ∷ ClearRow ∷ Put r ∷ [])) c.as_str.ensures
