-- The blank row, and the prompt in it.
use Rattle.std.proofs.Common.{ℕ, List, [], ◌∷◌, ◌++◌, ap, ◌∙◌}
use Rattle.minus_term.specs.Operations.{ClearRow, Return}
use Rattle.minus_term.proofs.PartLaws.{at_row, prompt_put, cleared_return}
use Rattle.minus_term.proofs.full_redraw.write_prompt_row.Goals as goal

pub returns : goal.returns
returns c =
    let row = c.push_at_row.new.out.items in
    let blank = at_row c.args.out.now.items row c.args.rows _ (Return ∷ ClearRow ∷ []) c.in_ok-push_at_row.ensures cleared_return in
    prompt_put c.args.out.now.items row c.push_bytes.new.out.items c.args.rows c.args.prompt.now blank (c.in_ok-push_bytes.ensures.ok ∙ ap (λ (l : List ℕ). row ++ l) c.as_bytes.ensures.value)
