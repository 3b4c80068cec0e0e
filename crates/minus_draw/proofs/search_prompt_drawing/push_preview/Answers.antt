-- The rows that are shown once the query is taken.
use Rattle.std.proofs.Common.{ℕ, List, ◌++◌, map, string_bytes, ap, ◌∙◌}
use Rattle.std.proofs.lemmas.Result.{on_ok_weaker}
use Rattle.minus_term.specs.FullRedraw.{full_ops}
use Rattle.minus_term.specs.Written.{written_all}
use Rattle.minus_draw.proofs.search_prompt_drawing.push_preview.Goals as goal

pub returns : goal.returns
returns c =
    let out : List ℕ = c.args.out.now.items in
    on_ok_weaker c.write_page.result (λ e f. e ∙ ap (λ (ts : List (List ℕ)). out ++ written_all (full_ops c.args.rows ts c.args.typed.now)) (ap (map string_bytes) c.deref.ensures.value ∙ c.in_ok-found.ensures f)) c.write_page.ensures
