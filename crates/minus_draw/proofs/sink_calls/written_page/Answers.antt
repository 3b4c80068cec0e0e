-- The rows that the change leads to.
use Rattle.std.proofs.Common.{ap, ◌++◌, ◌∙◌}
use Rattle.std.specs.List.{flat_map}
use Rattle.minus_term.specs.FullRedraw.{row_ops}
use Rattle.minus_term.specs.Written.{written_all}
use Rattle.minus_state.specs.Changes.{shown_by}
use Rattle.minus_draw.proofs.sink_calls.written_page.Goals as goal

pub returns : goal.returns
returns c next = c.in_ok-write_after.ensures next ∙ ap (λ bs. bs ++ written_all (flat_map row_ops (shown_by c.args.state.now c.args.change.now))) c.new-bytes.ensures.items
