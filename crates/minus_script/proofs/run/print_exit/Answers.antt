-- The line that is formed is put behind nothing.
use Rattle.std.proofs.Common.{ap, ◌++◌, ◌∙◌}
use Rattle.minus_script.proofs.run.print_exit.Goals as goal

pub returns : goal.returns
returns c = c.in_ok-extend_from_slice.ensures.items ∙ ap (λ bs. bs ++ c.as_bytes.result.now) c.new-printed.ensures.items ∙ c.as_bytes.ensures.value ∙ c.in_ok-line.ensures.ok
