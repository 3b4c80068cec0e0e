-- The mode of the session tells whether it runs.
use Rattle.std.proofs.Common.{sym, ap, ◌∙◌}
use Rattle.minus_c.proofs.StageLaws.{running}
use Rattle.minus_c.specs.Stages.{is_running_mode, runs}
use Rattle.minus_c.proofs.stage.Stage.runs.Goals as goal

pub returns-in-Running : goal.returns-in-Running
returns-in-Running c = running _ _ c.is_uninitialized.ensures ∙ ap is_running_mode c.mode.ensures ∙ ap runs (sym c.in-Running.is)
