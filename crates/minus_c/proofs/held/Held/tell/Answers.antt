-- A session was started: the command is a step of it.
use Rattle.minus_commands.specs.Reads.{a_command, wanted_of}
use Rattle.minus_c.specs.Sessions.{RefusesStep}
use Rattle.minus_c.specs.Stages.{Waits}
use Rattle.minus_c.proofs.StageLaws.{waits_is, command_refused}
use Rattle.minus_c.proofs.held.Held.tell.Goals as goal

pub returns : goal.returns
returns c =
    let not : Waits c.args.self.now.stage → ⊥ = λ waits. waits_is _ waits c.in_default.not-Waiting in
    record {
      kept = λ done waits. absurd (not waits);
      step = λ done started. c.step.ensures.step done;
      refused = λ more.
          let told = c.step.ensures.refused more in
          record {
            refusal = told.refusal;
            kept = told.kept;
            tells = told.tells;
            refuses = command_refused (RefusesStep (a_command (wanted_of c.args.command))) told.refusal c.args.self.now.stage c.step.new.self.stage not told.refuses;
          };
    }
