-- The session begins over a sink that has nothing, with the default bindings.
use Rattle.minus_c.proofs.StageLaws.{starts_so, refuses_so, no_bindings, unbegun}
use Rattle.minus_c.proofs.stage.Stage.started.Goals as goal

pub returns-in-Ok-clause-started : goal.returns-in-Ok-clause-started
returns-in-Ok-clause-started c =
    starts_so _ _ c.in-Waiting.waits (λ s is. record {
      sink = c.no_bytes.result;
      fresh = record { empty = c.no_bytes.ensures.bytes; tty = c.no_bytes.ensures.tty };
      is = record { classifier = c.in-Ok.keys; first = c.in-Ok.ensures; start = is };
    }) _ _ c.in-Waiting.is _ c.begin.ensures.started

pub returns-in-Ok-clause-refused : goal.returns-in-Ok-clause-refused
returns-in-Ok-clause-refused c =
    refuses_so _ _ c.in-Waiting.waits (λ refused is. record {
      sink = c.no_bytes.result;
      fresh = record { empty = c.no_bytes.ensures.bytes; tty = c.no_bytes.ensures.tty };
      is = is;
    }) _ _ c.in-Waiting.is _ c.begin.ensures.refused c.begin.ensures.early

pub returns-in-Err-clause-refused : goal.returns-in-Err-clause-refused
returns-in-Err-clause-refused c = no_bindings _ _ _ c.in-Waiting.is

pub returns-in_default-clause-refused : goal.returns-in_default-clause-refused
returns-in_default-clause-refused c = unbegun _ _ _ _ c.in_default.not-Waiting c.unstarted.ensures.same c.unstarted.ensures.refused
