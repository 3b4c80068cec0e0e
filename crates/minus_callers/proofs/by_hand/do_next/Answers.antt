-- A drawing is refused out of memory, or by the sink.
use Rattle.std.proofs.lemmas.Result.{IfErr-weaker}
use Rattle.minus_term.specs.Refusals.{refusal_of}
use Rattle.minus_callers.proofs.ByHandLaws.{io_fault}
use Rattle.minus_callers.proofs.by_hand.do_next.Goals as goal

pub returns-in-Io-clause-refused : goal.returns-in-Io-clause-refused
returns-in-Io-clause-refused g c = IfErr-weaker c.handle_io_command.result _ _ (λ e h. io_fault (refusal_of e) _ _ _ _ _ _ h) c.handle_io_command.ensures.undone
