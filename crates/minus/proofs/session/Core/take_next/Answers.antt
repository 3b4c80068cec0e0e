-- The input alone, or with the appends behind it.
use Rattle.std.proofs.lemmas.Result.{IfOk-weaker, IfErr-weaker}
use Rattle.minus_term.specs.Refusals.{refusal_of}
use Rattle.minus.specs.Core.{seen_of}
use Rattle.minus_commands.specs.Reads.{told_of}
use Rattle.minus.specs.SessionSteps.{ending_of}
use Rattle.minus.proofs.JoinedTakeLaws.{took_alone, fails_alone}
use Rattle.minus.proofs.session.Core.take_next.Goals as goal

pub returns-in-Some-clause-taken : goal.returns-in-Some-clause-taken
returns-in-Some-clause-taken g c = IfOk-weaker c.take_joined.result _ _ (λ t h. h (told_of c.args.input) c.in-Some.ensures) c.take_joined.ensures.taken

pub returns-in-Some-clause-refused : goal.returns-in-Some-clause-refused
returns-in-Some-clause-refused g c = IfErr-weaker c.take_joined.result _ _ (λ e h. h (told_of c.args.input) c.in-Some.ensures) c.take_joined.ensures.refused

pub returns-in-None-clause-taken : goal.returns-in-None-clause-taken
returns-in-None-clause-taken g c = IfOk-weaker c.perform.result _ _ (λ t h. record { took = took_alone _ (ending_of t) (seen_of c.args.self.now) (told_of c.args.input) (seen_of c.perform.new.self) _ _ h.took; stays = h.stays }) c.perform.ensures.taken

pub returns-in-None-clause-refused : goal.returns-in-None-clause-refused
returns-in-None-clause-refused g c = IfErr-weaker c.perform.result _ _ (λ e h. record { fails = fails_alone _ (refusal_of e) (seen_of c.args.self.now) (told_of c.args.input) (seen_of c.perform.new.self) _ _ h.fails; rises = h.rises; untouched = h.untouched }) c.perform.ensures.refused
