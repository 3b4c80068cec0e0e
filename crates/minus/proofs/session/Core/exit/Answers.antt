-- The exit, or its cleanup broken off.
use Rattle.std.proofs.Common.{refl, ap, ◌∙◌}
use Rattle.minus.specs.Core.{seen_of}
use Rattle.minus_commands.specs.Registration.{Kept}
use Rattle.minus.specs.Seen.{Seen}
use Rattle.minus.proofs.StepLaws.{exit_take, exit_broken, prefix_placed, seen_alike}
use Rattle.minus.proofs.session.Core.exit.Goals as goal

pub returns-in-Err-clause-refused : goal.returns-in-Err-clause-refused
returns-in-Err-clause-refused g c told w asks x =
    let old = seen_of c.args.self.now in
    let left = c.leave.ensures in
    let control = prefix_placed old told w c.args.prefix c.args.self.now.parts.state c.leave.new.parts.state refl left.state x in
    record {
      fails = exit_broken _ old _ told w c.in-Err.cause _ _ c.requires.closed asks x.exits (seen_alike _ _ control left.classifier left.condition left.kept refl refl refl) c.in-Err.ensures.broken;
      rises = λ fault. c.in-Err.ensures.rises;
      untouched = λ none. absurd (none tt);
    }

pub returns-clause-taken : goal.returns-clause-taken
returns-clause-taken g c told w asks x =
    let old = seen_of c.args.self.now in
    let left = c.leave.ensures in
    let control = prefix_placed old told w c.args.prefix c.args.self.now.parts.state c.leave.new.parts.state refl left.state x in
    let seen = c.call_hook.ensures.seen ∙ c.let_none_wait.ensures.seen in
    let sink = c.call_hook.ensures.sink ∙ c.let_none_wait.ensures.sink in
    record {
      took = exit_take _ old _ told w c.exit_of-strategy.result _ _ c.requires.closed asks x.exits (c.exit_of-strategy.ensures ∙ ap (λ (s : Seen _ _). s.kept.exit) seen ∙ ap (λ (k : Kept). k.exit) left.kept)
          (seen ∙ seen_alike _ _ control left.classifier left.condition left.kept refl refl refl)
          (let written = c.in_default.ensures.ok in rw sink written);
      stays = rw sink c.in_default.ensures.stays;
    }

pub returns-in-Err-clause-taken : goal.returns-in-Err-clause-taken
returns-in-Err-clause-taken g c = tt
