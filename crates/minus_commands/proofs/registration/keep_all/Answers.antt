-- The commands are read in from their beginning.
use Rattle.std.proofs.Common.{◌≡◌, ℕ, ◌+◌, List, ◌∷◌, length, map, sym, ap, subst, ◌∙◌, arith}
use Rattle.std.specs.Vec.Iter.{into_iter_items}
use Rattle.minus_state.specs.declared.hooks.HookId.{HookId}
use Rattle.minus_commands.specs.Callbacks.{callbacks_of, with_commands}
use Rattle.minus_commands.specs.Reads.{kept_of, wanted_of}
use Rattle.minus_commands.specs.Room.{HasRoomFor}
use Rattle.minus_commands.specs.WaitingRegistrations.{kept_taken, classifier_taken, condition_taken, CanTakeAll}
use Rattle.minus_commands.specs.Table.{handed}
use Rattle.minus_commands.proofs.KeepLaws.{ids_kept}
use Rattle.minus_commands.proofs.registration.keep_all.Goals as goal

pub loop-command-preserved : goal.loop-command-preserved
loop-command-preserved g c =
    let at = c.loop-command in
    let left = into_iter_items c.next.new.self in
    let rest = map wanted_of left in
    let w = wanted_of c.in-Some.command in
    let steps : into_iter_items at.command-iterator ≡ c.in-Some.command ∷ left = c.in-Some.ensures.steps.0 in
    let can = subst (λ l. CanTakeAll (kept_of at.parts).ids (map wanted_of l)) steps at.invariant.3 in
    let room = subst (λ l. HasRoomFor at.parts (length l)) steps at.invariant.4 in
    let kept = c.keep_command.ensures in (
      ap (λ k. kept_taken k rest) kept.kept ∙ ap (λ l. kept_taken (kept_of at.parts) (map wanted_of l)) (sym steps) ∙ at.invariant.0,
      ap (λ k. classifier_taken k rest) kept.classifier ∙ ap (λ l. classifier_taken at.parts.classifier (map wanted_of l)) (sym steps) ∙ at.invariant.1,
      ap (λ k. condition_taken k rest) kept.condition ∙ ap (λ l. condition_taken at.parts.condition (map wanted_of l)) (sym steps) ∙ at.invariant.2,
      subst (λ (ids : List HookId). CanTakeAll ids rest) (sym (ids_kept (kept_of at.parts) (handed w)) ∙ sym (ap (λ k. k.ids) kept.kept)) can.2,
      kept.less (length left) (subst (λ (n : ℕ). HasRoomFor at.parts n) (let n : length (c.in-Some.command ∷ left) ≡ length left + 1 = omega arith in n) room),
      kept.state ∙ at.invariant.5,
      let was = at.invariant.6 in
          let gone = c.in-Some.ensures.steps.1 in
          let short = ap length steps in
          omega arith,
      ap (λ k. with_commands k left) kept.callbacks ∙ ap (λ l. with_commands (callbacks_of at.parts) l) (sym steps) ∙ at.invariant.7,
    )
