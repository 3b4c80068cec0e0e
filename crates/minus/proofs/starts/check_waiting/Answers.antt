-- One more command that can be read in, or the first that cannot.
use Rattle.std.proofs.Common.{◌≡◌, ◌+◌, List, [], ◌∷◌, map, drop, sym, ap, subst, ◌∙◌}
use Rattle.std.proofs.lemmas.List.{drop_more}
use Rattle.minus_term.specs.Refusals.{refusal_of}
use Rattle.minus_state.proofs.RefusalLaws.{passed_on}
use Rattle.minus_state.specs.Hooks.{held_by}
use Rattle.minus_state.specs.declared.hooks.HookId.{HookId}
use Rattle.minus_commands.specs.Reads.{wanted_of}
use Rattle.minus_commands.specs.WaitingRegistrations.{CanTakeAll}
use Rattle.minus.specs.Starts.{IsUntaken}
use Rattle.minus.proofs.StartLaws.{untaken_here, untaken_later}
use Rattle.minus.proofs.starts.check_waiting.Goals as goal

pub loop-command-preserved : goal.loop-command-preserved
loop-command-preserved g c =
    let at = c.loop-command in
    let checked = c.in_ok-check_next.ensures in
    let w = wanted_of c.command-item.result in
    let ids : List HookId = (held_by at.ids).ids in
    let rest = map wanted_of (drop (at.command-index + 1) c.args.queue.now) in
    let left : map wanted_of (drop at.command-index c.args.queue.now) ≡ w ∷ rest = ap (map wanted_of) (drop_more c.args.queue.now at.command-index _ c.loop-command-test.true) ∙ ap (λ x. wanted_of x ∷ rest) (sym c.command-item.is) in (
      λ can. at.invariant.0 (subst (CanTakeAll ids) (sym left) (checked.possible, checked.free, subst (λ (i : List HookId). CanTakeAll i rest) checked.ids can)),
      λ refusal no. at.invariant.1 refusal (subst (IsUntaken refusal ids) (sym left) (untaken_later refusal ids w rest checked.possible checked.free (subst (λ (i : List HookId). IsUntaken refusal i rest) checked.ids no))),
    )

pub returns-in_err-check_next-clause-refused : goal.returns-in_err-check_next-clause-refused
returns-in_err-check_next-clause-refused g c =
    let at = c.loop-command in
    let e = c.in_err-check_next.field-0.0 in
    let w = wanted_of c.command-item.result in
    let ids : List HookId = (held_by at.ids).ids in
    let rest = map wanted_of (drop (at.command-index + 1) c.args.queue.now) in
    let left : map wanted_of (drop at.command-index c.args.queue.now) ≡ w ∷ rest = ap (map wanted_of) (drop_more c.args.queue.now at.command-index _ c.loop-command-test.true) ∙ ap (λ x. wanted_of x ∷ rest) (sym c.command-item.is) in
    passed_on c.from_residual.result (λ x. IsUntaken (refusal_of x) [] (map wanted_of c.args.queue.now)) e c.from_residual.ensures
    (at.invariant.1 (refusal_of e) (subst (IsUntaken (refusal_of e) ids) (sym left) (untaken_here (refusal_of e) ids w rest c.in_err-check_next.ensures.refused)))
