-- The appends at the front in one go, or the command alone.
use Rattle.std.proofs.Common.{◌∷◌, map, string_bytes, sym, ap, subst, ◌∙◌}
use Rattle.minus_state.specs.Control.{Control}
use Rattle.minus_state.specs.States.{control_of}
use Rattle.minus_commands.specs.Reads.{wanted_of}
use Rattle.minus.specs.Starts.{taken_all}
use Rattle.minus_commands.specs.WaitingRegistrations.{CanTakeAll}
use Rattle.minus_commands.specs.Unmoved.{unmoved_by}
use Rattle.minus.proofs.JoinedLaws.{joined_leads, joined_can}
use Rattle.minus.proofs.joined.next_taken.Goals as goal

pub returns-in_ok-text-in-Some-clause-next : goal.returns-in_ok-text-in-Some-clause-next
returns-in_ok-text-in-Some-clause-next g c =
    let old : Control = control_of c.args.state.now in
    let more = map wanted_of c.args.behind.now in
    joined_leads old c.in-Some.first.now (string_bytes c.in_ok-text-in-Some.text) more (map wanted_of c.in_ok-text-in-Some.left.now) (c.may_join.ensures c.if-may_join.true) c.in_ok-text-in-Some.ensures.joined
    ∙ ap (λ w. taken_all old (w ∷ more)) (sym c.in-Some.ensures)

pub returns-in_ok-text-in-Some-clause-can : goal.returns-in_ok-text-in-Some-clause-can
returns-in_ok-text-in-Some-clause-can g c = λ ids can.
    let more = map wanted_of c.args.behind.now in
    (ids, joined_can ids c.in-Some.first.now (string_bytes c.in_ok-text-in-Some.text) more (map wanted_of c.in_ok-text-in-Some.left.now) c.in_ok-text-in-Some.ensures.joined (subst (λ w. CanTakeAll ids (w ∷ more)) c.in-Some.ensures can))

pub returns-in_ok-copied-in_default-clause-next : goal.returns-in_ok-copied-in_default-clause-next
returns-in_ok-copied-in_default-clause-next g c =
    let old : Control = control_of c.args.state.now in
    let same = ap (unmoved_by old) (c.in_ok-copied-in_default.ensures.effect old) in
    ap (λ k. taken_all k (map wanted_of c.args.behind.now)) same
