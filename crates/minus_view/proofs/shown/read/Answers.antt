use Rattle.std.specs.Str.Iter.{chars_rest}
use Rattle.std.proofs.Common.{◌∷◌, [], Option, Some, ap, sym, ◌∙◌, map-id}
use Rattle.std.specs.Option.{option_and_then}
use Rattle.std.proofs.lemmas.Iterator.{YieldsList-from_chars}
use Rattle.std.proofs.lemmas.Iterator.Consumers.{YieldsList-end}
use Rattle.minus_view.specs.declared.shown.Spot.{Spot}
use Rattle.minus_view.specs.Shown.{read, step}
use Rattle.minus_view.proofs.ShownLaws.{read-append}
use Rattle.minus_view.proofs.shown.read.Goals as goal

pub loop-c-preserved-in-Some-at : goal.loop-c-preserved-in-Some-at
loop-c-preserved-in-Some-at c =
    let further : Option Spot → Option Spot = λ at. option_and_then (λ spot. step spot c.in-Some.c) at in
    c.step-at.ensures
    ∙ ap further (sym c.in-Some-at.is ∙ c.loop-c.invariant)
    ∙ sym (read-append c.loop-c.yielded (c.in-Some.c ∷ []) (Some c.args.spot))

pub loop-c-preserved : goal.loop-c-preserved
loop-c-preserved c =
    let further : Option Spot → Option Spot = λ at. option_and_then (λ spot. step spot c.in-Some.c) at in
    ap further (sym c.in-None-at.is ∙ c.loop-c.invariant)
    ∙ sym (read-append c.loop-c.yielded (c.in-Some.c ∷ []) (Some c.args.spot))

pub returns : goal.returns
returns c =
    let cc = ap chars_rest c.into_iter-c-iterator.ensures.into_iter_gives ∙ c.chars-c-items.ensures.rest in
    let end = YieldsList-end (YieldsList-from_chars c.args.text.now c.utf8.text cc) c.loop-c.yielded _ c.loop-c.yielded_by _ _ c.in-None.is c.next.ensures.steps in
    c.loop-c.invariant ∙ ap (λ cs. read cs (Some c.args.spot)) (sym (map-id c.loop-c.yielded) ∙ end.0)
