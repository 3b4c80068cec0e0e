use Rattle.std.proofs.Common.{◌++◌, ap, sym, ◌∙◌, map-id, []}
use Rattle.std.specs.List.{flat_map}
use Rattle.std.specs.Str.Iter.{chars_rest}
use Rattle.std.proofs.lemmas.List.{flat_map_more}
use Rattle.std.proofs.lemmas.Iterator.{YieldsList-from_chars}
use Rattle.std.proofs.lemmas.Iterator.Consumers.{YieldsList-end}
use Rattle.minus_view.specs.PromptPlace.{shown_as}
use Rattle.minus_view.proofs.prompt_place.clean_characters.Goals as goal

pub loop-c-preserved : goal.loop-c-preserved
loop-c-preserved c =
    c.in_ok-push_clean.ensures
    ∙ ap (λ cs. cs ++ shown_as c.in-Some.c) c.loop-c.invariant
    ∙ flat_map_more shown_as [] c.loop-c.yielded c.in-Some.c

pub returns : goal.returns
returns c =
    let rest = ap chars_rest c.into_iter-c-iterator.ensures.into_iter_gives ∙ c.chars-c-items.ensures.rest in
    let end = YieldsList-end (YieldsList-from_chars c.args.name.now c.utf8.name rest) c.loop-c.yielded _ c.loop-c.yielded_by _ _ c.in-None.is c.next.ensures.steps in
    c.loop-c.invariant ∙ ap (flat_map shown_as) (sym (map-id c.loop-c.yielded) ∙ end.0)
