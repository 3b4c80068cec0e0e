-- The text and the callback wait, and the start takes both over.
use Rattle.std.proofs.Common.{List, ◌∷◌, [], ◌++◌, map, ap, ◌∙◌}
use Rattle.std.proofs.lemmas.List.{map-append}
use Rattle.minus_term.specs.declared.hooks.Hook.TheVariants.{EofReached}
use Rattle.minus_commands.specs.Registration.{kept_at_first, a_callback}
use Rattle.minus_commands.specs.Reads.{wanted_of}
use Rattle.minus.specs.Seen.{Seen}
use Rattle.minus_commands.specs.WaitingRegistrations.{kept_taken}
use Rattle.minus_commands.specs.Table.{Wanted, appends_data, hands_over}
use Rattle.minus_commands.proofs.PagerLaws.{asked_behind}
use Rattle.minus_callers.proofs.fetcher.page_beginning.Goals as goal

pub returns-clause-hook : goal.returns-clause-hook
returns-clause-hook g c =
    let added : List (Wanted _ _) = hands_over (a_callback EofReached 0) ∷ [] in
    let pushed = asked_behind _ _ _ c.in_ok-push_str.ensures.ok ∙ ap (λ (items : _). map wanted_of items ++ appends_data c.args.beginning.now ∷ []) c.new-pager.ensures in
    let waits = ap (map wanted_of) c.in_ok-add_hook.ensures.ok ∙ map-append wanted_of _ _ ∙ ap (λ l. l ++ added) pushed in
    ap (λ (s : Seen _ _). s.kept.ids) c.in_ok-session.ensures.started.started.begins ∙ ap (λ l. (kept_taken kept_at_first l).ids) waits
