-- One more line stands behind those before it.
use Rattle.std.proofs.Common.{◌≡◌, ◌<◌, ◌+◌, ℕ, List, length, map, take, get_or, ◌++◌, ◌∷◌, [], sym, ap, ap₂, ◌∙◌}
use Rattle.std.specs.List.{flat_map}
use Rattle.std.proofs.lemmas.List.{take_more, map-append, flat_map_more}
use Rattle.minus_input.specs.HelpTable.{seen_entry, group_line}
use Rattle.minus_input.proofs.help_table.format_groups.Goals as goal

group_added : {D : Type 0} (text : D → List ℕ) (group : List ℕ → List ℕ) (before line after : List ℕ) (ds : List D) (i : ℕ) (d : D) → i < length ds
    → before ≡ flat_map group (map text (take i ds)) → line ≡ group (text (get_or ds i d)) → after ≡ before ++ line → after ≡ flat_map group (map text (take (i + 1) ds))
group_added text group before line after ds i d l so_far is added =
    added ∙ ap₂ (λ a b. a ++ b) so_far is ∙ flat_map_more group [] (map text (take i ds)) (text (get_or ds i d))
    ∙ ap (flat_map group) (sym (map-append text (take i ds) (get_or ds i d ∷ [])) ∙ ap (map text) (sym (take_more ds i d l)))

pub loop-description-preserved : goal.loop-description-preserved
loop-description-preserved c =
    group_added (λ text. text.now) (group_line (map seen_entry c.args.entries.now)) _ c.as_str.result.now _ c.args.descriptions.now c.loop-description.description-index _ c.loop-description-test.true
    c.loop-description.invariant (c.as_str.ensures.value ∙ c.in_ok-line.ensures) c.in_ok-push_str.ensures.bytes
