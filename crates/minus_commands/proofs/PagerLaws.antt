-- What waits in a pager asks for what waited, and then for what one command more asks for.
use Rattle.std.proofs.Common.{◌≡◌, List, [], ◌∷◌, ◌++◌, map, ap, ◌∙◌}
use Rattle.std.proofs.lemmas.List.{map-append}
use Rattle.minus_commands.specs.declared.commands.CommandOf.{CommandOf}
use Rattle.minus_commands.specs.Pager.{WaitsBehind}
use Rattle.minus_commands.specs.Reads.{wanted_of}
use Rattle.minus_commands.specs.Table.{Wanted}

pub asked_behind : {P H E Q K : Type 0} → (waited waiting : List (CommandOf P H E Q K)) → (wanted : Wanted Q K) → WaitsBehind waited waiting wanted
    → map wanted_of waiting ≡ map wanted_of waited ++ wanted ∷ []
asked_behind waited waiting wanted behind =
    ap (map wanted_of) behind.2 ∙ map-append wanted_of waited (behind.0 ∷ []) ∙ ap (λ (w : Wanted _ _). map wanted_of waited ++ w ∷ []) behind.1
