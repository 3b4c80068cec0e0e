-- The first of those that wait lie side by side.
use Rattle.std.proofs.Common.{◌≡◌, ◌++◌, List, map, string_bytes, sym, ap, subst, ◌∙◌}
use Rattle.std.proofs.lemmas.List.{map-append}
use Rattle.std.proofs.lemmas.Option.{IfSome_then}
use Rattle.minus_state.specs.Control.{Control}
use Rattle.minus.specs.Core.{seen_of}
use Rattle.minus.specs.Joined.{MayGoWith}
use Rattle.minus_commands.specs.Reads.{Told, told_of}
use Rattle.minus.proofs.JoinedTakeLaws.{goes_longer}
use Rattle.minus.proofs.session.Core.appends_behind.Goals as goal

pub returns : goal.returns
returns g c =
    let k : Control = (seen_of c.args.self.now).control in
    let told = told_of c.args.input.now in
    let all : map told_of c.as_slices.result.0.now ++ map told_of c.as_slices.result.1.now ≡ (seen_of c.args.self.now).waiting = sym (map-append told_of c.as_slices.result.0.now c.as_slices.result.1.now) ∙ ap (map told_of) c.as_slices.ensures.items in
    IfSome_then c.joined_behind.result c.joined_behind.ensures (λ j h. subst (λ (w : List (Told _ _)). MayGoWith k told w (string_bytes j.text) j.count) all (goes_longer k told (map told_of c.as_slices.result.0.now) (map told_of c.as_slices.result.1.now) (string_bytes j.text) j.count h))
