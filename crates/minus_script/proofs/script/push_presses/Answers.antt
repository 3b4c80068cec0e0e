-- One more press, and no more.
use Rattle.std.proofs.Common.{◌≡◌, ◌++◌, ◌∷◌, [], map, sym, ap, ◌∙◌, map-id}
use Rattle.std.proofs.lemmas.List.{append_assoc, map-append}
use Rattle.std.proofs.lemmas.Iterator.{YieldsList-from_chars}
use Rattle.std.proofs.lemmas.Iterator.Consumers.{YieldsList-end}
use Rattle.minus_commands.specs.Reads.{told_of}
use Rattle.minus_script.specs.Script.{typed}
use Rattle.minus_script.proofs.script.push_presses.Goals as goal

pub returns : goal.returns
returns c =
    let end = YieldsList-end (YieldsList-from_chars c.args.text.now c.utf8.text cc) c.loop-character.yielded _ c.loop-character.yielded_by _ _ c.in-None.is c.next.ensures.steps in
    c.loop-character.invariant ∙ ap (λ x. map told_of c.args.inputs.now.items ++ map typed x) (sym (map-id c.loop-character.yielded) ∙ end.0)

pub loop-character-preserved : goal.loop-character-preserved
loop-character-preserved c =
    let before = map told_of c.args.inputs.now.items in
    let one : map told_of (c.press.result ∷ []) ≡ map typed (c.in-Some.character ∷ []) = ap (λ x. x ∷ []) c.press.ensures in
    ap (map told_of) c.in_ok-push.ensures.items ∙ map-append told_of c.loop-character.inputs.items (c.press.result ∷ [])
    ∙ ap (λ x. x ++ map told_of (c.press.result ∷ [])) c.loop-character.invariant
    ∙ append_assoc before (map typed c.loop-character.yielded) (map told_of (c.press.result ∷ []))
    ∙ ap (λ x. before ++ (map typed c.loop-character.yielded ++ x)) one
    ∙ ap (λ x. before ++ x) (sym (map-append typed c.loop-character.yielded (c.in-Some.character ∷ [])))
