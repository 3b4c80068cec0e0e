-- What the row prints, if that is known, is behind the others.
use Rattle.std.proofs.Common.{◌≡◌, ℕ, List, String, Global, Option, Some, None, [], ◌∷◌, ◌++◌, map, string_bytes, ap, ◌∙◌}
use Rattle.std.specs.Option.{IfSome}
use Rattle.std.proofs.lemmas.List.{map-append}
use Rattle.minus_text.specs.Buffers.{GrowsByText}
use Rattle.minus_text.proofs.buffers.RowsAppendableBuffer.push_fmt.Goals as goal

text_added : (old new : List (String Global)) (text : String Global) (o : Option (List ℕ)) → new ≡ old ++ text ∷ [] → IfSome o (λ bytes. string_bytes text ≡ bytes) → GrowsByText (map string_bytes old) (map string_bytes new) o
text_added old new text None added h = tt
text_added old new text (Some bytes) added h = ap (map string_bytes) added ∙ map-append string_bytes old (text ∷ []) ∙ ap (λ (row : List ℕ). map string_bytes old ++ row ∷ []) h

pub returns-clause-ok : goal.returns-clause-ok
returns-clause-ok g c = text_added c.args.self.now.items c.push.new.self.items _ _ c.in_ok-push.ensures.items c.in_ok-to_string.ensures.ok
