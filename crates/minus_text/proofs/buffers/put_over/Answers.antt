use Rattle.std.proofs.Common.{◌≡◌, ℕ, ◌+◌, ◌≤◌, ◌++◌, [], ◌∷◌, List, Option, Some, None, IfSome, length, map, take, string_bytes, ap, ◌∙◌, arith}
use Rattle.std.specs.List.{slice_set}
use Rattle.std.proofs.lemmas.List.{map-set, length-map, take_more_set, take-set}
use Rattle.minus_text.specs.Buffers.{PutsText}
use Rattle.minus_text.proofs.buffers.put_over.Goals as goal

text_put : (old new : List (List ℕ)) (text : List ℕ) (at : ℕ) (o : Option (List ℕ)) → new ≡ slice_set old at text → at + 1 ≤ length old → IfSome o (λ bytes. text ≡ bytes) → PutsText at old new o
text_put old new text at None e l h = h
text_put old new text at (Some bytes) e l h = ap (take (at + 1)) e ∙ take_more_set old at text (omega arith) ∙ ap (λ t. take at old ++ t ∷ []) h

pub returns-clause-ok : goal.returns-clause-ok
returns-clause-ok g c =
    let old = c.args.rows.now.items in
    text_put (map string_bytes old) _ (string_bytes c.write_over.new.text) c.args.at _ (map-set string_bytes old c.args.at c.write_over.new.text)
    (omega (arith, c.requires, c.args.rows.now.ok.0, length-map old string_bytes)) c.in_ok-write_over.ensures

pub returns-clause-front : goal.returns-clause-front
returns-clause-front g c =
    let old = c.args.rows.now.items in
    ap (take c.args.at) (map-set string_bytes old c.args.at c.write_over.new.text) ∙ take-set (map string_bytes old) c.args.at (string_bytes c.write_over.new.text)

pub returns-in_err-write_over-clause-front : goal.returns-in_err-write_over-clause-front
returns-in_err-write_over-clause-front g c =
    let old = c.args.rows.now.items in
    ap (take c.args.at) (map-set string_bytes old c.args.at c.write_over.new.text) ∙ take-set (map string_bytes old) c.args.at (string_bytes c.write_over.new.text)
