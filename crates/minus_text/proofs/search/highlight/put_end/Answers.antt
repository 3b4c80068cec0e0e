-- The marker, and behind it what stands inside.
use Rattle.std.proofs.Common.{◌≡◌, ℕ, List, [], ◌∷◌, ◌++◌, map, ap, ◌∙◌}
use Rattle.std.proofs.lemmas.List.{map-append, append_assoc}
use Rattle.std.proofs.lemmas.Result.{on_ok_weaker}
use Rattle.minus_text.specs.Escapes.{insert_of}
use Rattle.minus_text.specs.Highlight.{reverse_off, moved}
use Rattle.minus_text.proofs.search.highlight.put_end.Goals as goal

pub returns : goal.returns
returns c =
    let before = c.args.puts.now.items in
    let inside = moved c.args.end (map insert_of c.args.inner.now) in
    let marked : map insert_of c.push-2.new.self.items ≡ map insert_of before ++ (c.args.end, reverse_off) ∷ [] =
    ap (map insert_of) c.in_ok-push-2.ensures.items ∙ map-append insert_of before (_ ∷ []) in
    rw c.if-accurate.false (on_ok_weaker c.put_moved.result (λ h. h
    ∙ ap (λ (puts : List (ℕ × List ℕ)). puts ++ inside) marked
    ∙ append_assoc (map insert_of before) ((c.args.end, reverse_off) ∷ []) inside) c.put_moved.ensures)
