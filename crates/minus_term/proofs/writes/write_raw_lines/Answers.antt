-- The bytes that were formed are the lines'.
use Rattle.std.proofs.Common.{map, List, ℕ, refl, ap, ◌∙◌}
use Rattle.minus_term.specs.Writes.{raw_lines}
use Rattle.minus_term.proofs.WritesLaws.{formed_taken, formed_refused, initial_text-is}
use Rattle.minus_term.proofs.writes.write_raw_lines.Goals as goal

pub returns-clause-ok : goal.returns-clause-ok
returns-clause-ok g c =
    let is = c.as_slice.ensures.value ∙ c.in_ok-bytes.ensures ∙ ap (λ (t : List ℕ). raw_lines t (map g.L.AsStr.text c.args.lines.now)) (search initial_text-is) in
    formed_taken _ _ _ _ _ is c.write_formed.ensures.ok

pub returns-clause-err : goal.returns-clause-err
returns-clause-err g c =
    let is = c.as_slice.ensures.value ∙ c.in_ok-bytes.ensures ∙ ap (λ (t : List ℕ). raw_lines t (map g.L.AsStr.text c.args.lines.now)) (initial_text-is c.args.initial _ _ c.unwrap_or.ensures refl) in
    formed_refused g.W.OutputSink.seen _ _ _ _ _ is c.write_formed.ensures.err
