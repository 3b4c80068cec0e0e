use Rattle.std.proofs.Common.{◌≡◌, map, drop, take, get_or, subst, ◌-◌, length, sym, ap, ◌∙◌, arith, ◌++◌}
use Rattle.std.proofs.lemmas.List.{length-drop}
use Rattle.std.proofs.Math.Seq.{take-length}
use Rattle.minus_text.specs.Escapes.{insert_of}
use Rattle.minus_text.specs.Highlight.{of_match, behind}
use Rattle.minus_text.proofs.HighlightLaws.{one_more_match}
use Rattle.minus_text.proofs.search.highlight.ordered.Goals as goal

pub loop-place-preserved : goal.loop-place-preserved
loop-place-preserved c =
    let l = c.loop-place in
    let size = length-drop l.done c.args.escapes.now in
    let m = get_or c.args.matches.now l.place-index (0, 0) in
    let same : take (length c.args.escapes.now - l.done) (drop l.done c.args.escapes.now) ≡ drop l.done c.args.escapes.now =
    ap (λ n. take n (drop l.done c.args.escapes.now)) (sym size) ∙ take-length _ in (
      one_more_match c.args.accurate c.args.matches.now l.place-index c.loop-place-test.true c.args.escapes.now l.done _ _ _ _ l.invariant.0
          (subst (λ es. map insert_of c.put_match.new.puts.items ≡ map insert_of l.puts.items ++ of_match c.args.accurate m (map insert_of es)) same c.in_ok-done.ensures.puts)
          (subst (λ es. drop c.in_ok-done.field-0 (map insert_of es) ≡ behind m.1 (behind m.0 (map insert_of es))) same c.in_ok-done.ensures.rest),
      omega (arith, size, ap length same, c.in_ok-done.ensures.within, l.invariant.1),
    )
