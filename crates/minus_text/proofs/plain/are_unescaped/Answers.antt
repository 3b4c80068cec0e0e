-- One more byte passes, or not.
use Rattle.std.proofs.Common.{◌<◌, Bool, length, get_or, ◌&&◌, not, eqb, sym, ap, ◌∙◌}
use Rattle.std.proofs.lemmas.List.Folds.{list_all_more}
use Rattle.minus_text.specs.Plain.{is_unescaped}
use Rattle.minus_text.proofs.plain.are_unescaped.Goals as goal

pub loop-b-preserved : goal.loop-b-preserved
loop-b-preserved c =
    let bytes = c.args.bytes.now in
    let i = c.loop-b.b-index in
    let within : i < length bytes = c.loop-b-test.true in
    ap (λ (u : Bool). u && not (eqb (get_or bytes i 0) 27)) c.loop-b.invariant ∙ sym (list_all_more is_unescaped bytes i 0 within)
