-- One more text, as far as there are rows.
use Rattle.std.proofs.Common.{◌≡◌, ◌++◌, ℕ, List, take, drop, ap, ◌∙◌, arith}
use Rattle.std.specs.List.{flat_map}
use Rattle.minus_term.specs.FullRedraw.{row_ops}
use Rattle.minus_term.specs.Written.{written_all}
use Rattle.minus_text.specs.Document.{rows_of}
use Rattle.minus_text.specs.Views.{viewed}
use Rattle.minus_state.proofs.WritingLaws.{nothing_written}
use Rattle.minus_state.proofs.OwnTextsLaws.{text_next}
use Rattle.minus_state.proofs.writing.write_texts.Goals as goal

pub loop-i-init : goal.loop-i-init
loop-i-init c = nothing_written c.args.out.now.items c.args.first (rows_of (viewed c.args.view).document)

pub loop-i-preserved : goal.loop-i-preserved
loop-i-preserved c =
    text_next (rows_of (viewed c.args.view).document) c.args.first c.loop-i.i c.args.out.now.items c.loop-i.out.items c.write_text.new.out.items c.loop-i.auto.i c.loop-i.invariant c.in_ok-write_text.ensures

pub returns : goal.returns
returns c =
    let rows : List (List ℕ) = rows_of (viewed c.args.view).document in
    let end : c.loop-i.i ≡ c.args.end = omega (arith, c.requires, c.loop-i-test.false, c.loop-i.auto.i-end) in
    c.loop-i.invariant ∙ ap (λ (n : ℕ). c.args.out.now.items ++ written_all (flat_map row_ops (drop c.args.first (take n rows)))) end
