-- A text that no newline ends is one line, and none where it is empty.
use Rattle.std.proofs.Common.{◌≢◌, length, refl, arith, sym, ◌∙◌}
use Rattle.std.proofs.lemmas.Bool.{eqb-true, eqb-false}
use Rattle.minus_text.proofs.PreparedLaws.{unfinished_prepared, nothing_prepared, rest_boundary, rest_few}
use Rattle.minus_text.proofs.formed.form_unfinished.Goals as goal

pub returns-then-is_empty : goal.returns-then-is_empty
returns-then-is_empty c =
    nothing_prepared c.args.wrap c.args.text.now c.args.start _ (eqb-true (length c.args.text.now) 0 (sym c.is_empty.ensures ∙ c.if-is_empty.true)) c.new.ensures.items c.new-then-is_empty.ensures refl refl refl

pub begin_line-requires-clause-boundary : goal.begin_line-requires-clause-boundary
begin_line-requires-clause-boundary c = let h = c.requires.start in rest_boundary c.args.wrap c.args.text.now c.args.start h.0 h.1 h.2 h.3 h.4

pub begin_line-requires-clause-columns : goal.begin_line-requires-clause-columns
begin_line-requires-clause-columns c = let h = c.requires.start in omega (arith, rest_few c.args.wrap c.args.text.now c.args.start h.0 h.1 h.2 h.3 h.4, c.requires.bytes)

pub returns : goal.returns
returns c =
    let some : length c.args.text.now ≢ 0 = eqb-false (length c.args.text.now) 0 (sym c.is_empty.ensures ∙ c.if-is_empty.false) in
    unfinished_prepared c.args.wrap c.args.text.now c.args.start c.in_ok-forming.forming _ c.requires.whole (omega (arith, some)) c.in_ok-forming.ensures refl c.from_first_rows.ensures refl (c.grown_border.ensures c.args.wrap) refl

pub grown_border-requires-clause-boundary : goal.grown_border-requires-clause-boundary
grown_border-requires-clause-boundary c = let h = c.requires.start in rest_boundary c.args.wrap c.args.text.now c.args.start h.0 h.1 h.2 h.3 h.4
