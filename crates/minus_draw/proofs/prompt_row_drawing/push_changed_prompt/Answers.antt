-- The prompt row, or nothing.
use Rattle.std.proofs.Common.{◌≡◌, true, false, sym, ◌∙◌}
use Rattle.std.specs.Prelude.{bytes_eq}
use Rattle.minus_term.proofs.WrittenLaws.{no_op}
use Rattle.minus_draw.proofs.prompt_row_drawing.push_changed_prompt.Goals as goal

pub returns-then-eq : goal.returns-then-eq
returns-then-eq c =
    let same : bytes_eq c.args.prompt.now c.args.before.now ≡ true = sym c.eq.ensures ∙ c.if-eq.true in
    rw same (no_op c.args.out.now.items)

pub returns : goal.returns
returns c =
    let other : bytes_eq c.args.prompt.now c.args.before.now ≡ false = sym c.eq.ensures ∙ c.if-eq.false in
    rw other c.write_prompt_row.ensures
