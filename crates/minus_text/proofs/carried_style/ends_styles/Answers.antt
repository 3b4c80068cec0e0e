use Rattle.std.proofs.Common.{◌≡◌, get_or, arith}
use Rattle.minus_text.proofs.StyleSourceLaws.{first_newline}
use Rattle.minus_text.proofs.carried_style.ends_styles.Goals as goal

pub returns-then-bytes-eq10-clause-ended : goal.returns-then-bytes-eq10-clause-ended
returns-then-bytes-eq10-clause-ended c = λ is.
    let text = c.args.bytes.now in
    let newline : get_or text 0 0 ≡ 10 = grind (arith, is) in
    first_newline text c.requires newline
