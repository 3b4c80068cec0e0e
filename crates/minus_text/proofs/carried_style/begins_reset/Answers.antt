use Rattle.std.proofs.Common.{◌≡◌, ◌≤◌, get_or, length, arith}
use Rattle.minus_text.proofs.StyleSourceLaws.{short_at, long_at}
use Rattle.minus_text.proofs.carried_style.begins_reset.Goals as goal

pub returns-then-bytes-eq109 : goal.returns-then-bytes-eq109
returns-then-bytes-eq109 c = λ _.
    let text = c.args.bytes.now in
    let few : 3 ≤ length text = grind (arith, c.if-bytes-lt3.false) in
    let esc : get_or text 0 0 ≡ 27 = grind (arith, c.if-bytes-ne-ESC.false) in
    let bracket : get_or text 1 0 ≡ 91 = grind (arith, c.if-bytes-ne91.false) in
    let last : get_or text 2 0 ≡ 109 = grind (arith, c.if-bytes-eq109.true) in
    short_at text few esc bracket last

pub returns-then-bytes-eq48 : goal.returns-then-bytes-eq48
returns-then-bytes-eq48 c = λ is.
    let text = c.args.bytes.now in
    let few : 4 ≤ length text = grind (arith, c.if-bytes-gt3.value, c.if-bytes-gt3.branch) in
    let esc : get_or text 0 0 ≡ 27 = grind (arith, c.if-bytes-ne-ESC.false) in
    let bracket : get_or text 1 0 ≡ 91 = grind (arith, c.if-bytes-ne91.false) in
    let zero : get_or text 2 0 ≡ 48 = grind (arith, c.if-bytes-eq48.true) in
    let last : get_or text 3 0 ≡ 109 = grind (arith, is) in
    long_at text few esc bracket zero last
