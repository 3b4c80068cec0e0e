-- What is skipped has no ESC, and no sequence has begun.
use Rattle.std.proofs.Common.{rules, ◌≡◌, ◌≤◌, length, string_bytes, sym, ap, ◌∙◌, arith}
use Rattle.std.specs.String.{string_len}
use Rattle.minus_text.specs.Styles.{Reading, read_all}
use Rattle.minus_text.proofs.StyleSourceLaws.{rest_is, passed_to, passed_all}
use Rattle.minus_text.proofs.search.styles.StyleReader.left.Goals as goal

pub returns-in-Some-clause-read : goal.returns-in-Some-clause-read
returns-in-Some-clause-read c =
    let size : string_len c.self.inside.begun ≡ 0 = grind (arith, c.if-not-is_empty.false, c.is_empty.ensures) in
    let empty : length (string_bytes c.self.inside.begun) ≡ 0 = search (rules, size) in
    let none : length c.args.self.now.begun ≡ 0 = ap (λ (q : Reading). length q.begun) (sym c.self.view_is) ∙ empty in
    let within : c.in-Some.at ≤ length c.args.bytes.now = omega (arith, c.in-Some.ensures.0.high) in
    ap (read_all c.args.self.now) (rest_is c.in-Some.at c.args.bytes.now) ∙ passed_to c.args.self.now c.args.bytes.now c.in-Some.at none within c.in-Some.ensures.0.before

pub returns-in-None-clause-read : goal.returns-in-None-clause-read
returns-in-None-clause-read c =
    let size : string_len c.self.inside.begun ≡ 0 = grind (arith, c.if-not-is_empty.false, c.is_empty.ensures) in
    let empty : length (string_bytes c.self.inside.begun) ≡ 0 = search (rules, size) in
    let none : length c.args.self.now.begun ≡ 0 = ap (λ (q : Reading). length q.begun) (sym c.self.view_is) ∙ empty in
    passed_all c.args.self.now c.args.bytes.now none c.in-None.ensures
