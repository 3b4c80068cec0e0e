-- The rest adds up, or so much of it as is settled.
use Rattle.std.proofs.Common.{◌≡◌, ◌+◌, ◌-◌, ◌++◌, length, drop, ap, sym, arith, lit<, ◌∙◌}
use Rattle.std.proofs.lemmas.List.{length-append, length-drop}
use Rattle.std.proofs.lemmas.Str.Pattern.{ends_char}
use Rattle.minus_text.specs.Units.{columns}
use Rattle.minus_text.proofs.PreparedLaws.{left_twice}
use Rattle.minus_text.proofs.BorderLaws.{whole_border, border_behind, border_least}
use Rattle.minus_text.proofs.formed.grown_border.Goals as goal

pub returns-then-not-ends_with : goal.returns-then-not-ends_with
returns-then-not-ends_with c = λ wrap line piece r u t.
    let a = c.args.start.bytes in
    let b = c.args.start.border.bytes in
    let rest : drop (b - a) c.args.text.now ≡ drop b line ++ piece = ap (drop (b - a)) t ∙ left_twice line piece a b r.behind r.measured.within in
    let here = c.range_from-unmeasured.ensures.value ∙ rest in
    let ends = ends_char 13 c.range_from-unmeasured.result.now c.ends_with.result c.ends_with.ensures.cases (lit< tt) in
    let free = rw here at (sym c.is_unescaped.ensures ∙ c.if-is_unescaped.true) in
    let within = r.goes_on.boundary.0 in
    let size : a + length c.args.text.now ≡ length (line ++ piece) = omega (arith, ap length t, length-append (drop a line) piece, length-drop a line, length-append line piece, within) in
    whole_border line piece c.args.start.border (a + length c.args.text.now) c.args.width r.text u r.measured free
    (λ xs e. let yes = ends.1 xs (here ∙ e) in let no = c.if-not-ends_with.true in cc)
    size (c.requires.columns ∙ ap (λ xs. c.args.start.border.columns + columns xs) rest)

pub overflow_add-result-3 : goal.overflow_add-result-3
overflow_add-result-3 c =
    let least = border_least c.range_from-unmeasured.result.now c.settled-more.result c.range_from-unmeasured.utf8 c.settled-more.ensures in
    omega (arith, least, c.requires.columns, ap columns c.range_from-unmeasured.ensures.value, c.ranges.width.fits)

pub returns : goal.returns
returns c = λ wrap line piece r u t.
    let a = c.args.start.bytes in
    let b = c.args.start.border.bytes in
    let rest : drop (b - a) c.args.text.now ≡ drop b line ++ piece = ap (drop (b - a)) t ∙ left_twice line piece a b r.behind r.measured.within in
    let here = c.range_from-unmeasured.ensures.value ∙ rest in
    border_behind line piece c.args.start.border c.settled-more.result r.text u r.measured (rw here at c.settled-more.ensures)
