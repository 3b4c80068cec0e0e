-- What was skipped is neither ESC nor a newline.
use Rattle.std.proofs.Common.{◌≡◌, ◌<◌, false, eqb, get_or, length, take, drop, refl, subst, arith}
use Rattle.std.proofs.lemmas.List.{length-take-le}
use Rattle.minus_text.specs.StyleSources.{EndsStyles}
use Rattle.minus_text.proofs.StyleSourceLaws.{rest_is, passed_whole, passed_read, place_whole, ended_part, left_part}
use Rattle.minus_text.proofs.carried_style.style_part.Goals as goal

pub returns-then-ends_styles : goal.returns-then-ends_styles
returns-then-ends_styles c =
    let text = c.args.bytes.now in
    let from = c.loop-at.from in
    let at = c.in-Some.at in
    let size : length (take from text) ≡ from = length-take-le from text c.loop-at.invariant.0 in
    let less : at < from = omega (arith, c.in-Some.ensures.0.high, size) in
    let ends = subst EndsStyles (rest_is at text) (c.if-ends_styles.ensures.ended refl) in
    let whole = passed_whole text at from less c.loop-at.invariant.0 c.in-Some.ensures.0.after c.loop-at.invariant.1 in
    let reads = passed_read text at from less c.loop-at.invariant.0 c.in-Some.ensures.0.after in
    ended_part text at from _ refl (rest_is from text) ends whole reads

pub loop-at-preserved : goal.loop-at-preserved
loop-at-preserved c =
    let text = c.args.bytes.now in
    let from = c.loop-at.from in
    let at = c.in-Some.at in
    let size : length (take from text) ≡ from = length-take-le from text c.loop-at.invariant.0 in
    let less : at < from = omega (arith, c.in-Some.ensures.0.high, size) in
    let within : at < length text = omega (arith, less, c.loop-at.invariant.0) in
    let other : eqb (get_or (drop at text) 0 0) 10 ≡ false = subst (λ t. eqb (get_or t 0 0) 10 ≡ false) (rest_is at text) (c.if-ends_styles.ensures.same_line refl) in
    (omega (arith, within), place_whole text at within other (passed_whole text at from less c.loop-at.invariant.0 c.in-Some.ensures.0.after c.loop-at.invariant.1))

pub returns : goal.returns
returns c = left_part c.args.bytes.now c.loop-at.from _ refl (rest_is c.loop-at.from c.args.bytes.now) c.loop-at.invariant.0 c.in_default.ensures c.loop-at.invariant.1
