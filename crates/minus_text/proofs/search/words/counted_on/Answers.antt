-- Counted on.
use Rattle.std.proofs.Common.{length, chars, ap, ◌∙◌, arith, rules}
use Rattle.minus_text.proofs.WordStartsLaws.{chars_on, chars_few, chars_small}
use Rattle.minus_text.proofs.search.words.counted_on.Goals as goal

pub overflow_add-result : goal.overflow_add-result
overflow_add-result c =
    let all = chars_on c.args.text.now c.utf8.text c.args.at c.args.place c.requires.order c.requires.at c.requires.place in
    let few = chars_few c.args.text.now c.utf8.text c.args.place c.requires.place in
    let small = chars_small c.args.text.now c.utf8.text in
    let here = c.char_count.ensures ∙ ap (λ xs. length (chars xs)) c.range.ensures.value in
    let count = c.requires.count in
    search rules

pub returns-clause-count : goal.returns-clause-count
returns-clause-count c =
    let all = chars_on c.args.text.now c.utf8.text c.args.at c.args.place c.requires.order c.requires.at c.requires.place in
    let here = c.char_count.ensures ∙ ap (λ xs. length (chars xs)) c.range.ensures.value in
    let count = c.requires.count in
    omega (arith, all, here, count)

pub returns-clause-few : goal.returns-clause-few
returns-clause-few c =
    let is = returns-clause-count c in
    let few = chars_few c.args.text.now c.utf8.text c.args.place c.requires.place in
    omega (arith, is, few)

pub returns-clause-small : goal.returns-clause-small
returns-clause-small c =
    let few = returns-clause-few c in
    let small = chars_small c.args.text.now c.utf8.text in
    omega (arith, small, few)
