-- The carriage return is gone, or there is none.
use Rattle.std.proofs.Common.{◌≡◌, ◌++◌, ◌∷◌, [], sym, lit<}
use Rattle.std.proofs.lemmas.Str.Pattern.{strip_suffix_char}
use Rattle.minus_text.proofs.LineCountLaws.{strip_ended, strip_other}
use Rattle.minus_text.proofs.lines.without_return.Goals as goal

pub returns-in-Some : goal.returns-in-Some
returns-in-Some c =
    let said = strip_suffix_char 13 c.args.line.now c.strip_suffix.result c.strip_suffix.ensures.cases (lit< tt) in
    let split : c.args.line.now ≡ c.in-Some.front.now ++ 13 ∷ [] = rw c.in-Some.is at said in
    sym (strip_ended c.args.line.now c.in-Some.front.now split)

pub returns-in-None : goal.returns-in-None
returns-in-None c =
    let said = strip_suffix_char 13 c.args.line.now c.strip_suffix.result c.strip_suffix.ensures.cases (lit< tt) in
    sym (strip_other c.args.line.now (rw c.in-None.is at said))
