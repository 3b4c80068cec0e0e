use Rattle.std.proofs.Common.{rules, ◌≡◌, ◌∙◌, lit<}
use Rattle.std.specs.Option.{option_map}
use Rattle.std.proofs.lemmas.Result.{IfOk-weaker}
use Rattle.minus_script.specs.Script.{line_told, word_told}
use Rattle.minus_script.specs.ScriptLines.{told_by}
use Rattle.minus_script.proofs.ScriptLaws.{faulty_bytes, line_told-at}
use Rattle.minus_script.proofs.script.parse_line.Goals as goal

pub returns-in_default : goal.returns-in_default
returns-in_default c = faulty_bytes c.args.line.now c.in_default.ensures.cases.0

pub returns-in-Some : goal.returns-in-Some
returns-in-Some c =
    let h = c.in-Some.ensures.byte (lit< tt) (λ w o f. f) in
    let is = c.in-Ok.ensures.cases in
    let line = c.args.line.now in
    let at = rw is.0 at h.2 in
    let tells : word_told c.in-Some.word.now c.in-Some.argument.now ≡ line_told line = rw (h.0, h.1, is.0) (line_told-at line is.1 at) in
    IfOk-weaker c.parse_word.result (λ parsed. option_map told_by parsed ≡ word_told c.in-Some.word.now c.in-Some.argument.now) (λ parsed. option_map told_by parsed ≡ line_told line) (λ parsed e. e ∙ tells) c.parse_word.ensures

pub returns-in-None : goal.returns-in-None
returns-in-None c = search rules
