-- One line more, and the last.
use Rattle.std.proofs.Common.{◌++◌, [], ap, sym, refl, ◌∙◌, string_bytes, rules}
use Rattle.minus_text.proofs.LinePlacesLaws.{joined_last, one_line_more}
use Rattle.minus_text.proofs.lines.join_lines.Goals as goal

pub loop-line-init : goal.loop-line-init
loop-line-init c = record { so_far = rw c.new-joined.ensures.bytes refl; utf8 = search rules }

pub loop-line-preserved : goal.loop-line-preserved
loop-line-preserved c = record {
  so_far = one_line_more [] (string_bytes c.loop-line.joined) (string_bytes c.push_str.new.self) (string_bytes c.push_str-in-Some.new.self) c.without_return.result.now c.in-Some.line.now c.args.text.now c.loop-line.rest.now c.in-Some.more.now
      c.loop-line.invariant.so_far c.in-Some.ensures.cut c.without_return.ensures c.in_ok-push_str.ensures.bytes c.in_ok-push_str-2.ensures.bytes;
  utf8 = search rules;
}

pub returns : goal.returns
returns c = c.in_ok-push_str-3.ensures.bytes ∙ ap (λ bs. string_bytes c.loop-line.joined ++ bs) (sym (joined_last c.loop-line.rest.now c.in_default.ensures.cut)) ∙ c.loop-line.invariant.so_far
