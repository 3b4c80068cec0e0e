-- With a newline the first line ends there, and else with the text.
use Rattle.std.proofs.Common.{[], get_or, refl, ap, sym, ◌∙◌}
use Rattle.minus_text.specs.LineSplits.{lines_of}
use Rattle.minus_text.proofs.StoredLineLaws.{full_text}
use Rattle.minus_text.proofs.stored_line.first_line.Goals as goal

pub returns-in-Some : goal.returns-in-Some
returns-in-Some c = c.without_return.ensures ∙ sym (ap (λ q. get_or (lines_of q) 0 []) c.in-Some.ensures.cut)

pub returns-in-None : goal.returns-in-None
returns-in-None c =
    let full = full_text c.args.text.now (rw c.in-None.ensures.cut at c.requires) in
    sym (ap (λ q. get_or (lines_of q) 0 []) c.in-None.ensures.cut ∙ rw full refl)
