-- The first match, in the document of the control.
use Rattle.std.proofs.Common.{Some, ap, ◌∙◌}
use Rattle.std.proofs.lemmas.Result.{IfOk-weaker}
use Rattle.regex.specs.Strings.{regex_pattern}
use Rattle.minus_text.specs.Document.{Document}
use Rattle.minus_text.specs.Matches.{match_at}
use Rattle.minus_state.specs.Control.{Control, matches_in}
use Rattle.minus_state.specs.States.{control_of}
use Rattle.minus_state.proofs.AppendLaws.{document_is}
use Rattle.minus_state.proofs.search.preview.row_found.Goals as goal

pub returns : goal.returns
returns c =
    let k : Control = control_of c.args.state.now in
    IfOk-weaker c.first_match.result _ _ (λ row h. λ f. h ∙ ap (λ (x : Document). match_at (matches_in (Some (regex_pattern c.args.query.now)) x) k.mark) (document_is c.args.state.now f)) c.first_match.ensures
