-- Some row matches where the search goes to one.
use Rattle.std.proofs.Common.{Option, None, Some, option_map, Bool, if◌then◌else◌, sym, ap, ◌∙◌}
use Rattle.regex.specs.Patterns.{Re}
use Rattle.regex.specs.Strings.{regex_pattern}
use Rattle.regex.specs.declared.string.regex.Regex.{Regex}
use Rattle.minus_text.specs.Document.{Document}
use Rattle.minus_text.specs.Matches.{match_at}
use Rattle.minus_state.specs.Control.{Control, matches_in}
use Rattle.minus_state.specs.Prompting.{previewed}
use Rattle.minus_state.specs.States.{control_of}
use Rattle.minus_state.proofs.AppendLaws.{document_is}
use Rattle.minus_state.proofs.PreviewLaws.{no_match, some_match}
use Rattle.minus_state.proofs.state.PagerState.previewed.Goals as goal

pub returns-in-None : goal.returns-in-None
returns-in-None c = λ f.
    let k : Control = control_of c.args.self.now in
    let query : Re = regex_pattern c.in-Some.query in
    let none = sym c.in-None.is ∙ c.in_ok-first.ensures ∙ ap (λ (x : Document). match_at (matches_in (Some query) x) k.mark) (document_is c.args.self.now f) in
    let same = ap (λ (o : Option Regex). previewed k (option_map regex_pattern o)) c.in-Some.is in
    sym (same ∙ ap (λ (b : Bool). if b then None else Some query) (no_match _ k.mark none))

pub returns-in_ok-shown-in-Some-first : goal.returns-in_ok-shown-in-Some-first
returns-in_ok-shown-in-Some-first c = λ f.
    let k : Control = control_of c.args.self.now in
    let query : Re = regex_pattern c.in-Some.query in
    let row = sym c.in-Some-first.is ∙ c.in_ok-first.ensures ∙ ap (λ (x : Document). match_at (matches_in (Some query) x) k.mark) (document_is c.args.self.now f) in
    let same = ap (λ (o : Option Regex). previewed k (option_map regex_pattern o)) c.in-Some.is in
    ap (λ (r : Regex). Some (regex_pattern r)) c.in_ok-shown-in-Some-first.ensures.ok ∙ sym (same ∙ ap (λ (b : Bool). if b then None else Some query) (some_match _ k.mark _ row))
