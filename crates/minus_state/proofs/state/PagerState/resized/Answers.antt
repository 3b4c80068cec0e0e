-- The text is formed again.
use Rattle.std.proofs.Common.{List, ℕ, refl, ap, ap₂, ◌∙◌}
use Rattle.minus_text.specs.Document.{Document}
use Rattle.minus_text.specs.declared.layout.Layout.{Layout}
use Rattle.minus_state.specs.Aside.{aside_of}
use Rattle.minus_state.specs.Changes.{settings_after, help_after}
use Rattle.minus_state.specs.OpenSearches.{search_after}
use Rattle.minus_state.specs.States.{settings_of, search_of}
use Rattle.minus_state.specs.declared.change.Change.{Change}
use Rattle.minus_state.proofs.ChangeLaws.{change_anew, search_mark_of}
use Rattle.minus_state.proofs.state.PagerState.resized.Goals as goal

pub returns-clause-next : goal.returns-clause-next
returns-clause-next c = λ f.
    let state = c.args.self.now in
    let same = ap₂ (λ (t : List ℕ) (l : Layout). let d : Document = record { text = t; layout = record { cols = c.args.cols; wrapping = l.wrapping; match_lines = l.match_lines; carry_style = l.carry_style; numbers = l.numbers } } in d) c.in_ok-text.ensures c.layout.ensures in
    let is = c.redrawn-change.ensures.is in
    change_anew state _ _ _ _ refl (c.in_ok-boxed.ensures ∙ c.in_ok-screen.ensures.ok) same (ap (λ (x : Change). x.mark) is) refl refl (ap (λ (x : Change). x.left) is) (ap (λ (x : Change). x.ends) is) refl
    (search_mark_of state _ _ _ _ state.upper_mark c.search_mark_anew.ensures c.view.ensures c.in_ok-screen.ensures.ok same) (ap (settings_after (settings_of state)) is) (ap (λ (x : Change). help_after x.help (aside_of state.saved)) is) (ap (λ (x : Change). x.mode) is) (ap (λ (x : Change). search_after x.search (search_of state)) is)
