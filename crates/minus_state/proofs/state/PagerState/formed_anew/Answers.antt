-- The text is formed again.
use Rattle.std.proofs.Common.{ℕ, string_bytes, refl, ap, ◌∙◌}
use Rattle.minus_text.specs.Document.{Document}
use Rattle.minus_state.specs.Aside.{aside_of}
use Rattle.minus_state.specs.Changes.{settings_after, help_after}
use Rattle.minus_state.specs.OpenSearches.{search_after}
use Rattle.minus_state.specs.States.{settings_of, search_of}
use Rattle.minus_state.specs.declared.change.Change.{Change}
use Rattle.minus_state.proofs.ChangeLaws.{change_anew, search_mark_of}
use Rattle.minus_state.proofs.state.PagerState.formed_anew.Goals as goal

pub returns-clause-next : goal.returns-clause-next
returns-clause-next c = λ f.
    let state = c.args.self.now in
    let layout = c.args.layout in
    let same = ap (λ (n : ℕ). let d : Document = record { text = string_bytes c.args.text; layout = record { cols = n; wrapping = layout.wrapping; match_lines = layout.match_lines; carry_style = layout.carry_style; numbers = layout.numbers } } in d) c.requires in
    let is = c.redrawn-change.ensures.is in
    change_anew state _ _ (record { text = string_bytes c.args.text; layout = layout }) _ refl (c.in_ok-boxed.ensures ∙ c.in_ok-next.ensures.ok) same refl (ap (λ (x : Change). x.cols) is) (ap (λ (x : Change). x.rows) is) (ap (λ (x : Change). x.left) is) (ap (λ (x : Change). x.ends) is) refl
    (search_mark_of state _ _ _ _ c.args.mark c.search_mark_anew.ensures c.view.ensures c.in_ok-next.ensures.ok same) (ap (settings_after (settings_of state)) is) (ap (λ (x : Change). help_after x.help (aside_of state.saved)) is) (ap (λ (x : Change). x.mode) is) (ap (λ (x : Change). search_after x.search (search_of state)) is)
