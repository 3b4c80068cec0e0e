-- What was saved is formed again.
use Rattle.std.proofs.Common.{List, ℕ, Bool, None, Some, string_bytes, refl, ap, ap₂, ◌∙◌}
use Rattle.minus_state.specs.Changes.{settings_after}
use Rattle.minus_state.specs.Control.{Control, Settings, reformed}
use Rattle.minus_state.specs.Help.{switched}
use Rattle.minus_state.specs.States.{control_of}
use Rattle.minus_state.specs.declared.change.MessageChange.TheVariants.{Goes}
use Rattle.minus_state.specs.declared.state.help.HelpChange.TheVariants.{Closes}
use Rattle.minus_state.specs.declared.state.help.Saved.{Saved}
use Rattle.minus_state.proofs.ChangeLaws.{beside_anew, leads_to}
use Rattle.minus_state.proofs.state.PagerState.unhelped.Goals as goal

pub returns-clause-next : goal.returns-clause-next
returns-clause-next c = λ f.
    let state = c.args.self.now in
    let k : Control = control_of state in
    let saved : Saved = c.args.saved.now in
    let settings = ap (λ (p : List ℕ). switched (settings_after k.settings c.in_ok-change.change) p saved.follow) (c.in_ok-prompt.ensures.ok ∙ c.deref-2.ensures) ∙ ap (λ (s : Settings). switched s (string_bytes saved.prompt) saved.follow) (c.in_ok-change.ensures.next f).settings_are in
    let text = c.in_ok-text.ensures.ok ∙ c.deref.ensures in
    let back : List ℕ → Bool → Bool → Control = λ t m b. reformed (record k { text = t; numbers = saved.numbers; wrapping = saved.wrapping; match_lines = m; carry_style = b; mark = saved.upper_mark; left = saved.left_mark; settings = switched k.settings (string_bytes saved.prompt) saved.follow; help = None }) in
    let same = ap (λ (t : List ℕ). back t c.match_lines.result c.carry_style.result) text ∙ ap₂ (back (string_bytes saved.text)) c.match_lines.ensures c.carry_style.ensures in
    leads_to state _ _ _ same (λ g. beside_anew k c.in_ok-change.change _ saved.left_mark _ None saved.follow (Some c.in_ok-prompt.prompt) Goes Closes _ (c.in_ok-change.ensures.next g) settings refl) f
