-- The text of help is formed again, and what was displayed is saved.
use Rattle.std.proofs.Common.{List, ℕ, Bool, Some, false, string_bytes, ap, ap₂, ◌∙◌}
use Rattle.minus_state.specs.Changes.{settings_after}
use Rattle.minus_state.specs.Control.{Control, Saved, Settings, reformed}
use Rattle.minus_state.specs.Help.{help_prompt, put_aside, switched}
use Rattle.minus_text.specs.declared.line_numbers.LineNumbers.TheVariants.{Disabled}
use Rattle.minus_state.specs.Aside.{aside_in}
use Rattle.minus_state.specs.States.{control_of, settings_of}
use Rattle.minus_state.proofs.ChangeLaws.{beside_anew, leads_to}
use Rattle.minus_state.proofs.state.PagerState.helped.Goals as goal

pub returns-clause-next : goal.returns-clause-next
returns-clause-next c = λ f.
    let state = c.args.self.now in
    let settings = ap (λ (p : List ℕ). switched (settings_after (settings_of state) c.in_ok-change.change) p false) c.in_ok-prompt.ensures.ok ∙ ap (λ (s : Settings). switched s help_prompt false) (c.in_ok-change.ensures.next f).settings_are in
    let aside = ap (λ (a : Saved). Some a) (ap aside_in c.in_ok-saved.ensures ∙ c.in_ok-put_aside.ensures) in
    let k : Control = control_of state in
    let same = ap₂ (λ (m b : Bool). reformed (record k { text = string_bytes c.args.text; numbers = Disabled; wrapping = false; match_lines = m; carry_style = b; mark = 0; left = 0; settings = switched k.settings help_prompt false; help = Some (put_aside k) })) c.match_lines.ensures c.carry_style.ensures in
    leads_to state _ _ _ same (λ g. beside_anew k c.in_ok-change.change _ 0 _ _ false _ _ _ _ (c.in_ok-change.ensures.next g) settings aside) f
