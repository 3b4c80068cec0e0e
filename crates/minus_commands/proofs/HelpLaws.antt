-- Help, opened and left.
use Rattle.std.proofs.Common.{◌≡◌, ℕ, List, Option, None, sym, subst}
use Rattle.minus_state.specs.Control.{Control, Saved, reformed}
use Rattle.minus_commands.specs.Table.{Wanted, exits, restores_prompt, shows_help, effect_of, changed_by, HelpLeavesNoTrace, by_prompt, by_help, by_exit}
use Rattle.minus_commands.proofs.TableLaws.{clamp_still}

-- what help that was opened and left by a command leaves
abbrev ComesBack : {Q K : Type 0} → Control → Option (List ℕ) → Wanted Q K → Type 0
ComesBack {Q = Q} {K = K} c text leaving = changed_by (effect_of (changed_by (effect_of {Q = Q} {K = K} c (shows_help text))) leaving) ≡ reformed (record c { settings = record c.settings { message = None } })

comes_back : {Q K : Type 0} (c : Control) (text : Option (List ℕ)) (leaving : Wanted Q K) → (let k : Control = record c { help = None } in ComesBack k text leaving) → c.help ≡ None → ComesBack c text leaving
comes_back c text leaving h e = subst (λ (help : Option Saved). let k : Control = record c { help = help } in ComesBack k text leaving) (sym e) h

-- without help and a message
abbrev plain : Control → Control
plain c = reformed (record c { help = None; settings = record c.settings { message = None } })

pub no_trace_lem : {Q K : Type 0} → HelpLeavesNoTrace Q K
no_trace_lem {Q = Q} {K = K} c text leaving e h by_prompt = comes_back {Q = Q} {K = K} c text restores_prompt (clamp_still (plain c) h) e
no_trace_lem {Q = Q} {K = K} c text leaving e h (by_help {text = other}) = comes_back {Q = Q} {K = K} c text (shows_help other) (clamp_still (plain c) h) e
no_trace_lem {Q = Q} {K = K} c text leaving e h by_exit = comes_back {Q = Q} {K = K} c text exits (clamp_still (plain c) h) e
