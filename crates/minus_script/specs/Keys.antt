-- What the keys of a script do.
use Rattle.std.specs.Prelude.{◌≡◌, false, Some}
use Rattle.minus_state.specs.declared.search.condition.NeverShows.{NeverShows}
use Rattle.minus_state.specs.Classifying.{Classifies}
use Rattle.minus_input.specs.DefaultBindings.{default_asks, default_register}
use Rattle.minus_input.specs.RegisterHelp.{help_text}
use Rattle.minus.specs.Says.{Says, says_of}
use Rattle.minus_script.specs.declared.keys.DefaultKeys.{DefaultKeys}
use Rattle.minus_script.specs.declared.keys.NoCallback.{NoCallback}

-- each event asks for what the table of the default bindings has for it, and help shows their table
abbrev pub default_keys_say : Classifies DefaultKeys
default_keys_say = record {
  allows = λ keys event state answer. answer ≡ Some (default_asks event state);
  helps = λ keys text. text ≡ help_text (default_register {C = NoCallback});
}

-- and a session of a script is handed no condition: one of its kind would say no
abbrev pub script_says : Says NeverShows DefaultKeys
script_says = says_of (λ condition opts answer. answer ≡ false) default_keys_say
