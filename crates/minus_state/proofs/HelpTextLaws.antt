-- What help leaves of a text that is replaced, added to or opened.
use Rattle.std.proofs.Common.{◌≡◌, ℕ, List, is_some, false, Option, None, Some, refl}
use Rattle.minus_state.specs.Control.{Control, Saved, reformed}
use Rattle.minus_state.specs.Appending.{lengthened, with_more}
use Rattle.minus_state.specs.Help.{help_open, with_text, opened, shown_help}

replaced_beside : (c : Control) (help : Option Saved) (text : List ℕ) → is_some help ≡ false → (let k : Control = record c { help = help } in reformed (record k { text = text }) ≡ with_text k text)
replaced_beside c None text closed = refl
replaced_beside c (Some saved) text closed = cc

-- where help is not open, the displayed text is replaced
pub text_replaced : (c : Control) (text : List ℕ) → help_open c ≡ false → reformed (record c { text = text }) ≡ with_text c text
text_replaced c text closed = replaced_beside c c.help text closed

added_beside : (c : Control) (help : Option Saved) (text : List ℕ) → is_some help ≡ false → (let k : Control = record c { help = help } in lengthened k text ≡ with_more k text)
added_beside c None text closed = refl
added_beside c (Some saved) text closed = cc

-- or added to
pub text_added : (c : Control) (text : List ℕ) → help_open c ≡ false → lengthened c text ≡ with_more c text
text_added c text closed = added_beside c c.help text closed

-- and help is opened
pub help_shown : (c : Control) (help : Option Saved) (text : List ℕ) → is_some help ≡ false → opened c text ≡ shown_help c help text
help_shown c None text closed = refl
help_shown c (Some saved) text closed = cc
