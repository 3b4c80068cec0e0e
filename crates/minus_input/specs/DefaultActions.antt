-- How a help table describes the default actions.
use Rattle.std.specs.Prelude.{ℕ, List, [], codes}
use Rattle.minus_input.specs.declared.default_action.DefaultAction.{DefaultAction}
use Rattle.minus_input.specs.declared.default_action.DefaultAction.TheVariants.{Quit, ScrollUp, ScrollDown}
use Rattle.minus_input.specs.declared.default_action.DefaultAction.TheVariants.{ToggleFollow, ScrollLines, HalfPageUp}
use Rattle.minus_input.specs.declared.default_action.DefaultAction.TheVariants.{HalfPageDown, Top, GoToLine, PageUp}
use Rattle.minus_input.specs.declared.default_action.DefaultAction.TheVariants.{PageDown, ToggleNumbers, Bottom, Help}
use Rattle.minus_input.specs.declared.default_action.DefaultAction.TheVariants.{SearchForward, SearchBackward}
use Rattle.minus_input.specs.declared.default_action.DefaultAction.TheVariants.{NextMatch, PreviousMatch, ToggleWrap}
use Rattle.minus_input.specs.declared.default_action.DefaultAction.TheVariants.{ScrollLeft, ScrollRight}

-- the description of each; what is done with the mouse, a copy, a resize and the typing of digits are not listed
abbrev pub default_description : DefaultAction → List ℕ
default_description Quit = codes "quit"
default_description ScrollUp = codes "scroll up"
default_description ScrollDown = codes "scroll down"
default_description ToggleFollow = codes "toggle follow"
default_description ScrollLines = codes "scroll lines"
default_description HalfPageUp = codes "half-page up"
default_description HalfPageDown = codes "half-page down"
default_description Top = codes "top"
default_description GoToLine = codes "bottom"
default_description PageUp = codes "page up"
default_description PageDown = codes "page down"
default_description ToggleNumbers = codes "toggle line numbers"
default_description Bottom = codes "bottom"
default_description Help = codes "help"
default_description SearchForward = codes "search forward"
default_description SearchBackward = codes "search backward"
default_description NextMatch = codes "next match"
default_description PreviousMatch = codes "previous match"
default_description ToggleWrap = codes "toggle line wrap"
default_description ScrollLeft = codes "scroll left"
default_description ScrollRight = codes "scroll right"
default_description unlisted = []
