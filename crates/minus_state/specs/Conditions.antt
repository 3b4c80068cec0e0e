-- The condition of an incremental search: whether the page shows where a query leads.
use Rattle.std.specs.Prelude.{◌≡◌, Bool, true, Option, None, Some}
use Rattle.regex.specs.Patterns.{Re}
use Rattle.minus_term.specs.declared.event.Event.{Event}
use Rattle.minus_state.specs.declared.search.opts.SearchOpts.{SearchOpts}
use Rattle.minus_state.specs.declared.state.PagerState.{PagerState}
use Rattle.minus_state.specs.OpenPrompts.{Prompt, fed}
use Rattle.minus_state.specs.QueryKeys.{edit_of}
use Rattle.minus_state.specs.QueryPatterns.{query_text, shows_by_default, IsPatternOf}
use Rattle.minus_state.specs.SearchSeen.{AreOptsAfter}
use Rattle.minus_state.specs.States.{control_of}

-- what conditions may answer to what they see
abbrev pub Judges : Type 0 → Type 1
Judges Q = Q → SearchOpts → Bool → Type 0

-- whether the page may be to show where the query of a prompt leads, after an event has edited it in a state: where a
-- condition is kept, as that may answer to what it sees then, and by default for a query and a text that are so long
abbrev pub MayShow : {Q : Type 0} → Judges Q → Option Q → PagerState → Prompt → Event → Bool → Type 0
MayShow judges None s p event shows = shows ≡ shows_by_default (control_of s) (fed p (edit_of event))
MayShow judges (Some condition) s p event shows =
    (opts : SearchOpts) × AreOptsAfter s p event opts × judges condition opts shows

-- what may be found for that query: no pattern, since none was built or the page is not to show it, or the one that is
-- read in its text, where the page may be to show it
abbrev pub MayPreview : {Q : Type 0} → Judges Q → Option Q → PagerState → Prompt → Event → Option Re → Type 0
MayPreview judges condition s p event None = Unit {0}
MayPreview judges condition s p event (Some pattern) =
    IsPatternOf (query_text (fed p (edit_of event))) pattern × MayShow judges condition s p event true
