-- What a request changes without its move, its drawing and the opening of a search prompt.
use Rattle.std.specs.Prelude.{◌≡◌, string_bytes}
use Rattle.std.specs.Option.{option_map}
use Rattle.minus_state.specs.Changes.{IsChange}
use Rattle.minus_state.specs.Control.{Control}
use Rattle.minus_state.specs.ClampedMark.{clamp}
use Rattle.minus_commands.specs.declared.outcome.Outcome.{Outcome}
use Rattle.minus_commands.specs.Shapes.{Effect}
use Rattle.minus_commands.specs.Table.{Wanted, effect_of}

-- the control after an effect without its move: its change, and the clamp that ends it; a
-- search prompt stays open, or none is
abbrev pub unmoved_by : Control → Effect → Control
unmoved_by c e = record (clamp e.changed) { search = c.search }

-- the control after a request without its move, its drawing and the opening of a search prompt
abbrev pub unmoved : {Q K : Type 0} → Control → Wanted Q K → Control
unmoved c w = unmoved_by c (effect_of c w)

-- the result of such a request: its change, and what is left to be done then
pub record IsUnmoved {Q K : Type 0} (c : Control) (w : Wanted Q K) (outcome : Outcome) : Type 0 where
  pub leads : IsChange c outcome.change (unmoved c w)
  pub redraw : outcome.change.redraw ≡ (effect_of c w).redraw
  pub row_only : outcome.row_only ≡ (effect_of c w).row_only
  pub moves_to : outcome.moves_to ≡ (effect_of c w).moves_to
  pub exits : outcome.exits ≡ (effect_of c w).is_exit
  pub copies : option_map string_bytes outcome.copied ≡ (effect_of c w).copies
