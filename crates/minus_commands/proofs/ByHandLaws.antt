-- What waits for a command that was handled manually leaves, done in its order, what the table says of the command.
use Rattle.std.proofs.Common.{◌≡◌, ℕ, List, [], ◌∷◌, ◌++◌, Bool, true, false, Option, None, Some, refl, sym, ap, ◌∙◌, min, ◌≤◌, if◌then◌else◌, arith}
use Rattle.minus_state.specs.Control.{Control}
use Rattle.minus_state.specs.Appending.{keeps_rows_with}
use Rattle.minus_state.specs.ClampedMark.{clamp, top, IsClamped}
use Rattle.minus_state.specs.Help.{help_open}
use Rattle.minus_state.specs.OpenSearches.{OpenSearch}
use Rattle.minus_state.specs.RedrawExtent.{whole_where}
use Rattle.minus_state.specs.declared.change.Redraw.{Redraw}
use Rattle.minus_state.specs.declared.change.Redraw.TheVariants.{Stays, Whole, Appended, Opening}
use Rattle.minus_state.specs.declared.search.SearchMode.{SearchMode}
use Rattle.minus_state.specs.declared.search.SearchMode.TheVariants.{Forward, Reverse, Unknown}
use Rattle.minus_commands.specs.declared.commands.IoCommand.{IoCommand}
use Rattle.minus_commands.specs.declared.commands.IoCommand.TheVariants.{RedrawPrompt}
use Rattle.minus_commands.specs.EvHandler.{io_left, all_io_left, ByHandAsByTheTable}
use Rattle.minus_commands.specs.Queued.{listed, queued_for, drawing_command, move_command}
use Rattle.minus_commands.specs.Shapes.{Effect, Shape, effect, appends, shows, opens, restores, leaves}
use Rattle.minus_commands.specs.Table.{shape, moved, changed_by}
use Rattle.minus_commands.specs.Unmoved.{unmoved_by}
use Rattle.minus_commands.proofs.TableLaws.{clamp_still, left_search, restored_search}

-- one list of commands, and then another
joined_left : (Q K : Type 0) (first more : List IoCommand) (c : Control) → all_io_left Q K c (first ++ more) ≡ all_io_left Q K (all_io_left Q K c first) more
joined_left Q K [] more c = refl
joined_left Q K (io ∷ first) more c = joined_left Q K first more (io_left Q K c io)

clamp_clamps : (c : Control) → IsClamped (clamp c)
clamp_clamps c = let m : min c.mark (top c) ≤ top c = omega arith in m

-- a drawing leaves a clamped control as it is, unless a search prompt opens
row_stays : (Q K : Type 0) (c : Control) (prompt_row : Bool) → IsClamped c → all_io_left Q K c (listed (if prompt_row then Some RedrawPrompt else None)) ≡ c
row_stays Q K c true h = clamp_still c h
row_stays Q K c false h = refl

drawing_stays : (Q K : Type 0) (c : Control) (redraw : Redraw) (row_only : Bool) → IsClamped c → (redraw ≡ Opening → ⊥) → all_io_left Q K c (listed (drawing_command redraw row_only)) ≡ c
drawing_stays Q K c Whole row_only h n = clamp_still c h
drawing_stays Q K c Appended row_only h n = clamp_still c h
drawing_stays Q K c Opening row_only h n = absurd (n refl)
drawing_stays Q K c redraw row_only h n = row_stays Q K c row_only h

-- the move, where the mark is moved
move_joins : (Q K : Type 0) (changed : Control) (to : Option ℕ) → all_io_left Q K (clamp changed) (listed (move_command to)) ≡ clamp (moved changed to)
move_joins Q K changed (Some mark) = refl
move_joins Q K changed None = refl

-- the result of the commands that wait for an effect
abbrev DoneAfter : (Q K : Type 0) → Control → Effect → Control
DoneAfter Q K c e = all_io_left Q K (unmoved_by c e) (queued_for e)

-- what opens no search prompt
opens_none : (Q K : Type 0) (c : Control) (e : Effect) → e.changed.search ≡ c.search → (e.redraw ≡ Opening → ⊥) → DoneAfter Q K c e ≡ changed_by e
opens_none Q K c e same draws =
    let left : Control = clamp e.changed in
    let is : unmoved_by c e ≡ left = ap (λ (v : Option OpenSearch). let k : Control = record left { search = v } in k) (sym same) in
    let drawn : all_io_left Q K left (listed (drawing_command e.redraw e.row_only)) ≡ left = drawing_stays Q K left e.redraw e.row_only (clamp_clamps e.changed) draws in
    let last : List IoCommand = listed (move_command e.moves_to) in
    ap (λ (k : Control). all_io_left Q K k (queued_for e)) is
    ∙ joined_left Q K (listed (drawing_command e.redraw e.row_only)) last left
    ∙ ap (λ (k : Control). all_io_left Q K k last) drawn
    ∙ move_joins Q K e.changed e.moves_to

-- what opens one
opens_one : (Q K : Type 0) (c : Control) (mode : SearchMode) → (let e : Effect = effect {Q = Q} {K = K} c (opens mode) in DoneAfter Q K c e ≡ changed_by e)
opens_one Q K c Forward = let e : Effect = effect {Q = Q} {K = K} c (opens Forward) in clamp_still (clamp e.changed) (clamp_clamps e.changed)
opens_one Q K c Reverse = let e : Effect = effect {Q = Q} {K = K} c (opens Reverse) in clamp_still (clamp e.changed) (clamp_clamps e.changed)
opens_one Q K c Unknown = refl

-- no other asks for the drawing of one
page_or_none : (b : Bool) → whole_where b ≡ Opening → ⊥
page_or_none true e = let both : Whole ≡ Opening = e in cc
page_or_none false e = let both : Stays ≡ Opening = e in cc

rows_or_page : (keeps : Bool) → (if keeps then Appended else Whole) ≡ Opening → ⊥
rows_or_page true e = let both : Appended ≡ Opening = e in cc
rows_or_page false e = let both : Whole ≡ Opening = e in cc

rows_or_none : (help keeps : Bool) → (if help then Stays else (if keeps then Appended else Whole)) ≡ Opening → ⊥
rows_or_none true keeps e = let both : Stays ≡ Opening = e in cc
rows_or_none false keeps e = rows_or_page keeps e

done_by_hand : (Q K : Type 0) (c : Control) (s : Shape Q K) → DoneAfter Q K c (effect c s) ≡ changed_by (effect c s)
done_by_hand Q K c (opens mode) = opens_one Q K c mode
done_by_hand Q K c (appends text) = opens_none Q K c (effect {Q = Q} {K = K} c (appends text)) refl (λ e. rows_or_none (help_open c) (keeps_rows_with c text) e)
done_by_hand Q K c (shows new is_drawn copied) = opens_none Q K c (effect {Q = Q} {K = K} c (shows new is_drawn copied)) refl (λ e. page_or_none is_drawn e)
done_by_hand Q K c restores = opens_none Q K c (effect {Q = Q} {K = K} c restores) (restored_search c c.help) (λ e. page_or_none (help_open c) e)
done_by_hand Q K c leaves = opens_none Q K c (effect {Q = Q} {K = K} c leaves) (left_search c c.help) (λ e. page_or_none (help_open c) e)
done_by_hand Q K c s = opens_none Q K c (effect {Q = Q} {K = K} c s) refl (λ e. cc)

pub by_hand_lem : (Q K : Type 0) → ByHandAsByTheTable Q K
by_hand_lem Q K c w = done_by_hand Q K c (shape c w)
