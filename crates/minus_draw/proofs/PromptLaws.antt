-- A prompt row that is another one than before, as bytes.
use Rattle.std.proofs.Common.{◌≡◌, ℕ, List, [], ◌++◌, Option, None, Some, true, false, String, Global, string_bytes, sym, ap, ◌∙◌, refl}
use Rattle.std.specs.Prelude.{bytes_eq, if◌then◌else◌}
use Rattle.std.specs.Option.{option_map, unwrap_or}
use Rattle.minus_term.specs.Operations.{Op}
use Rattle.minus_term.specs.FullRedraw.{prompt_ops}
use Rattle.minus_term.specs.Written.{written_all}
use Rattle.minus_state.specs.Control.{Control}
use Rattle.minus_draw.specs.Drawings.{ops_of, ops_of_step}
use Rattle.minus_draw.specs.PromptRowDrawing.{changed_prompt, draws_prompt}
use Rattle.minus_draw.specs.declared.drawings.Drawing.{Drawing}
use Rattle.minus_state.specs.ShownPrompt.{prompt_row}
use Rattle.minus_draw.specs.declared.drawings.Drawing.TheVariants.{Nothing, Page, Scroll, Append, LastRow}
use Rattle.minus_term.proofs.WrittenLaws.{ops_added}

pub changed_prompt_is : (out bytes : List ℕ) (old new : Control) (rows : ℕ) (prompt before : List ℕ) → rows ≡ new.rows → prompt ≡ prompt_row new → before ≡ prompt_row old → bytes ≡ out ++ written_all (if bytes_eq prompt before then [] else prompt_ops rows prompt) → bytes ≡ out ++ written_all (changed_prompt old new)
changed_prompt_is out bytes old new rows prompt before r p b e =
    e
    ∙ ap (λ (x : List ℕ). out ++ written_all (if bytes_eq x before then [] else prompt_ops rows x)) p
    ∙ ap (λ (x : List ℕ). out ++ written_all (if bytes_eq (prompt_row new) x then [] else prompt_ops rows (prompt_row new))) b
    ∙ ap (λ (n : ℕ). out ++ written_all (if bytes_eq (prompt_row new) (prompt_row old) then [] else prompt_ops n (prompt_row new))) r

-- a drawing that draws the prompt row is all of a step's list
pub all_of_step : (drawing : Drawing) (old new : Control) → draws_prompt drawing ≡ true → ops_of_step drawing old new ≡ ops_of drawing new
all_of_step Nothing old new e = absurd (cc)
all_of_step (Page whole) old new e = refl
all_of_step (Scroll from to) old new e = refl
all_of_step (Append first old_count) old new e = absurd (cc)
all_of_step (LastRow row) old new e = refl

-- one that does not is followed by the prompt row, where that is another one
pub more_of_step : (drawing : Drawing) (old new : Control) → draws_prompt drawing ≡ false → ops_of_step drawing old new ≡ ops_of drawing new ++ changed_prompt old new
more_of_step Nothing old new e = refl
more_of_step (Page whole) old new e = absurd (cc)
more_of_step (Scroll from to) old new e = absurd (cc)
more_of_step (Append first old_count) old new e = refl
more_of_step (LastRow row) old new e = absurd (cc)

pub drawn_with_prompt : (drawing : Drawing) (old new : Control) (out bytes : List ℕ) → draws_prompt drawing ≡ true → bytes ≡ out ++ written_all (ops_of drawing new) → bytes ≡ out ++ written_all (ops_of_step drawing old new)
drawn_with_prompt drawing old new out bytes d e = e ∙ ap (λ (ops : List Op). out ++ written_all ops) (sym (all_of_step drawing old new d))

pub drawn_before_prompt : (drawing : Drawing) (old new : Control) (out mid bytes : List ℕ) (rows : ℕ) (prompt before : List ℕ) → draws_prompt drawing ≡ false → rows ≡ new.rows → prompt ≡ prompt_row new → before ≡ prompt_row old → mid ≡ out ++ written_all (ops_of drawing new)
    → bytes ≡ mid ++ written_all (if bytes_eq prompt before then [] else prompt_ops rows prompt) → bytes ≡ out ++ written_all (ops_of_step drawing old new)
drawn_before_prompt drawing old new out mid bytes rows prompt before d r p b e f =
    ops_added out mid bytes (ops_of drawing new) (changed_prompt old new) e (changed_prompt_is mid bytes old new rows prompt before r p b f)
    ∙ ap (λ (ops : List Op). out ++ written_all ops) (sym (more_of_step drawing old new d))

-- the prompt row that is kept: a new one, or else the one before
pub row_kept : (row : Option (String Global)) (kept : String Global) → string_bytes (unwrap_or row kept) ≡ unwrap_or (option_map string_bytes row) (string_bytes kept)
row_kept None kept = refl
row_kept (Some row) kept = refl
