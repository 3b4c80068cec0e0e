-- What is found for a query.
use Rattle.std.proofs.Common.{◌≡◌, ◌==◌, List, ℕ, Bool, chars, true, false, length, if◌then◌else◌, Option, Some, option_map, refl, sym, ap, subst, ◌∙◌}
use Rattle.std.proofs.lemmas.Bool.{eq-eqb, ne_eqb}
use Rattle.std.specs.Str.{encode_utf8_all}
use Rattle.regex.specs.Patterns.{Re}
use Rattle.minus_term.specs.declared.event.Event.{Event}
use Rattle.minus_term.specs.Refusals.{Refusal, for_memory, for_query}
use Rattle.minus_state.specs.declared.search.keys.QueryEdit.{QueryEdit}
use Rattle.minus_state.specs.declared.search.keys.QueryEdit.TheVariants as edits
use Rattle.minus_state.specs.declared.search.query.Fed.{Fed}
use Rattle.minus_state.specs.declared.search.query.Fed.TheVariants as fed_so
use Rattle.minus_state.specs.declared.state.PagerState.{PagerState}
use Rattle.minus_state.specs.Conditions.{Judges, MayShow, MayPreview}
use Rattle.minus_state.specs.Control.{Control}
use Rattle.minus_state.specs.PromptKeys.{IsUnkeyed}
use Rattle.minus_state.specs.OpenPrompts.{Prompt, fed, cursor_moved}
use Rattle.minus_state.specs.OpenSearches.{OpenSearch}
use Rattle.minus_state.specs.Prompting.{typed, cursor_moved as control_moved}
use Rattle.minus_state.specs.QueryEditor.{Editor, edited, moved, told_of, takes_memory, moves, IsRefusedEdit}
use Rattle.minus_state.specs.QueryKeys.{edit_of}
use Rattle.minus_state.specs.QueryPatterns.{IsPatternOf}

-- what was built of the text of a query that an event has edited may be shown, where the page may be to show it
pub may_preview : {Q : Type 0} (judges : Judges Q) (condition : Option Q) (s : PagerState) (p after : Prompt) (event : Event) (text : List ℕ) (pattern : Re) → after ≡ fed p (edit_of event) → chars text ≡ after.editor.query → IsPatternOf (encode_utf8_all (chars text)) pattern → MayShow judges condition s p event true
    → MayPreview judges condition s p event (Some pattern)
may_preview judges condition s p after event text pattern fed_so same built shows =
    let of_after = subst (λ (query : List ℕ). IsPatternOf (encode_utf8_all query) pattern) same built in
    (subst (λ (q : Prompt). IsPatternOf (encode_utf8_all q.editor.query) pattern) fed_so of_after, shows)

-- why an edit was not made that takes memory is why its key was not taken
pub unkeyed_by : (refusal : Refusal) (o : OpenSearch) (edit : QueryEdit) → takes_memory edit ≡ true → IsRefusedEdit refusal o.prompt.editor edit → IsUnkeyed refusal o edit
unkeyed_by for_memory o edits.Confirms h r = absurd (let both : false ≡ true = h in cc)
unkeyed_by for_memory o edit h r = h
unkeyed_by for_query o edit h r = r
unkeyed_by refusal o edit h r = absurd r

between_stays : (same_length same_cursor : Bool) → (let told : Fed = if same_length then (if same_cursor then fed_so.Unchanged else fed_so.Moved) else fed_so.Edited in (told ≡ fed_so.Moved → ⊥) → (told ≡ fed_so.Edited → ⊥) → told ≡ fed_so.Unchanged)
between_stays true true moves changes = refl
between_stays true false moves changes = absurd (moves refl)
between_stays false same_cursor moves changes = absurd (changes refl)

-- an edit that takes memory, and neither moves the cursor alone nor changes the query, does nothing
pub told_stays : (e : Editor) (edit : QueryEdit) → takes_memory edit ≡ true → (told_of e edit ≡ fed_so.Moved → ⊥) → (told_of e edit ≡ fed_so.Edited → ⊥) → told_of e edit ≡ fed_so.Unchanged
told_stays e edits.Cancels h moves changes = absurd (let both : false ≡ true = h in cc)
told_stays e edits.Confirms h moves changes = absurd (let both : false ≡ true = h in cc)
told_stays e edit h moves changes = between_stays (length e.query == length (edited e edit).query) (e.cursor == (edited e edit).cursor) moves changes

-- what is reported of a move
told_moves : (e : Editor) (edit : QueryEdit) → moves edit ≡ true → told_of e edit ≡ (if e.cursor == moved e edit then fed_so.Unchanged else fed_so.Moved)
told_moves e edits.Cancels h = absurd (let both : false ≡ true = h in cc)
told_moves e edits.Confirms h = absurd (let both : false ≡ true = h in cc)
told_moves e edits.RemovesBefore h = absurd (let both : false ≡ true = h in cc)
told_moves e edits.RemovesUnder h = absurd (let both : false ≡ true = h in cc)
told_moves e (edits.Inserts character) h = absurd (let both : false ≡ true = h in cc)
told_moves e edit h = (let same = eq-eqb (length e.query) (length e.query) refl in rw same refl)

pub told_still : (e : Editor) (edit : QueryEdit) → moves edit ≡ true → moved e edit ≡ e.cursor → told_of e edit ≡ fed_so.Unchanged
told_still e edit h same = told_moves e edit h ∙ (let at = eq-eqb e.cursor (moved e edit) (sym same) in rw at refl)

pub told_goes : (e : Editor) (edit : QueryEdit) → moves edit ≡ true → (moved e edit ≡ e.cursor → ⊥) → told_of e edit ≡ fed_so.Moved
told_goes e edit h ne = told_moves e edit h ∙ (let at = ne_eqb e.cursor (moved e edit) (λ is. ne (sym is)) in rw at refl)

-- a move feeds a prompt so that its cursor alone is another one
fed_moves : (p : Prompt) (edit : QueryEdit) → moves edit ≡ true → fed p edit ≡ cursor_moved p edit
fed_moves p edits.Cancels h = refl
fed_moves p edits.Confirms h = refl
fed_moves p edits.RemovesBefore h = absurd (let both : false ≡ true = h in cc)
fed_moves p edits.RemovesUnder h = absurd (let both : false ≡ true = h in cc)
fed_moves p (edits.Inserts character) h = absurd (let both : false ≡ true = h in cc)
fed_moves p edit h = refl

-- the cursor of the prompt that is open moves as that of a prompt that is fed
pub moves_own : (c : Control) (o : OpenSearch) (edit : QueryEdit) → c.search ≡ Some o → moves edit ≡ true → control_moved c edit ≡ typed c (fed o.prompt edit)
moves_own c o edit is h =
    let own : Option OpenSearch → Control = λ x. record c { search = option_map (λ (n : OpenSearch). let r : OpenSearch = record n { prompt = cursor_moved n.prompt edit } in r) x } in
    let same : Option OpenSearch → Control = λ x. record c { search = option_map (λ (n : OpenSearch). let r : OpenSearch = record n { prompt = cursor_moved o.prompt edit } in r) x } in
    ap own is ∙ sym (ap same is) ∙ sym (ap (typed c) (fed_moves o.prompt edit h))

-- an edit that takes memory takes some
pub never_moved : (edit : QueryEdit) → takes_memory edit ≡ true → takes_memory edit ≡ false → ⊥
never_moved edit h free = absurd (let both : true ≡ false = sym h ∙ free in cc)
