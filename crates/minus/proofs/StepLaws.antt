-- One input that is performed, from what the parts of a step ensure.
use Rattle.std.proofs.Common.{◌≡◌, ℕ, ◌≤◌, is_some, Bool, true, false, List, [], ◌∷◌, length, Option, None, Some, String, Global, string_bytes, refl, sym, ap, subst, ◌∙◌, ◌<◌, arith}
use Rattle.std.specs.Io.KnownBytes.{Appends}
use Rattle.std.specs.Option.{option_map, unwrap_or}
use Rattle.regex.specs.Patterns.{Re}
use Rattle.minus_term.specs.Counts.{AppendsFront, SinkSeen}
use Rattle.minus_term.specs.Operations.{Op}
use Rattle.minus_term.specs.declared.error.MinusError.{MinusError}
use Rattle.minus_term.specs.declared.event.Event.{Event}
use Rattle.minus_term.specs.declared.error.CleanupError.{CleanupError}
use Rattle.minus_term.specs.Refusals.{Refusal, for_memory, for_hook_id, for_free_hook_id, for_query, at_cleanup, at_drawing, refusal_of}
use Rattle.minus_term.specs.Terminal.{cleanup_bytes, CleanupBreaksOff}
use Rattle.minus_term.specs.Written.{written_all}
use Rattle.minus_term.proofs.WrittenLaws.{written_all-nil}
use Rattle.minus_state.specs.declared.change.Redraw.{Redraw}
use Rattle.minus.specs.Says.{Says}
use Rattle.minus_state.specs.Control.{Control, Settings}
use Rattle.minus_state.specs.TypedPrefix.{cleared, with_prefix}
use Rattle.minus_state.specs.ClampedMark.{IsClamped, clamp}
use Rattle.minus_state.specs.Changes.{IsChange}
use Rattle.minus_state.specs.PromptKeys.{keyed, keyed_redraw, told_by, MayFind, IsUnkeyed}
use Rattle.minus_state.specs.OpenPrompts.{fed}
use Rattle.minus_state.specs.OpenSearches.{OpenSearch}
use Rattle.minus_state.specs.QueryKeys.{edit_of}
use Rattle.minus_state.specs.States.{control_of, IsFormed}
use Rattle.minus_state.specs.declared.state.PagerState.{PagerState}
use Rattle.minus_state.proofs.ChangeLaws.{typed_after}
use Rattle.minus_commands.specs.declared.outcome.Outcome.{Outcome}
use Rattle.minus.specs.declared.status.Status.{Status}
use Rattle.minus.specs.declared.status.Status.TheVariants as status
use Rattle.minus_state.specs.declared.state.RunMode.{RunMode}
use Rattle.minus_draw.specs.declared.drawings.Drawing.{Drawing}
use Rattle.minus.specs.Asked.{Asks, Wants, clears_prefix, taken}
use Rattle.minus.specs.Waiting.{checked_as}
use Rattle.minus_draw.specs.Drawings.{ops_of_step, IsDrawable, drawing_by}
use Rattle.minus_draw.specs.Drawn.{IsDrawing, Drawn, Work, IsQuiet, undrawn, key_work}
use Rattle.minus_commands.specs.Outcomes.{IsOutcome}
use Rattle.minus.specs.Works.{IsTakenBy, ExitsWith, after, Takes, worked, edits}
use Rattle.minus_commands.specs.Reads.{Told, a_command, an_event}
use Rattle.minus.specs.Seen.{Seen}
use Rattle.minus_commands.specs.Registration.{Exit, Handing, Kept, kept_after, classifier_after, condition_after, kept_with, classifier_with, condition_with, IsFree, IsFreeFor, IsUnhanded}
use Rattle.minus_commands.specs.Table.{Wanted, hands_over, shape, effect_of, handed, changed_by, control_after, drawing_of, end_hook, is_at_end, IsPossible}
use Rattle.minus_commands.specs.Table.{work_of}
use Rattle.minus.specs.Core.{seen_of}
use Rattle.minus.specs.SessionSteps.{IsUntakenOf}
use Rattle.minus.specs.declared.session.Core.{Core}
use Rattle.minus.specs.Steps.{goes_on, has_exited, Took}
use Rattle.minus.specs.RefusedSteps.{Fails, IsSinkFault}
use Rattle.minus_draw.proofs.DrawnLaws.{undrawn_drawn}
use Rattle.minus_commands.proofs.TableLaws.{clamp_still, exit_still}
use Rattle.minus_commands.proofs.CommandLaws.{work_draws, work_drawable}
use Rattle.minus_draw.proofs.KeyedLaws.{key_drawable}
use Rattle.minus_draw.proofs.KeyLaws.{key_drawn}

-- a change is drawn as the table says of its request
pub drawn_as : {Q K : Type 0} (c : Control) (w : Wanted Q K) (redraw : Redraw) (mark : ℕ) → redraw ≡ (effect_of c w).redraw → mark ≡ (changed_by (effect_of c w)).mark → drawing_by redraw c mark ≡ drawing_of c w
drawn_as c w redraw mark r m = ap (λ (x : Redraw). drawing_by x c mark) r ∙ ap (λ (n : ℕ). drawing_by (effect_of c w).redraw c n) m

-- what is left where nothing is registered
after_alone : {Q K : Type 0} (clears : Bool) (seen : Seen Q K) (w : Wanted Q K) → handed w ≡ None → (let left : Seen Q K = record seen { control = control_after clears seen.control w } in left ≡ after clears seen w)
after_alone {Q = Q} {K = K} clears seen w none =
    ap (λ (h : Option (Handing Q K)). let left : Seen Q K = record seen { control = control_after clears seen.control w; classifier = classifier_after seen.classifier h; condition = condition_after seen.condition h; kept = kept_after seen.kept h } in left) (sym none)

-- an exit leaves the control, but for the typed prefix
pub exits_with : {Q K : Type 0} (seen : Seen Q K) (told : Told Q K) (w : Wanted Q K) (outcome : Outcome) (prefix : Option (String Global)) → IsClamped seen.control → IsOutcome (clears_prefix told w) seen.control w outcome → outcome.exits ≡ true → prefix ≡ outcome.change.prefix → ExitsWith seen told w (option_map string_bytes prefix)
exits_with seen told w outcome prefix clamped o is same =
    let exits = sym o.exits ∙ is in
    record {
      exits = exits;
      typed = ap (λ (p : Option (String Global)). unwrap_or (option_map string_bytes p) seen.control.settings.prefix) same
          ∙ ap (λ (s : Settings). s.prefix) o.leads.settings_are ∙ ap (λ (k : Control). (cleared (clears_prefix told w) k).settings.prefix) (exit_still seen.control (shape seen.control w) clamped exits);
    }

-- the session after that
pub prefix_placed : {Q K : Type 0} (seen : Seen Q K) (told : Told Q K) (w : Wanted Q K) (prefix : Option (String Global)) (before after : PagerState) → seen.control ≡ control_of before → after ≡ record before { prefix_num = unwrap_or prefix before.prefix_num } → ExitsWith seen told w (option_map string_bytes prefix)
    → control_of after ≡ (taken seen told w).control
prefix_placed seen told w prefix before after is placed x =
    ap control_of placed ∙ ap (λ (p : List ℕ). with_prefix (control_of before) p) (typed_after prefix before.prefix_num) ∙ ap (λ (k : Control). with_prefix k (unwrap_or (option_map string_bytes prefix) k.settings.prefix)) (sym is) ∙ ap (λ (p : List ℕ). with_prefix seen.control p) x.typed

-- the input was performed
takes : {Q K : Type 0} (says : Says Q K) (old new : Seen Q K) (told : Told Q K) (w : Wanted Q K) (copied : Option (List ℕ)) → old.control.search ≡ None → Asks says old told w → IsPossible w → IsFreeFor old.kept.ids (handed w) → (effect_of old.control w).is_exit ≡ false → new ≡ after (clears_prefix told w) old w → copied ≡ (effect_of old.control w).copies
    → Takes says old told (work_of (clears_prefix told w) old.control w) copied new
takes {Q = Q} {K = K} says old new told w copied closed asks possible free on is copies =
    let work : Work = work_of (clears_prefix told w) old.control w in
    subst (λ (x : Seen Q K). Takes says old told work copied x) (sym is)
    (subst (λ (text : Option (List ℕ)). Takes says old told work text (after (clears_prefix told w) old w)) (sym copies) (worked w closed asks possible free on))

-- it was performed by a change, and registers nothing
pub worked_by : {Q K : Type 0} (says : Says Q K) (old : Seen Q K) (told : Told Q K) (w : Wanted Q K) (outcome : Outcome) → old.control.search ≡ None → IsClamped old.control → 1 ≤ old.control.rows → Asks says old told w → handed w ≡ None → IsOutcome (clears_prefix told w) old.control w outcome → outcome.exits ≡ false → IsTakenBy says old told outcome (work_of (clears_prefix told w) old.control w)
worked_by {Q = Q} {K = K} says old told w outcome closed clamped some asks none o on =
    let clears : Bool = clears_prefix told w in
    let work : Work = work_of clears old.control w in
    let next : Seen _ _ = record old { control = work.left } in
    record {
      takes = takes says old next told w (option_map string_bytes outcome.copied) closed asks o.possible (subst (λ (h : Option (Handing Q K)). IsFreeFor old.kept.ids h) (sym none) tt) (sym o.exits ∙ on) (after_alone clears old w none) o.copied;
      leads = o.leads;
      drawing = drawn_as old.control w outcome.change.redraw outcome.change.mark o.redraw o.leads.mark_is;
      drawable = work_drawable old.control clears w closed;
      hook = ap (λ (to : Option ℕ). end_hook (is_some to) (is_at_end work.left)) o.moves_to;
      draws = λ left_some. work_draws old.control clears w closed clamped some left_some;
    }

-- an event was taken by the search prompt that is open
pub keyed_by : {Q K : Type 0} (says : Says Q K) (old : Seen Q K) (event : Event) (o : OpenSearch) (found : Option Re) (outcome : Outcome) → old.control.search ≡ Some o → checked_as {Q = Q} {K = K} (an_event event) ≡ None → (state : PagerState) → IsFormed state → control_of state ≡ old.control → MayFind says.condition old.condition state o event found → 1 ≤ old.control.rows
    → IsChange old.control outcome.change (keyed old.control o (edit_of event) found) → outcome.change.redraw ≡ keyed_redraw o (edit_of event) → outcome.copied ≡ None → outcome.moves_to ≡ None → IsTakenBy says old (an_event event) outcome (key_work old.control o (edit_of event) found)
keyed_by says old event o found outcome searching alone state formed is may some leads redraw none still =
    let work : Work = key_work old.control o (edit_of event) found in
    record {
      takes = rw none (edits o searching alone state formed is found may);
      leads = leads;
      drawing = ap (λ (r : Redraw). drawing_by r old.control outcome.change.mark) redraw ∙ ap (λ (n : ℕ). drawing_by (keyed_redraw o (edit_of event)) old.control n) leads.mark_is;
      hook = ap (λ (to : Option ℕ). end_hook (is_some to) (is_at_end work.left)) still;
      drawable = key_drawable (told_by o (edit_of event)) old.control o.edited (fed o.prompt (edit_of event)) found work.left.mark;
      draws = λ left_some. key_drawn old.control o (edit_of event) found some searching;
    }

-- the change can be drawn as its redraw asks
pub drawable_by : {Q K : Type 0} (says : Says Q K) (old : Seen Q K) (told : Told Q K) (outcome : Outcome) (work : Work) → IsTakenBy says old told outcome work → IsDrawable (drawing_by outcome.change.redraw old.control outcome.change.mark) old.control work.left
drawable_by says old told outcome work t = subst (λ (d : Drawing). IsDrawable d old.control work.left) (sym t.drawing) t.drawable

-- what is left where it was applied
abbrev pub left_by : {Q K : Type 0} → Seen Q K → Work → Seen Q K
left_by old work = record old { control = work.left }

-- and the bytes that draw it
abbrev pub bytes_by : {Q K : Type 0} → Seen Q K → Outcome → Work → List ℕ
bytes_by old outcome work = written_all (ops_of_step (drawing_by outcome.change.redraw old.control outcome.change.mark) old.control work.left)

bytes_are : {Q K : Type 0} (says : Says Q K) (old : Seen Q K) (told : Told Q K) (outcome : Outcome) (work : Work) (bytes : List ℕ) → IsTakenBy says old told outcome work → bytes ≡ bytes_by old outcome work → bytes ≡ written_all (ops_of_step work.drawing old.control work.left)
bytes_are says old told outcome work bytes t is = is ∙ ap (λ (d : Drawing). written_all (ops_of_step d old.control work.left)) t.drawing

some_left : {Q K : Type 0} (old new : Seen Q K) (work : Work) → 1 ≤ new.control.rows → new ≡ left_by old work → 1 ≤ work.left.rows
some_left old new work some is = subst (λ (x : Seen _ _). 1 ≤ x.control.rows) is some

-- an input that is drawn
pub drawn_take : {Q K : Type 0} (says : Says Q K) (old new : Seen Q K) (told : Told Q K) (outcome : Outcome) (work : Work) (copied a b c : Option (List ℕ)) (bytes : List ℕ) → IsTakenBy says old told outcome work → 1 ≤ new.control.rows → new ≡ left_by old work → bytes ≡ bytes_by old outcome work → b ≡ a → Appends b c bytes
    → copied ≡ option_map string_bytes outcome.copied → Took says (goes_on copied) old told new a c
drawn_take {Q = Q} {K = K} says old new told outcome work copied a b c bytes t some is ops s h copies =
    let list : List Op = ops_of_step work.drawing old.control work.left in
    let appends : Appends a c (written_all list) = subst (λ (x : List ℕ). Appends a c x) (bytes_are says old told outcome work bytes t ops) (subst (λ (x : Option (List ℕ)). Appends x c bytes) s h) in
    let took : Took says (goes_on (option_map string_bytes outcome.copied)) old told (left_by old work) a c = (work, t.takes, (list, appends, t.draws (some_left old new work some is))) in
    subst (λ (x : Seen Q K). Took says (goes_on copied) old told x a c) (sym is) (subst (λ (x : Option (List ℕ)). Took says (goes_on x) old told (left_by old work) a c) (sym copies) took)

-- its drawing was refused
pub broken_take : {Q K : Type 0} (says : Says Q K) (old mid new : Seen Q K) (told : Told Q K) (outcome : Outcome) (work : Work) (a b c : Option (List ℕ)) (bytes : List ℕ) → IsTakenBy says old told outcome work → 1 ≤ mid.control.rows → 0 < length bytes → mid ≡ left_by old work → new ≡ record mid { status = status.Failed } → bytes ≡ bytes_by old outcome work → b ≡ a
    → AppendsFront b c bytes → Fails says at_drawing old told new a c
broken_take says old mid new told outcome work a b c bytes t some drawn is fails ops s h =
    let list : List Op = ops_of_step work.drawing old.control work.left in
    let sent : bytes ≡ written_all list = bytes_are says old told outcome work bytes t ops in
    let draws : IsDrawing list old.control (work ∷ []) work.left = t.draws (some_left old mid work some is) in
    let front : AppendsFront a c (written_all list) = subst (λ (x : List ℕ). AppendsFront a c x) sent (subst (λ (x : Option (List ℕ)). AppendsFront x c bytes) s h) in
    let loud : IsQuiet old.control (work ∷ []) → ⊥ = λ q. (let none : length bytes ≡ 0 = ap length (sent ∙ ap written_all (draws.none q) ∙ written_all-nil) in absurd (omega (arith, drawn, none))) in
    (work, option_map string_bytes outcome.copied, left_by old work, t.takes, (list, front, draws, loud), fails ∙ ap (λ (x : Seen _ _). let r : Seen _ _ = record x { status = status.Failed } in r) is)

-- two sessions are seen alike
pub seen_alike : {Q K : Type 0} (x y : Seen Q K) → x.control ≡ y.control → x.classifier ≡ y.classifier → x.condition ≡ y.condition → x.kept ≡ y.kept → x.mode ≡ y.mode → x.waiting ≡ y.waiting → x.status ≡ y.status → x ≡ y
seen_alike {Q = Q} {K = K} x y a b c d e f g =
    ap (λ (v : Control). let r : Seen Q K = record x { control = v } in r) a
    ∙ ap (λ (v : K). let r : Seen Q K = record x { control = y.control; classifier = v } in r) b
    ∙ ap (λ (v : Option Q). let r : Seen Q K = record y { condition = v; kept = x.kept; mode = x.mode; waiting = x.waiting; status = x.status } in r) c
    ∙ ap (λ (v : Kept). let r : Seen Q K = record y { kept = v; mode = x.mode; waiting = x.waiting; status = x.status } in r) d
    ∙ ap (λ (v : RunMode). let r : Seen Q K = record y { mode = v; waiting = x.waiting; status = x.status } in r) e
    ∙ ap (λ (v : List (Told Q K)). let r : Seen Q K = record y { waiting = v; status = x.status } in r) f
    ∙ ap (λ (v : Status). let r : Seen Q K = record y { status = v } in r) g

-- ---- what is registered

-- no event hands anything over, so the typed prefix stays
prefix_stays : {Q K : Type 0} (told : Told Q K) (handing : Handing Q K) → clears_prefix told (hands_over handing) ≡ false
prefix_stays (a_command asked) handing = refl
prefix_stays (an_event event) handing = refl

-- it is kept
pub handed_take : {Q K : Type 0} (says : Says Q K) (old new : Seen Q K) (told : Told Q K) (handing : Handing Q K) (a : Option (List ℕ)) → old.control.search ≡ None → IsClamped old.control → Asks says old told (hands_over handing) → IsFree old.kept.ids handing
    → new ≡ record old { classifier = classifier_with old.classifier handing; condition = condition_with old.condition handing; kept = kept_with old.kept handing } → Took says (goes_on None) old told new a a
handed_take {Q = Q} {K = K} says old new told handing a closed clamped asks free is =
    let c : Control = old.control in
    let w : Wanted Q K = hands_over handing in
    let stays : clamp c ≡ c = clamp_still c clamped in
    let same = prefix_stays told handing in
    let left : new ≡ after (clears_prefix told w) old w =
    is ∙ ap (λ (k : Control). let r : Seen Q K = record old { control = k; classifier = classifier_with old.classifier handing; condition = condition_with old.condition handing; kept = kept_with old.kept handing } in r) (sym stays)
    ∙ ap (λ (b : Bool). after b old w) (sym same) in
    let work : work_of (clears_prefix told w) c w ≡ undrawn c =
    ap (λ (b : Bool). work_of b c w) same ∙ ap undrawn stays in
    let t : Takes says old told (undrawn c) None new = subst (λ (x : Work). Takes says old told x None new) work (takes says old new told w None closed asks tt free refl left refl) in
    let at : new.control ≡ c = ap (λ (s : Seen Q K). s.control) is in
    (undrawn c, t, subst (λ (k : Control). Drawn a a c (undrawn c ∷ []) k) (sym at) (undrawn_drawn a c))

-- it is not kept
unhanded : {Q K : Type 0} (says : Says Q K) (refusal : Refusal) (s : Seen Q K) (told : Told Q K) (handing : Handing Q K) (a : Option (List ℕ)) → s.control.search ≡ None → Wants says s s.control.search told (hands_over handing) → IsUnhanded refusal s.kept.ids handing → Fails says refusal s told s a a × (IsSinkFault refusal → ⊥)
unhanded says for_memory s told handing a closed wants h = ((refl, refl), λ sink. sink)
unhanded says (for_hook_id hook id) s told handing a closed wants h = (((hands_over handing, wants, (closed, (ap hands_over h.0, h.1))), (refl, refl)), λ sink. sink)
unhanded says for_free_hook_id s told handing a closed wants h = (((hands_over handing, wants, (closed, (handing, refl, h))), (refl, refl)), λ sink. sink)
unhanded says refusal s told handing a closed wants h = absurd h

pub unhanded_take : {S P H E Q K : Type 0} (sink : S → SinkSeen) (says : Says Q K) (old new : Core S P H E Q K) (told : Told Q K) (handing : Handing Q K) (e : MinusError) → (seen_of old).control.search ≡ None → Asks says (seen_of old) told (hands_over handing) → IsUnhanded (refusal_of e) (seen_of old).kept.ids handing → seen_of new ≡ seen_of old → new.sink ≡ old.sink
    → IsUntakenOf sink says old told new e
unhanded_take {S = S} {Q = Q} {K = K} sink says old new told handing e closed asks h same at =
    let s : Seen Q K = seen_of old in
    let a : Option (List ℕ) = (sink old.sink).bytes in
    let wants : Wants says s s.control.search told (hands_over handing) = subst (λ (x : Option OpenSearch). Wants says s x told (hands_over handing)) (sym closed) asks in
    let (fails, no_fault) = unhanded says (refusal_of e) s told handing a closed wants h in
    let left : Fails says (refusal_of e) s told (seen_of new) a a = subst (λ (x : Seen Q K). Fails says (refusal_of e) s told x a a) (sym same) fails in
    record {
      fails = subst (λ (x : S). Fails says (refusal_of e) s told (seen_of new) a (sink x).bytes) (sym at) left;
      rises = λ fault. absurd (no_fault fault);
      untouched = λ well. at;
    }

-- a key that was refused has changed nothing
unkeyed : {Q K : Type 0} (says : Says Q K) (refusal : Refusal) (s : Seen Q K) (event : Event) (o : OpenSearch) (a : Option (List ℕ)) → s.control.search ≡ Some o → IsUnkeyed refusal o (edit_of event) → Fails says refusal s (an_event event) s a a × (IsSinkFault refusal → ⊥)
unkeyed says for_memory s event o a searching h = ((refl, refl), λ sink. sink)
unkeyed says for_query s event o a searching h = ((record { search = o; event = event; opened = searching; key = refl; full = h }, (refl, refl)), λ sink. sink)
unkeyed says refusal s event o a searching h = absurd h

pub unkeyed_take : {S P H E Q K : Type 0} (sink : S → SinkSeen) (says : Says Q K) (old : Core S P H E Q K) (event : Event) (o : OpenSearch) (e : MinusError) → (seen_of old).control.search ≡ Some o → IsUnkeyed (refusal_of e) o (edit_of event) → IsUntakenOf sink says old (an_event event) old e
unkeyed_take sink says old event o e searching h =
    let (fails, no_fault) = unkeyed says (refusal_of e) (seen_of old) event o (sink old.sink).bytes searching h in
    record { fails = fails; rises = λ fault. absurd (no_fault fault); untouched = λ well. refl }

-- an exit
pub exit_take : {Q K : Type 0} (says : Says Q K) (old new : Seen Q K) (told : Told Q K) (w : Wanted Q K) (x : Exit) (a b : Option (List ℕ)) → old.control.search ≡ None → Asks says old told w → (effect_of old.control w).is_exit ≡ true → x ≡ old.kept.exit → new ≡ record (taken old told w) { waiting = []; status = status.Ended } → Appends a b cleanup_bytes
    → Took says (has_exited x) old told new a b
exit_take says old new told w x a b closed asks exits by ends h = (record { wanted = w; closed = closed; asked = asks; exits = exits; by = by }, ends, h)

-- its cleanup was refused
pub exit_broken : {Q K : Type 0} (says : Says Q K) (old new : Seen Q K) (told : Told Q K) (w : Wanted Q K) (cause : CleanupError) (a b : Option (List ℕ)) → old.control.search ≡ None → Asks says old told w → (effect_of old.control w).is_exit ≡ true → new ≡ record (taken old told w) { status = status.Failed } → CleanupBreaksOff cause a b
    → Fails says (at_cleanup cause) old told new a b
exit_broken says old new told w cause a b closed asks exits fails h = (old.kept.exit, record { wanted = w; closed = closed; asked = asks; exits = exits; by = refl }, h, fails)
