-- A start that was broken off.
use Rattle.std.proofs.Common.{◌≡◌, ℕ, ◌≤◌, ◌<◌, List, [], ◌∷◌, ◌++◌, length, map, Bool, true, false, ap, sym, Option, Some, None, arith, Result, Ok, Err, OnOk, OnErr, IfOk, inl, inr, refl, subst, ◌∙◌, is_some}
use Rattle.std.specs.Result.{IsErrOf}
use Rattle.minus_term.specs.declared.error.SetupError.{SetupError}
use Rattle.std.specs.Io.KnownBytes.{Appends}
use Rattle.minus_term.specs.declared.error.CleanupError.{CleanupError}
use Rattle.minus_term.specs.declared.error.MinusError.{MinusError}
use Rattle.minus_term.specs.Counts.{SinkSeen, AppendsFront, Stays, Rises}
use Rattle.minus_term.specs.Terminal.{setup_bytes, cleanup_bytes}
use Rattle.minus_term.specs.Refusals.{Refusal, for_memory, for_newline, for_size, at_setup, at_drawing, for_pattern, refusal_of}
use Rattle.minus_term.specs.Written.{written_all}
use Rattle.minus_term.proofs.WrittenLaws.{written_all-nil}
use Rattle.minus_state.specs.Control.{Control}
use Rattle.minus_state.specs.ClampedMark.{IsClamped, top}
use Rattle.minus_state.specs.Changes.{IsUnformedState}
use Rattle.minus_state.specs.declared.state.RunMode.{RunMode}
use Rattle.minus_state.specs.declared.state.RunMode.TheVariants.{Static}
use Rattle.minus.specs.declared.init.StartErrorOf.{StartErrorOf}
use Rattle.minus_commands.specs.declared.pager.PagerOf.{PagerOf}
use Rattle.minus_commands.specs.Reads.{wanted_of}
use Rattle.minus.specs.SessionStarts.{IsStart, IsFirstStart, IsRefusedStart}
use Rattle.minus.specs.declared.session.Core.{Core}
use Rattle.minus_state.specs.declared.hooks.HookId.{HookId}
use Rattle.minus_commands.specs.Registration.{ids_after, IsFreeFor}
use Rattle.minus_commands.specs.Outcomes.{IsUnformed}
use Rattle.minus_commands.specs.Shapes.{moves}
use Rattle.minus_commands.specs.Table.{Wanted, sets_prompt, sends_message, handed, HasNewline, IsPossible, IsFaultBeside, effect_of}
use Rattle.minus.specs.Starts.{first_control, CanStart, CanBegin, CannotStart, IsUnregistered, IsUnchecked, IsUntaken, IsFirstFault, IsFormRefused, IsStartFault, IsStartRefused, IsEarly, IsShowRefused, CleansUp, DrawsOff, DrawingBreaksOff, ShowBreaksOff, StartBreaksOff, BeginsAndMoves, StartLeavesItsPage, first_mark, first_move, move_ops}
use Rattle.minus_draw.specs.Drawn.{Work, IsDrawing, Redraws, RedrawBreaksOff, ExchangeLeavesItsPage}
use Rattle.minus_commands.proofs.CommandLaws.{shape_draws}
use Rattle.minus_draw.proofs.LeavesLaws.{head_there, tail_there, leaves_more}
use Rattle.minus_draw.specs.Drawings.{whole_page}
use Rattle.minus_draw.proofs.DrawnLaws.{page_draws, first_drawn, page_leaves}
use Rattle.std.proofs.Common.{min}
use Rattle.minus_state.specs.States.{at_start}
use Rattle.minus.specs.Starts.{taken_all}
use Rattle.minus_commands.specs.Unmoved.{unmoved}
use Rattle.minus_commands.proofs.OutcomeLaws.{memory_or}

pub start_broken : (refusal : Refusal) (a b : Option (List ℕ)) (m n : Option ℕ) (bytes drawing : List ℕ) (terminal : Bool) (c : Control) → c.search ≡ None → 1 ≤ c.rows → bytes ≡ drawing → drawing ≡ written_all (whole_page c) → IsShowRefused refusal terminal → ShowBreaksOff refusal a b m n bytes → StartBreaksOff refusal a b m n c
start_broken (at_setup cause) a b m n bytes drawing terminal c closed some e g r h = h
start_broken at_drawing a b m n bytes drawing terminal c closed some e g r h = inl (whole_page c, subst (λ (x : List ℕ). DrawingBreaksOff a b m n x) (e ∙ g) h, page_draws c closed some)
start_broken refusal a b m n bytes drawing terminal c closed some e g r h = absurd h

-- what is refused at a terminal is refused of a start that can be, and not before the terminal was asked for anything
pub shown_at_start : {Q K : Type 0} (refusal : Refusal) (mode : RunMode) (cols rows : ℕ) (waiting : List (Wanted Q K)) (terminal : Bool) → CanBegin mode cols rows waiting → IsShowRefused refusal terminal → IsStartRefused refusal mode cols rows waiting terminal × (IsEarly refusal → ⊥)
shown_at_start (at_setup cause) mode cols rows waiting terminal can h = ((can, h), λ early. early)
shown_at_start at_drawing mode cols rows waiting terminal can h = ((can, h), λ early. early)
shown_at_start refusal mode cols rows waiting terminal can h = absurd h

-- the cleanup, whatever came of it
pub cleaned_up : (r : Result (Unit {0}) CleanupError) (a b : Option (List ℕ)) (m n : Option ℕ) → OnOk r (Appends a b cleanup_bytes) → OnOk r (Stays m n) → AppendsFront a b cleanup_bytes → OnErr r (Rises m n) → CleansUp a b m n
cleaned_up (Ok x) a b m n whole stays front rises = inl (whole, stays)
cleaned_up (Err e) a b m n whole stays front rises = inr (front, rises)

-- calls of which one was refused, after calls that were not
pub Stays-rises : (a b c : Option ℕ) → Stays a b → Rises b c → Rises a c
Stays-rises None None None p q = tt
Stays-rises None None (Some n) p q = absurd q
Stays-rises None (Some m) c p q = absurd p
Stays-rises (Some k) None None p q = tt
Stays-rises (Some k) None (Some n) p q = absurd q
Stays-rises (Some k) (Some m) None p q = tt
Stays-rises (Some k) (Some m) (Some n) p q = omega (arith, p, q)

Rises-stays : (a b c : Option ℕ) → Rises a b → Stays b c → Rises a c
Rises-stays None None None p q = tt
Rises-stays None None (Some n) p q = absurd q
Rises-stays None (Some m) c p q = absurd p
Rises-stays (Some k) None None p q = tt
Rises-stays (Some k) None (Some n) p q = absurd q
Rises-stays (Some k) (Some m) None p q = tt
Rises-stays (Some k) (Some m) (Some n) p q = omega (arith, p, q)

Rises-rises : (a b c : Option ℕ) → Rises a b → Rises b c → Rises a c
Rises-rises None None None p q = tt
Rises-rises None None (Some n) p q = absurd q
Rises-rises None (Some m) c p q = absurd p
Rises-rises (Some k) None None p q = tt
Rises-rises (Some k) None (Some n) p q = absurd q
Rises-rises (Some k) (Some m) None p q = tt
Rises-rises (Some k) (Some m) (Some n) p q = omega (arith, p, q)

-- no call, no refusal
pub Stays-refl : (a : Option ℕ) → Stays a a
Stays-refl None = tt
Stays-refl (Some n) = refl

-- what is no fault of any command is none of the first
no_first : {Q K : Type 0} (refusal : Refusal) (ids : List HookId) (ws : List (Wanted Q K)) → ((ids : List HookId) (w : Wanted Q K) → IsFaultBeside ids refusal w → ⊥) → IsFirstFault refusal ids ws → ⊥
no_first refusal ids [] none h = h
no_first refusal ids (w ∷ ws) none h = elim h [ inl fault ↦ none ids w fault | inr later ↦ no_first refusal (ids_after ids (handed w)) ws none later.2 ]

-- when what a start needs is not formed, the start is refused early, and nothing was written
form_refused : {Q K : Type 0} (refusal : Refusal) (mode : RunMode) (cols rows : ℕ) (waiting : List (Wanted Q K)) (terminal : Bool) (bytes : Option (List ℕ)) (count : Option ℕ) (first : Control) → IsFormRefused refusal mode cols rows waiting →
    IsStartRefused refusal mode cols rows waiting terminal × IsEarly refusal × StartBreaksOff refusal bytes bytes count count first × (IsStartFault refusal → ⊥)
form_refused (at_setup cause) mode cols rows waiting terminal bytes count first h = elim h [ inl cannot ↦ absurd cannot | inr later ↦ absurd (no_first (at_setup cause) [] waiting (λ ids w f. f) later.1) ]
form_refused at_drawing mode cols rows waiting terminal bytes count first h = elim h [ inl cannot ↦ absurd cannot | inr later ↦ absurd (no_first at_drawing [] waiting (λ ids w f. f) later.1) ]
form_refused refusal mode cols rows waiting terminal bytes count first h = (h, tt, refl, λ fault. fault)

pub form_is_early : {Q K : Type 0} (refusal : Refusal) (cols rows : ℕ) (waiting : List (Wanted Q K)) → IsFormRefused refusal Static cols rows waiting → IsEarly refusal
form_is_early refusal cols rows waiting h = (form_refused refusal Static cols rows waiting true None None (first_control cols rows waiting) h).1

-- a start that was refused before its sink was asked for anything: the pager and the sink come back as they were
pub refused_early : {S P H E Q K : Type 0} (seen : S → SinkSeen) (pager : PagerOf P H E Q K) (mode : RunMode) (cols rows : ℕ) (sink : S) (cause : MinusError) → IsFormRefused (refusal_of cause) mode cols rows (map wanted_of pager.queue.items) →
    IsRefusedStart seen pager mode cols rows sink (record { sink = sink; pager = Some pager; cause = cause })
refused_early seen pager mode cols rows sink cause h =
    let waiting = map wanted_of pager.queue.items in
    let at = form_refused (refusal_of cause) mode cols rows waiting (seen sink).terminal (seen sink).bytes (seen sink).refusals (first_control cols rows waiting) h in
    record {
      refused = at.0;
      returned = λ early. refl;
      gone = λ late. absurd (late at.1);
      broken = at.2;
      rises = λ fault. absurd (at.3 fault);
      untouched = λ none. refl;
    }

pub refused_with : {S P H E Q K : Type 0} (seen : S → SinkSeen) (pager : PagerOf P H E Q K) (mode : RunMode) (cols rows : ℕ) (sink : S) (cause : MinusError) (e : StartErrorOf S P H E Q K) → e.sink ≡ sink → e.pager ≡ Some pager → e.cause ≡ cause
    → IsFormRefused (refusal_of cause) mode cols rows (map wanted_of pager.queue.items) → IsRefusedStart seen pager mode cols rows sink e
refused_with {S = S} {P = P} {H = H} {E = E} {Q = Q} {K = K} seen pager mode cols rows sink cause e same back why h =
    let is : e ≡ record { sink = sink; pager = Some pager; cause = cause } =
    ap (λ (s : S). let r : StartErrorOf S P H E Q K = record { sink = s; pager = e.pager; cause = e.cause } in r) same
    ∙ ap (λ (p : Option (PagerOf P H E Q K)). let r : StartErrorOf S P H E Q K = record { sink = sink; pager = p; cause = e.cause } in r) back
    ∙ ap (λ (c : MinusError). let r : StartErrorOf S P H E Q K = record { sink = sink; pager = Some pager; cause = c } in r) why in
    subst (IsRefusedStart seen pager mode cols rows sink) (sym is) (refused_early seen pager mode cols rows sink cause h)

-- one that cannot be begun, or for which no register of the default bindings is formed
pub cannot_start : {Q K : Type 0} (refusal : Refusal) (mode : RunMode) (cols rows : ℕ) (waiting : List (Wanted Q K)) → CannotStart refusal mode cols rows → IsFormRefused refusal mode cols rows waiting
cannot_start for_pattern mode cols rows waiting h = absurd h
cannot_start refusal mode cols rows waiting h = inl h

pub unregistered : {Q K : Type 0} (refusal : Refusal) (mode : RunMode) (cols rows : ℕ) (waiting : List (Wanted Q K)) → IsUnregistered refusal mode cols rows → IsFormRefused refusal mode cols rows waiting
unregistered for_memory mode cols rows waiting h = inr (h, tt)
unregistered for_pattern mode cols rows waiting h = absurd h
unregistered refusal mode cols rows waiting h = inl h

-- one whose commands cannot be read in
pub untaken : {Q K : Type 0} (refusal : Refusal) (mode : RunMode) (cols rows : ℕ) (waiting : List (Wanted Q K)) → CanStart mode cols rows → IsUntaken refusal [] waiting → IsFormRefused refusal mode cols rows waiting
untaken for_pattern mode cols rows waiting can h = absurd (no_first for_pattern [] waiting (λ ids w f. f) h)
untaken refusal mode cols rows waiting can h = inr (can, h)

-- a start with a classifier of the session's own at first
pub first_start : {S P H E Q K F : Type 0} (IsFirst : K → Type 0) (seen : S → SinkSeen) (pager : PagerOf P H E Q K) (mode : RunMode) (cols rows : ℕ) (sink : S) (classifier : K) (r : Result (Core S P H E Q K) F) → IsFirst classifier →
    IfOk r (λ s. IsStart seen pager mode cols rows classifier sink s) → IfOk r (λ s. IsFirstStart IsFirst seen pager mode cols rows sink s)
first_start IsFirst seen pager mode cols rows sink classifier (Ok s) first start = record { classifier = classifier; first = first; start = start }
first_start IsFirst seen pager mode cols rows sink classifier (Err e) first start = tt

-- where no first state is formed, though its commands can be read in
pub unformed_refused : {Q K : Type 0} (refusal : Refusal) (mode : RunMode) (cols rows : ℕ) (waiting : List (Wanted Q K)) → CanBegin mode cols rows waiting → IsUnformedState refusal cols rows → IsFormRefused refusal mode cols rows waiting
unformed_refused for_memory mode cols rows waiting can h = inr (can.can, tt)
unformed_refused for_pattern mode cols rows waiting can h = can
unformed_refused (for_size x y) mode cols rows waiting can h = inl (can.can.runs, h.0, h.1, h.2)
unformed_refused refusal mode cols rows waiting can h = absurd h

-- ---- the commands that wait

-- one that cannot be read in is the first of those that begin with it
pub untaken_here : {Q K : Type 0} (refusal : Refusal) (ids : List HookId) (w : Wanted Q K) (ws : List (Wanted Q K)) → IsUnchecked refusal ids w → IsUntaken refusal ids (w ∷ ws)
untaken_here for_memory ids w ws h = tt
untaken_here refusal ids w ws h = inl h

-- or of those that it follows, where it is read in
pub untaken_later : {Q K : Type 0} (refusal : Refusal) (ids : List HookId) (w : Wanted Q K) (ws : List (Wanted Q K)) → IsPossible w → IsFreeFor ids (handed w) → IsUntaken refusal (ids_after ids (handed w)) ws → IsUntaken refusal ids (w ∷ ws)
untaken_later refusal ids w ws possible free h = memory_or {A = λ (r : Refusal). IsFirstFault r (ids_after ids (handed w)) ws} {B = λ (r : Refusal). IsFirstFault r ids (w ∷ ws)} refusal (λ r fault. inr (possible, free, fault)) h

-- a page that was drawn whole on a sink, or a beginning of it
pub redrawn : (a b : Option (List ℕ)) (bytes : List ℕ) (c : Control) → c.search ≡ None → 1 ≤ c.rows → bytes ≡ written_all (whole_page c) → Appends a b bytes → Redraws a b c
redrawn a b bytes c closed some e h = (whole_page c, subst (λ (x : List ℕ). Appends a b x) e h, page_draws c closed some)

pub redraw_broken : (a b : Option (List ℕ)) (bytes : List ℕ) (c : Control) → c.search ≡ None → 1 ≤ c.rows → bytes ≡ written_all (whole_page c) → AppendsFront a b bytes → RedrawBreaksOff a b c
redraw_broken a b bytes c closed some e h = (whole_page c, subst (λ (x : List ℕ). AppendsFront a b x) e h, page_draws c closed some)

-- it stands at the end of the sink's bytes
pub redraw_leaves : ExchangeLeavesItsPage
redraw_leaves bytes None c h = absurd h.1
redraw_leaves bytes (Some new) c h = (bytes, h.0, h.1, h.2.whole)

-- ---- the first move

-- it is drawn by its operations
pub move_drawn : (c : Control) → c.search ≡ None → IsClamped c → 1 ≤ c.rows → IsDrawing (move_ops c) c (first_move c ∷ []) (first_move c).left
move_drawn c closed h some = shape_draws {Q = Unit {0}} {K = Unit {0}} c false (moves c.settings c.search_mark (Some (first_mark c))) tt closed h some some

-- the first page, and what is drawn over it
pub page_and_move : (a mid b : Option (List ℕ)) (page movement : List ℕ) (c : Control) → c.search ≡ None → IsClamped c → 1 ≤ c.rows → page ≡ written_all (whole_page c) → movement ≡ written_all (move_ops c) → Appends a mid (setup_bytes ++ page) → Appends mid b movement → BeginsAndMoves a b c
page_and_move a mid b page movement c closed h some e g shown moved = (mid, first_drawn a mid page page c closed some refl e shown, (move_ops c, subst (λ (x : List ℕ). Appends mid b x) g moved, move_drawn c closed h some))

-- where that is refused, something of it was to be drawn
pub move_refused : (refusal : Refusal) (terminal : Bool) (a mid b : Option (List ℕ)) (l m n : Option ℕ) (page movement : List ℕ) (c : Control) → refusal ≡ at_drawing → terminal ≡ true → c.search ≡ None → IsClamped c → 1 ≤ c.rows → page ≡ written_all (whole_page c) → movement ≡ written_all (move_ops c)
    → Appends a mid (setup_bytes ++ page) → Stays l m → DrawsOff mid b m n movement → 0 < length movement → IsShowRefused refusal terminal × StartBreaksOff refusal a b l n c × IsStartFault refusal
move_refused refusal terminal a mid b l m n page movement c is on closed h some e g shown stays off begun =
    let drawn = move_drawn c closed h some in
    let broken : StartBreaksOff at_drawing a b l n c = inr (record {
      page = mid;
      drawn = off.drawn;
      count = off.count;
      begins = first_drawn a mid page page c closed some refl e shown;
      begun = (move_ops c, subst (λ (x : List ℕ). AppendsFront mid off.drawn x) g off.begun, drawn, λ quiet. nothing_moved movement (g ∙ ap written_all (drawn.none quiet) ∙ written_all-nil) begun);
      refused = Stays-rises l m off.count stays off.refused;
      cleanup = off.cleanup;
    }) in (
      subst (λ (r : Refusal). IsShowRefused r terminal) (sym is) on,
      subst (λ (r : Refusal). StartBreaksOff r a b l n c) (sym is) broken,
      subst IsStartFault (sym is) tt,
    )
  where
    nothing_moved : (bytes : List ℕ) → bytes ≡ [] → 0 < length bytes → ⊥
    nothing_moved [] e l = omega (arith, l)
    nothing_moved (x ∷ xs) e l = absurd (let both : x ∷ xs ≡ [] = e in cc)

-- a refusal, and after it the cleanup
pub Rises-cleaned : (a b : Option (List ℕ)) (l m n : Option ℕ) → Rises l m → CleansUp a b m n → Rises l n
Rises-cleaned a b l m n up (inl h) = Rises-stays l m n up h.1
Rises-cleaned a b l m n up (inr h) = Rises-rises l m n up h.1

-- what a start drew stands at the end of the sink's bytes
pub start_leaves : StartLeavesItsPage
start_leaves bytes new_bytes c h =
    let page : Option (List ℕ) = h.0 in
    let w : Work = first_move c in
    leaves_more page new_bytes c w.left (w ∷ []) (c ∷ []) (λ partial. refl) (tail_there c (w.left ∷ []) w.left (head_there w.left [])) h.2 (page_leaves bytes page c h.1)

-- where the first page is refused after the setup
pub drawing_refused : (refusal : Refusal) (terminal : Bool) (a mid b : Option (List ℕ)) (l m n : Option ℕ) (drawing : List ℕ) → refusal ≡ at_drawing → terminal ≡ true → Appends a mid setup_bytes → Stays l m → DrawsOff mid b m n drawing → Rises m n
    → IsShowRefused refusal terminal × ShowBreaksOff refusal a b l n drawing × Rises l n × IsStartFault refusal
drawing_refused refusal terminal a mid b l m n drawing is on setup stays off rises =
    let broken : DrawingBreaksOff a b l n drawing = record { set_up = mid; drawn = off.drawn; count = off.count; setup = setup; begun = off.begun; refused = Stays-rises l m off.count stays off.refused; cleanup = off.cleanup } in (
      subst (λ (r : Refusal). IsShowRefused r terminal) (sym is) on,
      subst (λ (r : Refusal). ShowBreaksOff r a b l n drawing) (sym is) broken,
      Stays-rises l m n stays rises,
      subst IsStartFault (sym is) tt,
    )

-- a sink whose setup was not refused as that of none is a terminal
pub on_terminal : {T : Type 0} {x : T} {e : SetupError} (terminal : Bool) → (terminal ≡ false → IsErrOf {T = T} {E = SetupError} (Ok x) e) → terminal ≡ true
on_terminal true h = refl
on_terminal {x = x} {e = e} false h = absurd (let wrong : Ok x ≡ Err e = h refl in cc)

-- no search prompt is open
pub none_open : {X : Type 0} (x : Option X) → is_some x ≡ false → x ≡ None
none_open None e = refl
none_open (Some x) e = absurd (let wrong : true ≡ false = e in cc)

-- what can be done is not formed only since memory runs out
has_none : {Q K X : Type 0} (w : Wanted Q K) → IsPossible w → HasNewline w → X
has_none (sets_prompt text) possible has = absurd (let wrong : false ≡ true = sym possible ∙ has in cc)
has_none (sends_message text) possible has = absurd (let wrong : false ≡ true = sym possible ∙ has in cc)
has_none w possible has = absurd has

pub possible_memory : {Q K : Type 0} (refusal : Refusal) (w : Wanted Q K) → IsPossible w → IsUnformed refusal w → refusal ≡ for_memory
possible_memory for_memory w possible h = refl
possible_memory for_newline w possible h = has_none w possible h
possible_memory (for_size cols rows) w possible h = absurd (h.1 (subst IsPossible h.0 possible))
possible_memory refusal w possible h = absurd h

-- each leaves the mark clamped
taken_clamped : {Q K : Type 0} (c : Control) (ws : List (Wanted Q K)) → IsClamped c → IsClamped (taken_all c ws)
taken_clamped c [] h = h
taken_clamped c (w ∷ ws) h = taken_clamped (unmoved c w) ws (let k : Control = (effect_of c w).changed in let m : min k.mark (top k) ≤ top k = omega arith in m)

pub first_is_clamped : {Q K : Type 0} (cols rows : ℕ) (ws : List (Wanted Q K)) (c : Control) → c ≡ first_control cols rows ws → IsClamped c
first_is_clamped cols rows ws c e = subst IsClamped (sym e) (taken_clamped (at_start cols rows) ws (omega arith))

-- a start opens no search prompt
taken_search : {Q K : Type 0} (c : Control) (ws : List (Wanted Q K)) → (taken_all c ws).search ≡ c.search
taken_search c [] = refl
taken_search c (w ∷ ws) = taken_search (unmoved c w) ws

pub first_search : {Q K : Type 0} (cols rows : ℕ) (waiting : List (Wanted Q K)) → (first_control cols rows waiting).search ≡ None
first_search cols rows waiting = taken_search (at_start cols rows) waiting
