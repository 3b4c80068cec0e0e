-- Stored rows one below another.
use Rattle.std.proofs.Common.{◌≡◌, ℕ, ◌+◌, ◌<◌, ◌≤◌, nat_lt, List, [], ◌++◌, get_or, length, take, Option, None, Some, Bool, false, slice_get, map, option_map, Result, Ok, Err, IfOk, IfErr, inl, inr, refl, sym, ap, subst, ◌∙◌, arith}
use Rattle.std.specs.List.{flat_map}
use Rattle.std.proofs.lemmas.List.{take_more, take_all, length-map}
use Rattle.std.proofs.lemmas.Bool.{le-ltb}
use Rattle.std.proofs.lemmas.Option.{get_or_from_slice_get, slice_get-get_or, slice_get-map}
use Rattle.minus_term.specs.FullRedraw.{row_ops}
use Rattle.minus_term.specs.Written.{written_all}
use Rattle.minus_term.proofs.WrittenLaws.{written_all-nil}
use Rattle.minus_text.specs.Document.{Document}
use Rattle.minus_text.specs.Found.{found_of_row}
use Rattle.minus_text.specs.Finds.{finds}
use Rattle.minus_text.specs.Searched.{Searched, IsStoredRow, IsFoundAt, stored_rows_for}
use Rattle.minus_text.proofs.SearchedLaws.{length-stored_for}
use Rattle.minus_state.specs.Control.{Control, document_of, text_rows}
use Rattle.minus_state.specs.declared.state.PagerState.{PagerState}
use Rattle.minus_state.specs.States.{control_of, term_of, IsFormed}
use Rattle.minus_state.specs.ShownRow.{ended_in}
use Rattle.minus_state.proofs.AppendLaws.{document_is}
use Rattle.minus_term.specs.Counts.{SinkSeen}
use Rattle.minus_term.specs.Refusals.{refusal_of}
use Rattle.minus_state.specs.declared.state.RunMode.TheVariants.{Static}
use Rattle.minus.specs.declared.init.StartErrorOf.{StartErrorOf}
use Rattle.minus_commands.specs.declared.pager.PagerOf.{PagerOf}
use Rattle.minus_commands.specs.declared.parts.PartsOf.{PartsOf}
use Rattle.minus.specs.declared.static_pager.PagedOf.{PagedOf}
use Rattle.minus.specs.declared.static_pager.PagedOf.TheVariants.{Written, Started}
use Rattle.minus_commands.specs.Registration.{Kept}
use Rattle.minus_commands.specs.Reads.{kept_of, wanted_of}
use Rattle.minus.specs.Starts.{first_control, CanBegin, IsFormRefused}
use Rattle.minus_commands.specs.WaitingRegistrations.{kept_taken}
use Rattle.minus.specs.StaticPager.{ended_rows, rows_that_fit, printed, printed_of, IsWritten, IsUnwritten, IsShownAll, IsNotShownAll, IsPaged, IsFirstPaged, IsUnpaged}
use Rattle.minus.proofs.BeginLaws.{IsPrepared, begun, not_begun, if_ok, if_err}
use Rattle.minus.proofs.StartLaws.{refused_with, form_is_early}
use Rattle.minus_draw.proofs.DrawingLaws.{row_added}

-- a stored row of a formed state
found_at : (s : PagerState) (i : ℕ) → IsFormed s → IsFoundAt (term_of s) s.screen i
found_at s i formed = ap (λ (x : Searched). found_of_row i x.found) formed.screen ∙ sym (ap (λ (d : Document). found_of_row i (finds (term_of s) d)) (document_is s formed))

-- and it ended where styles are carried
pub ended_at : (s : PagerState) (i : ℕ) (row : Option (List ℕ)) → IsFormed s → IsStoredRow s.screen i row → option_map (ended_in (document_of (control_of s))) row ≡ slice_get (ended_rows (control_of s)) i
ended_at s i row formed h =
    let d : Document = document_of (control_of s) in
    ap (option_map (ended_in d)) (h (term_of s) (found_at s i formed) ∙ ap (λ (e : Document). slice_get (stored_rows_for (term_of s) e) i) (document_is s formed))
    ∙ sym (slice_get-map (ended_in d) (stored_rows_for (term_of s) d) i)

pub printed_is : (c : Control) (i : ℕ) (row : Option (List ℕ)) (text : List ℕ) → row ≡ slice_get (ended_rows c) i → row ≡ Some text → text ≡ get_or (ended_rows c) i []
printed_is c i row text h e = sym (get_or_from_slice_get (ended_rows c) i text [] (sym h ∙ e))

-- as many are printed as the text has
pub printed_count : (c : Control) → length (ended_rows c) ≡ length (text_rows c)
printed_count c = length-map (stored_rows_for c.term (document_of c)) (ended_in (document_of c)) ∙ length-stored_for c.term (document_of c)

pub printed_not : {X : Type 0} (c : Control) (i : ℕ) (row : Option (List ℕ)) → row ≡ slice_get (ended_rows c) i → i < length (text_rows c) → row ≡ None → X
printed_not c i row h l e =
    let n = printed_count c in
    let inside : i < length (ended_rows c) = omega (arith, l, n) in
    absurd (let both : None ≡ Some (get_or (ended_rows c) i []) = sym e ∙ h ∙ slice_get-get_or (ended_rows c) i [] inside in cc)

-- ---- one below another

pub rows_none : [] ≡ written_all (flat_map row_ops [])
rows_none = sym written_all-nil

pub rows_next : (c : Control) (i : ℕ) (before after : List ℕ) → i < length (text_rows c) → before ≡ written_all (flat_map row_ops (take i (ended_rows c))) → after ≡ before ++ written_all (row_ops (get_or (ended_rows c) i [])) → after ≡ written_all (flat_map row_ops (take (i + 1) (ended_rows c)))
rows_next c i before after l e g =
    let n = printed_count c in
    let inside : i < length (ended_rows c) = omega (arith, l, n) in
    row_added [] before after (take i (ended_rows c)) (get_or (ended_rows c) i []) e g ∙ ap (λ rs. written_all (flat_map row_ops rs)) (sym (take_more (ended_rows c) i [] inside))

-- all of them, where they fit
pub rows_fit : (c : Control) (count i : ℕ) (bytes : List ℕ) → count ≡ length (text_rows c) → count ≤ c.rows → count ≤ i → bytes ≡ written_all (flat_map row_ops (take i (ended_rows c))) → Some bytes ≡ rows_that_fit c
rows_fit c count i bytes is fits past e =
    let n = printed_count c in
    let all : take i (ended_rows c) ≡ ended_rows c = take_all i (ended_rows c) (omega (arith, past, is, n)) in
    let fit : nat_lt c.rows (length (text_rows c)) ≡ false = le-ltb c.rows (length (text_rows c)) (omega (arith, fits, is)) in
    rw fit (ap Some (e ∙ ap (λ rs. written_all (flat_map row_ops rs)) all))

-- ---- the result of the parts that a session would begin with

-- what a session would begin with is what the commands that waited lead to
record_same : {P H E Q K : Type 0} (pager : PagerOf P H E Q K) (cols rows : ℕ) (terminal : Bool) (first ready : PartsOf P H E Q K) → IsPrepared pager first ready → control_of first.state ≡ first_control cols rows (map wanted_of pager.queue.items) → printed terminal (control_of ready.state) (kept_of ready) ≡ printed_of pager cols rows terminal
record_same pager cols rows terminal first ready is control =
    let waiting = map wanted_of pager.queue.items in
    ap (λ (k : Control). printed terminal k (kept_of ready)) (ap control_of is.state ∙ control) ∙ ap (λ (k : Kept). printed terminal (first_control cols rows waiting) k) (is.kept ∙ ap (λ (k : Kept). kept_taken k waiting) is.kept_first)

paged_as : {S P H E Q K : Type 0} (seen : S → SinkSeen) (pager : PagerOf P H E Q K) (cols rows : ℕ) (sink : S) (first ready : PartsOf P H E Q K) (paged : PagedOf S P H E Q K) → IsPrepared pager first ready → CanBegin Static cols rows (map wanted_of pager.queue.items) → control_of first.state ≡ first_control cols rows (map wanted_of pager.queue.items) → IsShownAll seen ready sink paged
    → IsPaged seen pager cols rows first.classifier sink paged
paged_as seen pager cols rows sink first ready (Written new) is can control h = (can, subst (IsWritten seen sink new) (record_same pager cols rows (seen sink).terminal first ready is control) h)
paged_as seen pager cols rows sink first ready (Started session) is can control h =
    (sym (record_same pager cols rows (seen sink).terminal first ready is control) ∙ h.0, begun seen pager Static cols rows sink first ready session is can control h.1)

not_paged : {S P H E Q K : Type 0} (seen : S → SinkSeen) (pager : PagerOf P H E Q K) (cols rows : ℕ) (sink : S) (first ready : PartsOf P H E Q K) (e : StartErrorOf S P H E Q K) → IsPrepared pager first ready → CanBegin Static cols rows (map wanted_of pager.queue.items) → control_of first.state ≡ first_control cols rows (map wanted_of pager.queue.items) → IsNotShownAll seen ready sink e
    → IsUnpaged seen pager cols rows sink e
not_paged seen pager cols rows sink first ready e is can control (inl h) = inl (can, subst (IsUnwritten seen sink e) (record_same pager cols rows (seen sink).terminal first ready is control) h)
not_paged seen pager cols rows sink first ready e is can control (inr h) =
    inr (not_begun seen pager Static cols rows sink first ready e is can control h.1, λ late. sym (record_same pager cols rows (seen sink).terminal first ready is control) ∙ h.0)

pub pages : {S P H E Q K : Type 0} (seen : S → SinkSeen) (pager : PagerOf P H E Q K) (cols rows : ℕ) (sink : S) (classifier : K) (first ready : PartsOf P H E Q K) (r : Result (PagedOf S P H E Q K) (StartErrorOf S P H E Q K)) → IsPrepared pager first ready → first.classifier ≡ classifier → CanBegin Static cols rows (map wanted_of pager.queue.items) → control_of first.state ≡ first_control cols rows (map wanted_of pager.queue.items)
    → IfOk r (λ paged. IsShownAll seen ready sink paged) → IfOk r (λ paged. IsPaged seen pager cols rows classifier sink paged)
pages {K = K} seen pager cols rows sink classifier first ready r is same can control = if_ok r (λ paged h. subst (λ (k : K). IsPaged seen pager cols rows k sink paged) same (paged_as seen pager cols rows sink first ready paged is can control h))

pub pages_not : {S P H E Q K : Type 0} (seen : S → SinkSeen) (pager : PagerOf P H E Q K) (cols rows : ℕ) (sink : S) (first ready : PartsOf P H E Q K) (r : Result (PagedOf S P H E Q K) (StartErrorOf S P H E Q K)) → IsPrepared pager first ready → CanBegin Static cols rows (map wanted_of pager.queue.items) → control_of first.state ≡ first_control cols rows (map wanted_of pager.queue.items)
    → IfErr r (λ e. IsNotShownAll seen ready sink e) → IfErr r (λ e. IsUnpaged seen pager cols rows sink e)
pages_not seen pager cols rows sink first ready r is can control = if_err r (λ e h. not_paged seen pager cols rows sink first ready e is can control h)

-- refused early, before anything was written
pub unpaged_early : {S P H E Q K : Type 0} (seen : S → SinkSeen) (pager : PagerOf P H E Q K) (cols rows : ℕ) (sink : S) (e : StartErrorOf S P H E Q K) → e.sink ≡ sink → e.pager ≡ Some pager → IsFormRefused (refusal_of e.cause) Static cols rows (map wanted_of pager.queue.items) → IsUnpaged seen pager cols rows sink e
unpaged_early seen pager cols rows sink e same back h =
    let early = form_is_early (refusal_of e.cause) cols rows (map wanted_of pager.queue.items) h in
    inr (refused_with seen pager Static cols rows sink e.cause e same back refl h, λ late. absurd (late early))

-- with a classifier of the session's own at first
pub first_paged : {S P H E Q K F : Type 0} (IsFirst : K → Type 0) (seen : S → SinkSeen) (pager : PagerOf P H E Q K) (cols rows : ℕ) (sink : S) (classifier : K) (r : Result (PagedOf S P H E Q K) F) → IsFirst classifier → IfOk r (λ paged. IsPaged seen pager cols rows classifier sink paged) → IfOk r (λ paged. IsFirstPaged IsFirst seen pager cols rows sink paged)
first_paged IsFirst seen pager cols rows sink classifier (Ok paged) first h = record { classifier = classifier; first = first; is = h }
first_paged IsFirst seen pager cols rows sink classifier (Err e) first h = tt
