-- What a command leaves that does not exit, and lines that are pushed one after another.
use Rattle.std.proofs.Common.{◌≡◌, ℕ, ◌+◌, ◌<◌, ◌++◌, min, List, take, map, length, get_or, flat_map, true, false, Bool, Option, None, Some, [], ◌∷◌, refl, sym, ap, subst, ◌∙◌, arith}
use Rattle.std.proofs.Math.Nat.{min-eq_left}
use Rattle.std.proofs.lemmas.List.{map_more, flat_map_more}
use Rattle.minus_term.specs.Refusals.{Refusal}
use Rattle.minus.specs.Says.{Says}
use Rattle.minus_state.specs.Control.{Control, Saved}
use Rattle.minus_state.specs.ClampedMark.{top}
use Rattle.minus.specs.declared.answer.Answer.{Answer}
use Rattle.minus.specs.Asked.{Asks}
use Rattle.minus_commands.specs.Reads.{Told, a_command}
use Rattle.minus.specs.Seen.{Seen}
use Rattle.minus.specs.Steps.{IsStep, Ends}
use Rattle.minus_commands.specs.Registration.{Exit}
use Rattle.minus_commands.specs.Table.{Wanted, appends_data, follows, effect_of, changed_by}
use Rattle.minus_draw.specs.Drawn.{Work}
use Rattle.minus.specs.Works.{after, Takes, worked, waited, Exits, Comes, at_once, later}
use Rattle.minus.specs.Waiting.{IsReady}
use Rattle.minus.proofs.WorksLaws.{alone_lem}
use Rattle.minus_callers.specs.Fetcher.{TakesText}
use Rattle.minus_callers.specs.Follower.{Follows, ended}

-- a command that asks for itself alone
abbrev AsksAlone : {Q K : Type 0} → Says Q K → Seen Q K → Wanted Q K → Type 0
AsksAlone says old asked = (w : Wanted _ _) → Asks says old (a_command asked) w → w ≡ asked

-- what is performed alone leaves what the table says of it
worked_so : {Q K : Type 0} (says : Says Q K) (old new : Seen Q K) (asked : Wanted Q K) (work : Work) (copied : Option (List ℕ)) → AsksAlone says old asked → IsReady old → Takes says old (a_command asked) work copied new → new ≡ after false old asked
worked_so says old new asked work copied alone ready (worked w closed asks possible free on) = ap (λ (x : Wanted _ _). after false old x) (alone w asks)
worked_so says old new asked work copied alone ready (waited o w searching wants possible) = absurd (let both : None ≡ Some o = sym ready.closed ∙ searching in cc)

ends_so : {Q K : Type 0} (says : Says Q K) (old new : Seen Q K) (asked : Wanted Q K) (exit : Option Exit) (works : List Work) (refused : List Refusal) (copied : Option (List ℕ)) (last : Seen Q K)
    → AsksAlone says old asked → IsReady old → (effect_of old.control asked).is_exit ≡ false → Ends says exit old (a_command asked) works refused copied last new → new ≡ after false old asked
ends_so says old new asked None works refused copied last alone ready stays (all, rests, is) =
    let (work, one, none, takes) = alone_lem says old last (a_command asked) works refused copied ready all in
    is ∙ worked_so says old last asked work copied alone ready takes
ends_so {Q = Q} {K = K} says old new asked (Some exit) works refused copied last alone ready stays (next, exits, comes, is) = exited_so last next works refused copied comes exits
  where
    exited_so : (l : Seen Q K) (n : Told Q K) (ws : List Work) (rs : List Refusal) (t : Option (List ℕ)) → Comes says old (a_command asked) ws rs t l n → Exits says l n exit → new ≡ after false old asked
    exited_so l n ws rs t at_once x =
        let exited : false ≡ true = sym stays ∙ ap (λ (w : Wanted Q K). (effect_of old.control w).is_exit) (sym (alone x.wanted x.asked)) ∙ x.exits in
        absurd (cc)
    exited_so l n ws rs t (later {s = s} {rest = rest} all is_next) x =
        let (work, one, none, takes) = alone_lem says old s (a_command asked) ws rs t ready all in
        let waits : [] ≡ n ∷ rest = sym ready.none_waits ∙ sym (ap (λ (k : Seen Q K). k.waiting) (worked_so says old s asked work t alone ready takes)) ∙ is_next.1 in
        absurd (cc)

-- the step leaves what the table says of it
step_leaves : {Q K : Type 0} (says : Says Q K) (old new : Seen Q K) (asked : Wanted Q K) (answer : Answer) (a b : Option (List ℕ)) → AsksAlone says old asked → IsReady old → (effect_of old.control asked).is_exit ≡ false
    → IsStep says old (a_command asked) new answer a b → new ≡ after false old asked
step_leaves says old new asked answer a b alone ready stays s = ends_so says old new asked s.exit s.works s.refused s.copied s.last alone ready stays s.ends

-- the mark that an append or a command to follow leaves: the clamp keeps that of the last page
top_stays : (n : ℕ) → min n n ≡ n
top_stays n = min-eq_left (omega arith)

-- where help is not open, a session that is let follow does so
pub now_follows : {Q K : Type 0} (says : Says Q K) (old new : Seen Q K) (answer : Answer) (a b : Option (List ℕ)) → IsStep says old (a_command (follows true)) new answer a b → old.control.help ≡ None → IsReady old → Follows old.control.text new
now_follows says old new answer a b s closed ready =
    subst (λ (seen : Seen _ _). Follows old.control.text seen) (sym (step_leaves says old new (follows true) answer a b (λ w asks. asks) ready refl s))
    (record { shows = refl; last_page = top_stays (top old.control); goes_on = refl; no_help = closed; ready = record { closed = ready.closed; none_waits = ready.none_waits } })

-- where help is not open, a text that is added is displayed behind the one before
pub adds_text : {Q K : Type 0} (says : Says Q K) (old new : Seen Q K) (answer : Answer) (a b : Option (List ℕ)) (more : List ℕ) → IsStep says old (a_command (appends_data more)) new answer a b → TakesText old → new.control.text ≡ old.control.text ++ more
adds_text says old new answer a b more s t =
    let c : Control = old.control in
    let closed : Control = record c { help = None } in
    let is : closed ≡ c = ap (λ (help : Option Saved). let k : Control = record c { help = help } in k) (sym t.no_help) in
    ap (λ (s : Seen _ _). s.control.text) (step_leaves says old new (appends_data more) answer a b (λ w asks. asks) t.ready refl s)
    ∙ ap (λ (k : Control). (changed_by (effect_of {Q = Unit {0}} {K = Unit {0}} k (appends_data more))).text) (sym is)

-- a control whose text is followed
abbrev following : Control → Control
following c = record c { help = None; settings = record c.settings { follow = true } }

is_following : (c : Control) → c.help ≡ None → c.settings.follow ≡ true → following c ≡ c
is_following c closed goes_on =
    ap (λ (help : Option Saved). let k : Control = record c { help = help; settings = record c.settings { follow = true } } in k) (sym closed)
    ∙ ap (λ (follow : Bool). let k : Control = record c { settings = record c.settings { follow = follow } } in k) (sym goes_on)

-- what an append leaves of it
appended : {Q K : Type 0} (old : Seen Q K) (more : List ℕ) → IsReady old → Follows (old.control.text ++ more) (after false (record old { control = following old.control }) (appends_data more))
appended old more ready = record { shows = refl; last_page = top_stays (top (record old.control { text = old.control.text ++ more })); goes_on = refl; no_help = refl; ready = record { closed = ready.closed; none_waits = ready.none_waits } }

-- a text that is followed is so after an append
pub still_follows : {Q K : Type 0} (says : Says Q K) (old new : Seen Q K) (answer : Answer) (a b : Option (List ℕ)) (text more : List ℕ) → IsStep says old (a_command (appends_data more)) new answer a b → Follows text old → Follows (text ++ more) new
still_follows {Q = Q} {K = K} says old new answer a b text more s f =
    let c : Control = old.control in
    subst (λ (t : List ℕ). Follows (t ++ more) new) f.shows
    (subst (λ (seen : Seen _ _). Follows (c.text ++ more) seen) (sym (step_leaves says old new (appends_data more) answer a b (λ w asks. asks) f.ready refl s))
    (subst (λ (k : Control). Follows (c.text ++ more) (after false (record old { control = k }) (appends_data more))) (is_following c f.no_help f.goes_on) (appended old more f.ready)))

-- one line more
pub one_more : {B : Type 0} (text : B → List ℕ) (before : List ℕ) (lines : List B) (i : ℕ) (d : B) → i < length lines
    → (before ++ flat_map ended (map text (take i lines))) ++ ended (text (get_or lines i d)) ≡ before ++ flat_map ended (map text (take (i + 1) lines))
one_more text before lines i d l =
    flat_map_more ended before (map text (take i lines)) (text (get_or lines i d)) ∙ ap (λ (xs : List (List ℕ)). before ++ flat_map ended xs) (sym (map_more text lines i d l))
