-- An input that waited, taken with the appends behind it.
use Rattle.std.proofs.Common.{◌≡◌, ℕ, ◌^◌, ◌<◌, true, false, List, [], ◌∷◌, ◌++◌, length, drop, Option, None, Some, refl, sym, ap, subst, ◌∙◌, append_assoc}
use Rattle.std.specs.List.{concat}
use Rattle.std.specs.Str.Lines.{lines}
use Rattle.std.proofs.Math.Seq.{drop-append_seam}
use Rattle.std.proofs.lemmas.List.{length-map}
use Rattle.minus_term.specs.Counts.{SinkSeen, Stays, Rises}
use Rattle.minus_term.specs.Operations.{Op}
use Rattle.minus_term.specs.Refusals.{Refusal, for_hook_id, for_free_hook_id, for_size, refusal_of}
use Rattle.minus_term.specs.declared.error.MinusError.{MinusError}
use Rattle.minus_state.specs.Control.{Control}
use Rattle.minus_state.specs.OpenSearches.{OpenSearch}
use Rattle.minus.specs.declared.status.Status.TheVariants as status
use Rattle.minus.specs.declared.session.Core.{Core}
use Rattle.minus.specs.declared.done.Done.{Done}
use Rattle.minus.specs.Core.{seen_of}
use Rattle.minus.specs.SessionSteps.{ending_of, IsTakenOf, IsUntakenOf, IsTakenWithOf, IsUntakenWithOf}
use Rattle.minus.specs.Asked.{Asks, clears_prefix, Wants}
use Rattle.minus_draw.specs.Drawn.{IsDrawing, Work, IsQuiet}
use Rattle.minus.specs.Joined.{appended_to, append_told, appending, MayGoWith}
use Rattle.minus_commands.specs.Reads.{Told}
use Rattle.minus.specs.Says.{Says}
use Rattle.minus.specs.Seen.{Seen}
use Rattle.minus.specs.Classes.{Class, class_of, memory, unfit, cleanup, drawing}
use Rattle.minus.specs.Steps.{Ending, goes_on, has_exited, Took, TookWith}
use Rattle.minus.specs.RefusedSteps.{Fails, FailsIn, FailsWith, FailsWithIn, IsUnfitFor}
use Rattle.minus_commands.specs.Table.{Wanted, appends_data, hands_over, resizes, effect_of, work_of}
use Rattle.minus.specs.Works.{Takes, worked, waited, edits, after, IsFaultIn, Worked, first}
use Rattle.minus.specs.Waiting.{leaving}
use Rattle.minus.proofs.LoopLaws.{unfit_closed}
use Rattle.minus.proofs.JoinedWorksLaws.{append_work, append_works, appends_worked, drawn_joined, quiet_joined}

module _ {Q K : Type 0} where
  -- what an append comes to
  abbrev IsOne : Seen Q K → List ℕ → Work → Option (List ℕ) → Seen Q K → Type 0
  IsOne m text work copied new = (work ≡ append_work m.control text) × (copied ≡ None) × (new ≡ record m { control = appended_to m.control text })

  abbrev IsOneOf : Seen Q K → List ℕ → Told Q K → Wanted Q K → Type 0
  IsOneOf m text told w = IsOne m text (work_of (clears_prefix told w) m.control w) (effect_of m.control w).copies (after (clears_prefix told w) m w)

  as_one : (says : Says Q K) (m new : Seen Q K) (told : Told Q K) (text : List ℕ) (work : Work) (copied : Option (List ℕ)) → m.control.search ≡ None → told ≡ append_told text → Takes says m told work copied new → IsOne m text work copied new
  as_one says m new told text work copied closed is (worked w none asked possible free on) =
      let asks : w ≡ appends_data text = subst (λ (t : Told Q K). Asks says m t w) is asked in
      subst (λ (t : Told Q K). IsOneOf m text t w) (sym is) (subst (λ (v : Wanted Q K). IsOneOf m text (append_told text) v) (sym asks) (refl, refl, refl))
  as_one says m new told text work copied closed is (waited o w searching wants possible) = absurd (let both : None ≡ Some o = sym closed ∙ searching in cc)
  as_one says m new told text work copied closed is (edits o searching alone state formed same found may) = absurd (let both : None ≡ Some o = sym closed ∙ searching in cc)

  -- what is left where they are performed in one go, and where they are one after another
  left_as : (m last : Seen Q K) (told : Told Q K) (joined : List ℕ) (count : ℕ) (g : MayGoWith m.control told m.waiting joined count) → last ≡ record m { control = appended_to m.control joined } → record last { waiting = g.behind } ≡ record m { control = appended_to m.control (concat (g.text ∷ g.texts)); waiting = g.behind }
  left_as m last told joined count g is = ap (λ (x : Seen Q K). let r : Seen Q K = record x { waiting = g.behind } in r) is ∙ ap (λ (t : List ℕ). let r : Seen Q K = record m { control = appended_to m.control t; waiting = g.behind } in r) g.joined_is

  worked_all : (says : Says Q K) (m : Seen Q K) (told : Told Q K) (joined : List ℕ) (count : ℕ) (g : MayGoWith m.control told m.waiting joined count) → Worked says m told (append_works m.control (g.text ∷ g.texts)) [] None (record m { control = appended_to m.control (concat (g.text ∷ g.texts)); waiting = g.behind })
  worked_all says m told joined count g =
      subst (λ (t : Told Q K). Worked says m t (append_works m.control (g.text ∷ g.texts)) [] None (record m { control = appended_to m.control (concat (g.text ∷ g.texts)); waiting = g.behind })) (sym g.told_is)
      (appends_worked says m g.text g.texts g.behind g.may g.waits)

  drawn_all : (ops : List Op) (m : Seen Q K) (new : Control) (told : Told Q K) (joined : List ℕ) (count : ℕ) (g : MayGoWith m.control told m.waiting joined count) (work : Work) → work ≡ append_work m.control joined → IsDrawing ops m.control (work ∷ []) new → IsDrawing ops m.control (append_works m.control (g.text ∷ g.texts)) new
  drawn_all ops m new told joined count g work is h =
      let one = subst (λ (w : Work). IsDrawing ops m.control (w ∷ []) new) (is ∙ ap (append_work m.control) g.joined_is) h in
      drawn_joined ops m.control new g.text g.texts g.may (λ none. subst (λ (t : List ℕ). length (lines (m.control.text ++ t)) < 2 ^ 64) g.joined_is (g.fits none)) one

  -- this many are let go
  pub dropped : (m : Seen Q K) (told : Told Q K) (joined : List ℕ) (count : ℕ) (g : MayGoWith m.control told m.waiting joined count) → drop count m.waiting ≡ g.behind
  dropped m told joined count g =
      let n : count ≡ length (appending {Q = Q} {K = K} g.texts) = g.count_is ∙ sym (length-map g.texts (λ (t : List ℕ). append_told t)) in
      ap (drop count) g.waits ∙ ap (λ (k : ℕ). drop k (appending g.texts ++ g.behind)) n ∙ drop-append_seam (appending g.texts) g.behind

  -- those that were taken with it were let go
  gone_as : (m mid new : Seen Q K) (told : Told Q K) (joined : List ℕ) (count : ℕ) (g : MayGoWith m.control told m.waiting joined count) → mid.waiting ≡ m.waiting → new ≡ leaving mid (drop count mid.waiting) → new ≡ record mid { waiting = g.behind }
  gone_as m mid new told joined count g same is = is ∙ ap (leaving mid) (ap (drop count) same ∙ dropped m told joined count g)

  -- taken
  pub took_with : (says : Says Q K) (ending : Ending) (m mid new : Seen Q K) (told : Told Q K) (joined : List ℕ) (count : ℕ) (a b : Option (List ℕ)) (g : MayGoWith m.control told m.waiting joined count) → new ≡ leaving mid (drop count mid.waiting) → Took says ending m (append_told joined) mid a b → TookWith says ending m told new a b
  took_with says (has_exited exit) m mid new told joined count a b g is h =
      let asked : h.0.wanted ≡ appends_data joined = h.0.asked in
      absurd (let both : false ≡ true = ap (λ (w : Wanted Q K). (effect_of m.control w).is_exit) (sym asked) ∙ h.0.exits in cc)
  took_with says (goes_on copied) m mid new told joined count a b g is (work, t, d) =
      let (work_is, none, mid_is) = as_one says m mid (append_told joined) joined work copied g.may.closed refl t in
      let gone = gone_as m mid new told joined count g (ap (λ (x : Seen Q K). x.waiting) mid_is) is in
      let new_is = gone ∙ left_as m mid told joined count g mid_is in
      let control : mid.control ≡ new.control = sym (ap (λ (x : Seen Q K). x.control) gone) in
      let works = append_works m.control (g.text ∷ g.texts) in (
        works,
        subst (λ (c : Option (List ℕ)). Worked says m told works [] c new) (sym none) (subst (λ (x : Seen Q K). Worked says m told works [] None x) (sym new_is) (worked_all says m told joined count g)),
        (d.0, d.1, subst (λ (c : Control). IsDrawing d.0 m.control works c) control (drawn_all d.0 m mid.control told joined count g work work_is d.2)),
      )

  -- an append can be done
  never_unfit : (refusal : Refusal) (m : Seen Q K) (joined : List ℕ) → IsFaultIn m refusal (appends_data joined) → ⊥
  never_unfit (for_size cols rows) m joined fault = let both : appends_data joined ≡ resizes cols rows = fault.0 in cc
  never_unfit (for_hook_id hook id) m joined fault = let both = fault.1.0 in cc
  never_unfit for_free_hook_id m joined fault = let both : appends_data joined ≡ hands_over fault.1.0 = fault.1.1 in cc
  never_unfit refusal m joined fault = fault

  append_possible : (says : Says Q K) (refusal : Refusal) (m : Seen Q K) (joined : List ℕ) → m.control.search ≡ None → IsUnfitFor says m (append_told joined) refusal → ⊥
  append_possible says refusal m joined closed h =
      let (wanted, wants, fault) = unfit_closed says refusal m (append_told joined) closed h in
      let asks : wanted ≡ appends_data joined = subst (λ (s : Option OpenSearch). Wants says m s (append_told joined) wanted) closed wants in
      never_unfit refusal m joined (subst (IsFaultIn m refusal) asks fault)

  -- not taken: a session that runs on has left those behind it, and one that has failed has let them go
  fails_with_in : (class : Class) (says : Says Q K) (refusal : Refusal) (m mid new : Seen Q K) (told : Told Q K) (joined : List ℕ) (count : ℕ) (a b : Option (List ℕ)) (g : MayGoWith m.control told m.waiting joined count) → m.status ≡ status.Running → (mid.status ≡ status.Running → new ≡ mid) → ((mid.status ≡ status.Running → ⊥) → new ≡ leaving mid (drop count mid.waiting)) → FailsIn class says refusal m (append_told joined) mid a b → FailsWithIn class says refusal m told new a b
  fails_with_in memory says refusal m mid new told joined count a b g runs kept gone h = (kept (ap (λ (x : Seen Q K). x.status) h.0 ∙ runs) ∙ h.0, h.1)
  fails_with_in unfit says refusal m mid new told joined count a b g runs kept gone h = absurd (append_possible says refusal m joined g.may.closed h.0)
  fails_with_in (cleanup cause) says refusal m mid new told joined count a b g runs kept gone (exit, x, broken, fails) =
      let asked : x.wanted ≡ appends_data joined = x.asked in
      absurd (let both : false ≡ true = ap (λ (w : Wanted Q K). (effect_of m.control w).is_exit) (sym asked) ∙ x.exits in cc)
  fails_with_in drawing says refusal m mid new told joined count a b g runs kept gone (work, copied, last, t, broken, fails) =
      let (work_is, none, last_is) = as_one says m last (append_told joined) joined work copied g.may.closed refl t in
      let works = append_works m.control (g.text ∷ g.texts) in
      let left : Seen Q K = record last { waiting = g.behind } in
      let never : mid.status ≡ status.Running → ⊥ = λ on. (let both : status.Failed ≡ status.Running = sym (ap (λ (x : Seen Q K). x.status) fails) ∙ on in cc) in (
        works,
        None,
        left,
        subst (λ (x : Seen Q K). Worked says m told works [] None x) (sym (left_as m last told joined count g last_is)) (worked_all says m told joined count g),
        (broken.0, broken.1, drawn_all broken.0 m last.control told joined count g work work_is broken.2, λ q. broken.3 (quiet_all work work_is q)),
        gone_as m mid new told joined count g (ap (λ (x : Seen Q K). x.waiting) fails ∙ ap (λ (x : Seen Q K). x.waiting) last_is) (gone never) ∙ ap (λ (x : Seen Q K). let r : Seen Q K = record x { waiting = g.behind } in r) fails,
      )
    where
      quiet_all : (work : Work) → work ≡ append_work m.control joined → IsQuiet m.control (append_works m.control (g.text ∷ g.texts)) → IsQuiet m.control (work ∷ [])
      quiet_all work is q =
          subst (λ (w : Work). IsQuiet m.control (w ∷ [])) (sym (is ∙ ap (append_work m.control) g.joined_is))
          (quiet_joined m.control g.text g.texts g.may (λ none. subst (λ (t : List ℕ). length (lines (m.control.text ++ t)) < 2 ^ 64) g.joined_is (g.fits none)) q)
  fails_with_in class says refusal m mid new told joined count a b g runs kept gone h = absurd h

  pub fails_with : (says : Says Q K) (refusal : Refusal) (m mid new : Seen Q K) (told : Told Q K) (joined : List ℕ) (count : ℕ) (a b : Option (List ℕ)) (g : MayGoWith m.control told m.waiting joined count) → m.status ≡ status.Running → (mid.status ≡ status.Running → new ≡ mid) → ((mid.status ≡ status.Running → ⊥) → new ≡ leaving mid (drop count mid.waiting)) → Fails says refusal m (append_told joined) mid a b → FailsWith says refusal m told new a b
  fails_with says refusal m mid new told joined count a b g runs kept gone h = fails_with_in (class_of refusal) says refusal m mid new told joined count a b g runs kept gone h

  -- more may wait behind them
  pub goes_longer : (c : Control) (told : Told Q K) (some more : List (Told Q K)) (joined : List ℕ) (count : ℕ) → MayGoWith c told some joined count → MayGoWith c told (some ++ more) joined count
  goes_longer c told some more joined count g = record {
    text = g.text;
    texts = g.texts;
    behind = g.behind ++ more;
    told_is = g.told_is;
    waits = ap (λ (ts : List (Told Q K)). ts ++ more) g.waits ∙ append_assoc (appending g.texts) g.behind more;
    joined_is = g.joined_is;
    count_is = g.count_is;
    may = g.may;
    fits = g.fits;
  }

-- one that is taken alone
pub took_alone : {Q K : Type 0} (says : Says Q K) (ending : Ending) (old : Seen Q K) (told : Told Q K) (new : Seen Q K) (a b : Option (List ℕ)) → Took says ending old told new a b → TookWith says ending old told new a b
took_alone says (goes_on copied) old told new a b (work, t, d) = (work ∷ [], first t, d)
took_alone says (has_exited exit) old told new a b h = h

alone_in : {Q K : Type 0} (class : Class) (says : Says Q K) (refusal : Refusal) (old : Seen Q K) (told : Told Q K) (new : Seen Q K) (a b : Option (List ℕ)) → FailsIn class says refusal old told new a b → FailsWithIn class says refusal old told new a b
alone_in drawing says refusal old told new a b (work, copied, last, t, broken, fails) = (work ∷ [], copied, last, first t, broken, fails)
alone_in class says refusal old told new a b h = h

pub fails_alone : {Q K : Type 0} (says : Says Q K) (refusal : Refusal) (old : Seen Q K) (told : Told Q K) (new : Seen Q K) (a b : Option (List ℕ)) → Fails says refusal old told new a b → FailsWith says refusal old told new a b
fails_alone says refusal old told new a b h = alone_in (class_of refusal) says refusal old told new a b h

-- ---- sessions

pub taken_joined : {S P H E Q K : Type 0} (sink : S → SinkSeen) (says : Says Q K) (old mid new : Core S P H E Q K) (told : Told Q K) (joined : List ℕ) (count : ℕ) (of : Done) → MayGoWith (seen_of old).control told (seen_of old).waiting joined count → seen_of new ≡ leaving (seen_of mid) (drop count (seen_of mid).waiting) → new.sink ≡ mid.sink → IsTakenOf sink says old (append_told joined) mid of
    → IsTakenWithOf sink says old told new of
taken_joined sink says old mid new told joined count of g gone same h =
    let took = took_with says (ending_of of) (seen_of old) (seen_of mid) (seen_of new) told joined count (sink old.sink).bytes (sink mid.sink).bytes g gone h.took in
    record {
      took = subst (λ (b : Option (List ℕ)). TookWith says (ending_of of) (seen_of old) told (seen_of new) (sink old.sink).bytes b) (sym (ap (λ x. (sink x).bytes) same)) took;
      stays = subst (λ (n : Option ℕ). Stays (sink old.sink).refusals n) (sym (ap (λ x. (sink x).refusals) same)) h.stays;
    }

-- the session has failed
pub untaken_gone : {S P H E Q K : Type 0} (sink : S → SinkSeen) (says : Says Q K) (old mid new : Core S P H E Q K) (told : Told Q K) (joined : List ℕ) (count : ℕ) (e : MinusError) → MayGoWith (seen_of old).control told (seen_of old).waiting joined count → (seen_of old).status ≡ status.Running → ((seen_of mid).status ≡ status.Running → ⊥) → seen_of new ≡ leaving (seen_of mid) (drop count (seen_of mid).waiting) → new.sink ≡ mid.sink → IsUntakenOf sink says old (append_told joined) mid e
    → IsUntakenWithOf sink says old told new e
untaken_gone sink says old mid new told joined count e g runs failed gone same h =
    let fails = fails_with says (refusal_of e) (seen_of old) (seen_of mid) (seen_of new) told joined count (sink old.sink).bytes (sink mid.sink).bytes g runs (λ on. absurd (failed on)) (λ off. gone) h.fails in
    record {
      fails = subst (λ (b : Option (List ℕ)). FailsWith says (refusal_of e) (seen_of old) told (seen_of new) (sink old.sink).bytes b) (sym (ap (λ x. (sink x).bytes) same)) fails;
      rises = λ fault. subst (λ (n : Option ℕ). Rises (sink old.sink).refusals n) (sym (ap (λ x. (sink x).refusals) same)) (h.rises fault);
      untouched = λ well. same ∙ h.untouched well;
    }

-- it runs on
pub untaken_kept : {S P H E Q K : Type 0} (sink : S → SinkSeen) (says : Says Q K) (old new : Core S P H E Q K) (told : Told Q K) (joined : List ℕ) (count : ℕ) (e : MinusError) → MayGoWith (seen_of old).control told (seen_of old).waiting joined count → (seen_of old).status ≡ status.Running → (seen_of new).status ≡ status.Running → IsUntakenOf sink says old (append_told joined) new e
    → IsUntakenWithOf sink says old told new e
untaken_kept sink says old new told joined count e g runs on h = record {
  fails = fails_with says (refusal_of e) (seen_of old) (seen_of new) (seen_of new) told joined count (sink old.sink).bytes (sink new.sink).bytes g runs (λ again. refl) (λ off. absurd (off on)) h.fails;
  rises = h.rises;
  untouched = h.untouched;
}
