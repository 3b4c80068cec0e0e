-- Neighbouring appends in one go.
use Rattle.std.proofs.Common.{◌≡◌, ℕ, min, List, [], ◌∷◌, ◌++◌, map, Option, None, Some, refl, sym, ap, ap₂, ◌∙◌, arith, append_assoc, inl, inr}
use Rattle.std.specs.List.{concat}
use Rattle.std.proofs.lemmas.Bool.{cases_Bool}
use Rattle.std.proofs.lemmas.List.{append-nil, map-append}
use Rattle.std.proofs.lemmas.List.Folds.{concat-append}
use Rattle.minus_state.specs.declared.hooks.HookId.{HookId}
use Rattle.minus_state.specs.Appending.{search_mark_behind, with_more, keeps_rows_with}
use Rattle.minus_state.specs.Control.{Control, Saved}
use Rattle.minus_state.specs.ClampedMark.{clamp, top}
use Rattle.minus.specs.Starts.{taken_all}
use Rattle.minus_commands.specs.WaitingRegistrations.{CanTakeAll}
use Rattle.minus_commands.specs.Table.{Wanted, appends_data}
use Rattle.minus_commands.specs.Unmoved.{unmoved}
use Rattle.minus.specs.Joined.{appends, MayJoin, AppendsJoin, AreJoined}

-- what an append leaves where nothing is searched for and the page stays at its first row
abbrev pub longer : Control → List ℕ → Control
longer c text = record c { text = c.text ++ text; search_mark = 0 }

-- what it leaves while help is open
abbrev longer_aside : Control → Saved → List ℕ → Control
longer_aside c saved text = record c { mark = min c.mark (top c); help = Some (let s : Saved = record saved { text = saved.text ++ text } in s) }

no_match : (c : Control) (text : List ℕ) → c.term ≡ None → search_mark_behind c text ≡ 0
no_match c text e = elim (cases_Bool (keeps_rows_with c text)) [
  | inl t ↦ rw (t, e) (omega arith)
  | inr f ↦ rw (f, e) refl
]

-- what an append leaves, whatever callbacks are
abbrev pub left_by : Control → List ℕ → Control
left_by c text = record (clamp (with_more c text)) { search = c.search }

pub on_show : (c : Control) (text : List ℕ) → c.help ≡ None → c.mark ≡ 0 → c.term ≡ None → left_by c text ≡ longer c text
on_show c text h m t =
    let mark : min c.mark (top (record c { text = c.text ++ text })) ≡ c.mark = omega (arith, m) in
    let none : search_mark_behind c text ≡ 0 = no_match c text t in
    rw (h, mark, none) refl

pub put_aside : (c : Control) (saved : Saved) (text : List ℕ) → c.help ≡ Some saved → left_by c text ≡ longer_aside c saved text
put_aside c saved text h = rw h refl

-- two of them
pub twice : (c : Control) (a b : List ℕ) (h : Option Saved) → c.help ≡ h → MayJoin c → left_by (left_by c a) b ≡ left_by c (a ++ b)
twice c a b None h may =
    let at = may h in
    let next : Control = longer c a in
    ap (λ x. left_by x b) (on_show c a h at.0 at.1) ∙ on_show next b h at.0 at.1
    ∙ ap (λ text. let r : Control = record c { text = text; search_mark = 0 } in r) (append_assoc c.text a b)
    ∙ sym (on_show c (a ++ b) h at.0 at.1)
twice c a b (Some saved) h may =
    let next : Control = longer_aside c saved a in
    let aside : Saved = record saved { text = saved.text ++ a } in
    let low : min (min c.mark (top c)) (top c) ≡ min c.mark (top c) = omega arith in
    ap (λ x. left_by x b) (put_aside c saved a h) ∙ put_aside next aside b refl
    ∙ ap₂ (λ (mark : ℕ) (text : List ℕ). let r : Control = record c { mark = mark; help = Some (let s : Saved = record saved { text = text } in s) } in r) low (append_assoc saved.text a b)
    ∙ sym (put_aside c saved (a ++ b) h)

pub still : (c : Control) (text : List ℕ) (h : Option Saved) → c.help ≡ h → MayJoin c → MayJoin (left_by c text)
still c text None h may = λ none. let at = may h in (omega (arith, at.0), at.1)
still c text (Some saved) h may = λ none. absurd (let shown : Some (let s : Saved = record saved { text = saved.text ++ text } in s) ≡ None = sym (ap (λ (x : Control). x.help) (put_aside c saved text h)) ∙ none in cc)

pub appends_join_lem : (Q K : Type 0) → AppendsJoin Q K
appends_join_lem Q K c [] may some = absurd (omega arith)
appends_join_lem Q K c (text ∷ []) may some = ap (left_by c) (sym (append-nil text))
appends_join_lem Q K c (text ∷ next ∷ texts) may some =
    appends_join_lem Q K (left_by c text) (next ∷ texts) (still c text c.help refl may) (omega arith) ∙ twice c text (concat (next ∷ texts)) c.help refl may

module _ {Q K : Type 0} where
  taken_behind : (c : Control) (ws vs : List (Wanted Q K)) → taken_all c (ws ++ vs) ≡ taken_all (taken_all c ws) vs
  taken_behind c [] vs = refl
  taken_behind c (w ∷ ws) vs = taken_behind (unmoved c w) ws vs

  -- what they lead to, where they are joined
  pub joined_leads : (c : Control) (first joined : List ℕ) (commands behind : List (Wanted Q K)) → MayJoin c → AreJoined (λ (t : List ℕ). let w : Wanted Q K = appends_data t in w) first commands joined behind
      → taken_all (unmoved {Q = Q} {K = K} c (appends_data joined)) behind ≡ taken_all c (appends_data first ∷ commands)
  joined_leads c first joined commands behind may are =
      ap (λ text. taken_all (left_by c text) behind) are.text
      ∙ ap (λ x. taken_all x behind) (sym (appends_join_lem Q K c (first ∷ are.texts) may (omega arith)))
      ∙ sym (taken_behind c (appends (first ∷ are.texts)) behind)
      ∙ ap (λ ws. taken_all c (appends_data first ∷ ws)) (sym are.front)

  can_behind : (ids : List HookId) (texts : List (List ℕ)) (behind : List (Wanted Q K)) → CanTakeAll ids (appends texts ++ behind) → CanTakeAll ids behind
  can_behind ids [] behind can = can
  can_behind ids (text ∷ texts) behind can = can_behind ids texts behind can.2

  -- those behind them can be read in beside the same ids
  pub joined_can : (ids : List HookId) (first joined : List ℕ) (commands behind : List (Wanted Q K)) → AreJoined (λ (t : List ℕ). let w : Wanted Q K = appends_data t in w) first commands joined behind → CanTakeAll ids (appends_data first ∷ commands) → CanTakeAll ids behind
  joined_can ids first joined commands behind are can = can_behind ids are.texts behind (rw are.front at can.2)

-- nothing is joined yet
pub none_joined : {X : Type 0} (append : List ℕ → X) (first : List ℕ) (all : List X) → AreJoined append first all first all
none_joined append first all = record { texts = []; front = refl; text = sym (append-nil first) }

-- one more is joined
pub one_more : {X : Type 0} (append : List ℕ → X) (first joined longer text : List ℕ) (all rest behind : List X) (x : X) → AreJoined append first all joined rest → x ≡ append text → rest ≡ x ∷ behind → longer ≡ joined ++ text
    → AreJoined append first all longer behind
one_more append first joined longer text all rest behind x are is split more = record {
  texts = are.texts ++ text ∷ [];
  front = are.front ∙ ap (λ ys. map append are.texts ++ ys) (split ∙ ap (λ y. y ∷ behind) is) ∙ sym (append_assoc (map append are.texts) (append text ∷ []) behind) ∙ ap (λ ys. ys ++ behind) (sym (map-append append are.texts (text ∷ [])));
  text = more ∙ ap (λ t. t ++ text) are.text ∙ append_assoc first (concat are.texts) text ∙ ap (λ t. first ++ t) (ap (λ t. concat are.texts ++ t) (sym (append-nil text)) ∙ sym (concat-append are.texts (text ∷ [])));
}
