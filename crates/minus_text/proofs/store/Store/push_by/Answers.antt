-- What is formed of the rest and the piece goes behind what is kept.
use Rattle.std.proofs.Common.{true, cond, eqb, ◌≡◌, ℕ, ◌+◌, ◌≤◌, ◌++◌, List, length, take, max, refl, sym, subst, ap, arith, ◌∙◌}
use Rattle.std.specs.Str.{IsCharBoundary}
use Rattle.std.specs.Str.Lines.{lines}
use Rattle.std.specs.String.{string_bytes}
use Rattle.std.proofs.lemmas.List.{length-append, take_at}
use Rattle.std.proofs.lemmas.Result.{IfOk-from_err, MatchResult-from_err}
use Rattle.std.proofs.lemmas.Str.{IsUtf8-string_bytes, IsCharBoundary-at_seam}
use Rattle.minus_text.specs.declared.rows.Span.{Span}
use Rattle.minus_text.specs.declared.formed.Finished.{Finished}
use Rattle.minus_text.specs.declared.formed.Border.{Border}
use Rattle.minus_text.specs.declared.layout.Layout.{Layout}
use Rattle.minus_text.specs.Layouts.{wrap_of}
use Rattle.minus_text.specs.Document.{Document, wrap_in}
use Rattle.minus_text.specs.RowText.{IsUnescapedFrom}
use Rattle.minus_text.specs.Kept.{IsFormed, IsFormOf, IsRestartOf, kept_lines, line_going_on, piece_behind}
use Rattle.minus_text.proofs.ScreenLaws.{front_is, push_start, pushed_tail, push_formed, formed-ascends, form-unfinished}
use Rattle.minus_text.proofs.FormatResultLaws.{tells_push}
use Rattle.minus_text.proofs.store.Store.push_by.Goals as goal

-- what is kept stands beside the same text
still : (text new : List ℕ) (layout : Layout) (rows fresh : List Span) (firsts begun : List ℕ) (f : Finished) (n : ℕ) (b : Border) → new ≡ text → fresh ≡ rows → begun ≡ firsts
    → IsFormed text (wrap_of layout (length (lines text))) rows firsts f n b → IsFormed new (wrap_of layout (length (lines new))) fresh begun f n b
still text new layout rows fresh firsts begun f n b e r m h = rw (e, r, m) h

within : (n : ℕ) (text piece all : List ℕ) → n ≤ length text → all ≡ text ++ piece → n ≤ length all
within n text piece all h e = omega (arith, ap length e, length-append text piece)

pub form_end-requires-clause-place : goal.form_end-requires-clause-place
form_end-requires-clause-place c =
    let r = c.restart-start.ensures in
    let start : IsRestartOf (string_bytes c.self.inside.text) c.args.plan c.restart-start.result = subst (λ (x : Document). IsRestartOf x.text c.args.plan c.restart-start.result) (sym c.self.view_is) r.start in
    let place : IsCharBoundary (string_bytes c.self.inside.text) (c.restart-start.result.finished.bytes + c.restart-start.result.bytes) = subst (λ (x : Document). IsCharBoundary x.text (c.restart-start.result.finished.bytes + c.restart-start.result.bytes)) (sym c.self.view_is) r.place in
    let all = c.deref.ensures ∙ c.in_ok-push_str.ensures.bytes in
    let tail = pushed_tail (string_bytes c.self.inside.text) c.args.piece.now c.deref.result.now c.restart-start.result c.args.plan all (IsUtf8-string_bytes c.self.inside.text) c.utf8.piece place start in
    let text = (push_start (string_bytes c.self.inside.text) c.args.plan c.restart-start.result c.args.piece.now (IsUtf8-string_bytes c.self.inside.text) c.utf8.piece start).0 in
    tail.0

pub form_end-requires-clause-start : goal.form_end-requires-clause-start
form_end-requires-clause-start c =
    let r = c.restart-start.ensures in
    let start : IsRestartOf (string_bytes c.self.inside.text) c.args.plan c.restart-start.result = subst (λ (x : Document). IsRestartOf x.text c.args.plan c.restart-start.result) (sym c.self.view_is) r.start in
    let place : IsCharBoundary (string_bytes c.self.inside.text) (c.restart-start.result.finished.bytes + c.restart-start.result.bytes) = subst (λ (x : Document). IsCharBoundary x.text (c.restart-start.result.finished.bytes + c.restart-start.result.bytes)) (sym c.self.view_is) r.place in
    let all = c.deref.ensures ∙ c.in_ok-push_str.ensures.bytes in
    let tail = pushed_tail (string_bytes c.self.inside.text) c.args.piece.now c.deref.result.now c.restart-start.result c.args.plan all (IsUtf8-string_bytes c.self.inside.text) c.utf8.piece place start in
    let text = (push_start (string_bytes c.self.inside.text) c.args.plan c.restart-start.result c.args.piece.now (IsUtf8-string_bytes c.self.inside.text) c.utf8.piece start).0 in
    (line_going_on (string_bytes c.self.inside.text) c.args.plan, piece_behind (string_bytes c.self.inside.text) c.args.plan c.args.piece.now, start.restarts, text, tail.1)

pub form_end-requires-clause-ascends : goal.form_end-requires-clause-ascends
form_end-requires-clause-ascends c = λ f p.
    let keeps : c.args.plan.keeps ≡ true → c.args.plan.wrap ≡ (wrap_of c.self.inside.layout (length (lines (string_bytes c.self.inside.text)))) = λ t. c.requires.keeps t ∙ sym (ap (λ (x : Document). wrap_in x) c.self.view_is) in
    let r = c.restart-start.ensures in
    let start : IsRestartOf (string_bytes c.self.inside.text) c.args.plan c.restart-start.result = subst (λ (x : Document). IsRestartOf x.text c.args.plan c.restart-start.result) (sym c.self.view_is) r.start in
    let place : IsCharBoundary (string_bytes c.self.inside.text) (c.restart-start.result.finished.bytes + c.restart-start.result.bytes) = subst (λ (x : Document). IsCharBoundary x.text (c.restart-start.result.finished.bytes + c.restart-start.result.bytes)) (sym c.self.view_is) r.place in
    let all = c.deref.ensures ∙ c.in_ok-push_str.ensures.bytes in
    let tail = pushed_tail (string_bytes c.self.inside.text) c.args.piece.now c.deref.result.now c.restart-start.result c.args.plan all (IsUtf8-string_bytes c.self.inside.text) c.utf8.piece place start in
    let text = (push_start (string_bytes c.self.inside.text) c.args.plan c.restart-start.result c.args.piece.now (IsUtf8-string_bytes c.self.inside.text) c.utf8.piece start).0 in
    let front = front_is (string_bytes c.self.inside.text) c.args.piece.now (wrap_of c.self.inside.layout (length (lines (string_bytes c.self.inside.text)))) c.self.inside.rows.items c.self.inside.first_rows c.self.inside.finished c.self.inside.longest c.self.inside.border c.restart-start.result c.args.plan (IsUtf8-string_bytes c.self.inside.text) c.self.invariant.0 keeps start in
    let formed = p.its_form (line_going_on (string_bytes c.self.inside.text) c.args.plan) (piece_behind (string_bytes c.self.inside.text) c.args.plan c.args.piece.now) start.restarts text tail.1 in
    let news : List Span = take (c.restart-start.result.finished.rows + c.restart-start.result.rows) c.self.inside.rows.items ++ f.rows.items in
    let firsts : List ℕ = take c.restart-start.result.finished.lines c.self.inside.first_rows ++ f.first_rows in
    let widest : ℕ = max c.restart-start.result.finished.longest f.longest in
    let is = push_formed (string_bytes c.self.inside.text) c.args.piece.now ((string_bytes c.self.inside.text) ++ c.args.piece.now) c.args.plan.wrap c.self.inside.rows.items news c.self.inside.first_rows firsts c.restart-start.result (kept_lines (string_bytes c.self.inside.text) c.args.plan) (line_going_on (string_bytes c.self.inside.text) c.args.plan) (piece_behind (string_bytes c.self.inside.text) c.args.plan c.args.piece.now) f widest
    front refl formed refl refl refl in
    formed-ascends ((string_bytes c.self.inside.text) ++ c.args.piece.now) c.args.plan.wrap news firsts f.finished widest f.border is

pub truncate-requires : goal.truncate-requires
truncate-requires c = λ _.
    let all = c.in_ok-push_str.ensures.bytes in
    let len : c.len-len.result ≡ length (string_bytes c.self.inside.text) = c.len-len.ensures ∙ c.self.inside.text.bytes.ok.0 in
    let seam : IsCharBoundary (string_bytes c.push_str.new.self) (length (string_bytes c.self.inside.text)) = IsCharBoundary-at_seam (string_bytes c.push_str.new.self) (string_bytes c.self.inside.text) c.args.piece.now all c.utf8.piece in
    (omega (arith, len, ap length all, length-append (string_bytes c.self.inside.text) c.args.piece.now), λ _. (rw (← len) at seam).1)

pub told-requires-clause-finished : goal.told-requires-clause-finished
told-requires-clause-finished c =
    let r = c.restart-start.ensures in
    let start : IsRestartOf (string_bytes c.self.inside.text) c.args.plan c.restart-start.result = subst (λ (x : Document). IsRestartOf x.text c.args.plan c.restart-start.result) (sym c.self.view_is) r.start in
    let place : IsCharBoundary (string_bytes c.self.inside.text) (c.restart-start.result.finished.bytes + c.restart-start.result.bytes) = subst (λ (x : Document). IsCharBoundary x.text (c.restart-start.result.finished.bytes + c.restart-start.result.bytes)) (sym c.self.view_is) r.place in
    let all = c.deref.ensures ∙ c.in_ok-push_str.ensures.bytes in
    let tail = pushed_tail (string_bytes c.self.inside.text) c.args.piece.now c.deref.result.now c.restart-start.result c.args.plan all (IsUtf8-string_bytes c.self.inside.text) c.utf8.piece place start in
    let text = (push_start (string_bytes c.self.inside.text) c.args.plan c.restart-start.result c.args.piece.now (IsUtf8-string_bytes c.self.inside.text) c.utf8.piece start).0 in
    let formed = c.in-Ok.ensures.formed.its_form (line_going_on (string_bytes c.self.inside.text) c.args.plan) (piece_behind (string_bytes c.self.inside.text) c.args.plan c.args.piece.now) start.restarts text tail.1 in
    (form-unfinished c.args.plan.wrap (line_going_on (string_bytes c.self.inside.text) c.args.plan) (piece_behind (string_bytes c.self.inside.text) c.args.plan c.args.piece.now) c.restart-start.result c.in-Ok.formed formed).0

pub invariant_of-self-2 : goal.invariant_of-self-2
invariant_of-self-2 c =
    let keeps : c.args.plan.keeps ≡ true → c.args.plan.wrap ≡ (wrap_of c.self.inside.layout (length (lines (string_bytes c.self.inside.text)))) = λ t. c.requires.keeps t ∙ sym (ap (λ (x : Document). wrap_in x) c.self.view_is) in
    let r = c.restart-start.ensures in
    let start : IsRestartOf (string_bytes c.self.inside.text) c.args.plan c.restart-start.result = subst (λ (x : Document). IsRestartOf x.text c.args.plan c.restart-start.result) (sym c.self.view_is) r.start in
    let place : IsCharBoundary (string_bytes c.self.inside.text) (c.restart-start.result.finished.bytes + c.restart-start.result.bytes) = subst (λ (x : Document). IsCharBoundary x.text (c.restart-start.result.finished.bytes + c.restart-start.result.bytes)) (sym c.self.view_is) r.place in
    let all = c.deref.ensures ∙ c.in_ok-push_str.ensures.bytes in
    let tail = pushed_tail (string_bytes c.self.inside.text) c.args.piece.now c.deref.result.now c.restart-start.result c.args.plan all (IsUtf8-string_bytes c.self.inside.text) c.utf8.piece place start in
    let text = (push_start (string_bytes c.self.inside.text) c.args.plan c.restart-start.result c.args.piece.now (IsUtf8-string_bytes c.self.inside.text) c.utf8.piece start).0 in
    let front = front_is (string_bytes c.self.inside.text) c.args.piece.now (wrap_of c.self.inside.layout (length (lines (string_bytes c.self.inside.text)))) c.self.inside.rows.items c.self.inside.first_rows c.self.inside.finished c.self.inside.longest c.self.inside.border c.restart-start.result c.args.plan (IsUtf8-string_bytes c.self.inside.text) c.self.invariant.0 keeps start in
    let formed = c.in-Ok.ensures.formed.its_form (line_going_on (string_bytes c.self.inside.text) c.args.plan) (piece_behind (string_bytes c.self.inside.text) c.args.plan c.args.piece.now) start.restarts text tail.1 in
    let is = push_formed (string_bytes c.self.inside.text) c.args.piece.now (string_bytes c.push_str.new.self) c.args.plan.wrap c.self.inside.rows.items c.form_end.new.rows.items c.self.inside.first_rows c.form_end.new.first_rows c.restart-start.result (kept_lines (string_bytes c.self.inside.text) c.args.plan) (line_going_on (string_bytes c.self.inside.text) c.args.plan) (piece_behind (string_bytes c.self.inside.text) c.args.plan c.args.piece.now) c.in-Ok.formed c.longest_behind-self-inside.result
    front c.in_ok-push_str.ensures.bytes formed c.in-Ok.ensures.rows c.in-Ok.ensures.first_rows c.longest_behind-self-inside.ensures in
    let wrap : c.args.plan.wrap ≡ wrap_of c.args.layout (length (lines (string_bytes c.push_str.new.self))) =
    c.requires.wrap ∙ ap (λ (x : Document). wrap_of c.args.layout (length (lines (x.text ++ c.args.piece.now)))) (sym c.self.view_is) ∙ ap (λ t. wrap_of c.args.layout (length (lines t))) (sym c.in_ok-push_str.ensures.bytes) in
    let len : c.len-len.result ≡ length (string_bytes c.self.inside.text) = c.len-len.ensures ∙ c.self.inside.text.bytes.ok.0 in
    let escapes = subst (λ t. IsUnescapedFrom c.escapes_end-self-inside.result t) (sym c.in_ok-push_str.ensures.bytes) (c.escapes_end-self-inside.ensures (string_bytes c.self.inside.text) len c.self.invariant.1) in
    (subst (λ w. IsFormed (string_bytes c.push_str.new.self) w c.form_end.new.rows.items c.form_end.new.first_rows c.in-Ok.formed.finished c.longest_behind-self-inside.result c.in-Ok.formed.border) wrap is, escapes)

pub returns-clause-told : goal.returns-clause-told
returns-clause-told c =
    let r = c.restart-start.ensures in
    let start : IsRestartOf (string_bytes c.self.inside.text) c.args.plan c.restart-start.result = subst (λ (x : Document). IsRestartOf x.text c.args.plan c.restart-start.result) (sym c.self.view_is) r.start in
    let place : IsCharBoundary (string_bytes c.self.inside.text) (c.restart-start.result.finished.bytes + c.restart-start.result.bytes) = subst (λ (x : Document). IsCharBoundary x.text (c.restart-start.result.finished.bytes + c.restart-start.result.bytes)) (sym c.self.view_is) r.place in
    let all = c.deref.ensures ∙ c.in_ok-push_str.ensures.bytes in
    let tail = pushed_tail (string_bytes c.self.inside.text) c.args.piece.now c.deref.result.now c.restart-start.result c.args.plan all (IsUtf8-string_bytes c.self.inside.text) c.utf8.piece place start in
    let text = (push_start (string_bytes c.self.inside.text) c.args.plan c.restart-start.result c.args.piece.now (IsUtf8-string_bytes c.self.inside.text) c.utf8.piece start).0 in
    let formed = c.in-Ok.ensures.formed.its_form (line_going_on (string_bytes c.self.inside.text) c.args.plan) (piece_behind (string_bytes c.self.inside.text) c.args.plan c.args.piece.now) start.restarts text tail.1 in
    let bytes : c.len-len.result ≡ length (string_bytes c.self.inside.text) = c.len-len.ensures ∙ c.self.inside.text.bytes.ok.0 in
    let t = c.told.ensures in
    let same : (string_bytes c.self.inside.text) ≡ c.args.self.now.text = ap (λ (x : Document). x.text) c.self.view_is in
    tells_push (string_bytes c.self.inside.text) c.args.piece.now (wrap_of c.self.inside.layout (length (lines (string_bytes c.self.inside.text)))) c.self.inside.rows.items c.self.inside.first_rows c.self.inside.finished c.self.inside.longest c.self.inside.border c.restart-start.result c.in-Ok.formed _ c.args.self.now c.args.plan
    same c.self.invariant.0 c.requires.keeps r.start (subst (λ x. IsFormOf c.args.plan.wrap (line_going_on x c.args.plan) (piece_behind x c.args.plan c.args.piece.now) c.restart-start.result c.in-Ok.formed) same formed)
    t.lines t.rows t.unfinished t.matches t.map t.longest
    (t.clean ∙ c.attaches_nothing-clean.ensures ∙ ap (λ n. cond c.args.plan.keeps (eqb c.self.inside.finished.bytes n) true) bytes)

-- a push that fails leaves the text as it was
pub invariant_of-self : goal.invariant_of-self
invariant_of-self c = (
  still _ _ c.self.inside.layout _ _ _ _ c.self.inside.finished c.self.inside.longest c.self.inside.border c.in_err-push_str.ensures.bytes refl refl c.self.invariant.0,
  subst (λ t. IsUnescapedFrom c.self.inside.escapes_end t) (sym c.in_err-push_str.ensures.bytes) c.self.invariant.1,
)

pub returns-in_err-push_str-clause-ok : goal.returns-in_err-push_str-clause-ok
returns-in_err-push_str-clause-ok c = IfOk-from_err _ _ c.from_residual.ensures.0

pub returns-in_err-push_str-clause-told : goal.returns-in_err-push_str-clause-told
returns-in_err-push_str-clause-told c = IfOk-from_err _ _ c.from_residual.ensures.0

pub returns-in_err-push_str-clause-err : goal.returns-in_err-push_str-clause-err
returns-in_err-push_str-clause-err c =
    MatchResult-from_err _ _ _ c.from_residual.ensures.0 (λ _. ap (λ t. let d : Document = record { text = t; layout = c.self.inside.layout } in d) c.in_err-push_str.ensures.bytes ∙ c.self.view_is)

pub form_end-requires-clause-lines : goal.form_end-requires-clause-lines
form_end-requires-clause-lines c =
    within c.restart-start.result.finished.lines (string_bytes c.self.inside.text) c.args.piece.now c.deref.result.now
    (subst (λ (x : Document). c.restart-start.result.finished.lines ≤ length x.text) (sym c.self.view_is) c.restart-start.ensures.lines) (c.deref.ensures ∙ c.in_ok-push_str.ensures.bytes)

pub form_end-requires-clause-rows : goal.form_end-requires-clause-rows
form_end-requires-clause-rows c = c.restart-start.ensures.rows

-- the text without the piece is the one before the call
pub invariant_of-self-in-Err : goal.invariant_of-self-in-Err
invariant_of-self-in-Err c =
    let len : c.len-len.result ≡ length (string_bytes c.self.inside.text) = c.len-len.ensures ∙ c.self.inside.text.bytes.ok.0 in
    let back = c.truncate.ensures.bytes ∙ ap (take c.len-len.result) c.in_ok-push_str.ensures.bytes ∙ take_at (string_bytes c.self.inside.text) c.args.piece.now c.len-len.result (sym len) in (
      still _ _ c.self.inside.layout _ _ _ _ c.self.inside.finished c.self.inside.longest c.self.inside.border back c.in-Err.ensures.rows_stay c.in-Err.ensures.first_rows_stay c.self.invariant.0,
      subst (λ t. IsUnescapedFrom c.self.inside.escapes_end t) (sym back) c.self.invariant.1,
    )

pub returns-in-Err-clause-err : goal.returns-in-Err-clause-err
returns-in-Err-clause-err c =
    let len : c.len-len.result ≡ length (string_bytes c.self.inside.text) = c.len-len.ensures ∙ c.self.inside.text.bytes.ok.0 in
    let back = c.truncate.ensures.bytes ∙ ap (take c.len-len.result) c.in_ok-push_str.ensures.bytes ∙ take_at (string_bytes c.self.inside.text) c.args.piece.now c.len-len.result (sym len) in
    ap (λ t. let d : Document = record { text = t; layout = c.self.inside.layout } in d) back ∙ c.self.view_is

pub returns-clause-ok : goal.returns-clause-ok
returns-clause-ok c =
    ap (λ t. let d : Document = record { text = t; layout = c.args.layout } in d) (c.in_ok-push_str.ensures.bytes ∙ ap (λ (x : Document). x.text ++ c.args.piece.now) c.self.view_is)
