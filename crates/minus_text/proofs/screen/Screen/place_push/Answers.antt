-- What is told is what is kept as found.
use Rattle.std.proofs.Common.{◌≡◌, sym, subst, rules}
use Rattle.std.proofs.lemmas.Result.{IfOk-weaker, IfOk-from_err, MatchResult-from_err, err_from_is_err_and}
use Rattle.minus_text.specs.Document.{pushed}
use Rattle.minus_text.specs.Pending.{IsPreparedFor}
use Rattle.minus_text.specs.FoundRows.{pattern_of}
use Rattle.minus_text.specs.Searched.{Searched, SearchedPush, IsFoundInPush}
use Rattle.minus_text.specs.FormatResults.{TellsPush, TellsFound}
use Rattle.minus_text.proofs.FormatResultLaws.{tells_pushed}
use Rattle.minus_text.proofs.screen.Screen.place_push.Goals as goal

pub returns-then-is_prepared-clause-told : goal.returns-then-is_prepared-clause-told
returns-then-is_prepared-clause-told c = λ h k.
    let term = pattern_of c.args.term in
    let r = c.in_ok-put.field-0 in
    let d = c.args.self.now.document in
    let text = c.args.text.now in
    let p = c.pending.inside.push in
    let its = subst (λ (s : SearchedPush). IsFoundInPush term s) (sym c.pending.view_is) k in
    subst (λ (s : SearchedPush). TellsPush r term d text s.push.numbers s.push.cols) c.pending.view_is
    (tells_pushed r term c.put.new.self d text p.numbers p.cols (c.in_ok-put.ensures.found term (c.matches_lines-lines.ensures p (c.is_prepared.ensures.lines c.if-is_prepared.true)) h its) c.in_ok-put.ensures.ok c.in_ok-put.ensures.told)

pub returns-clause-ok : goal.returns-clause-ok
returns-clause-ok c = search rules

pub returns-clause-kept : goal.returns-clause-kept
returns-clause-kept c = search rules

pub returns-clause-found : goal.returns-clause-found
returns-clause-found c = IfOk-weaker c.push_screen_buf.result _ _ (λ _ told h _. told h) c.push_screen_buf.ensures.found

pub returns-clause-told : goal.returns-clause-told
returns-clause-told c = IfOk-weaker c.push_screen_buf.result _ _
    (λ r told h _. subst (λ (s : SearchedPush). TellsPush r (pattern_of c.args.term) c.args.self.now.document c.args.text.now s.push.numbers s.push.cols) c.pending.view_is
    (subst (λ q. TellsPush r (pattern_of c.args.term) c.args.self.now.document c.args.text.now q.numbers q.cols) c.push.view_is (told h)))
    c.push_screen_buf.ensures.told

pub returns-in_err-put-clause-ok : goal.returns-in_err-put-clause-ok
returns-in_err-put-clause-ok c = IfOk-from_err _ _ c.from_residual.ensures.0

pub returns-in_err-put-clause-found : goal.returns-in_err-put-clause-found
returns-in_err-put-clause-found c = IfOk-from_err _ _ c.from_residual.ensures.0

pub returns-in_err-put-clause-told : goal.returns-in_err-put-clause-told
returns-in_err-put-clause-told c = IfOk-from_err _ _ c.from_residual.ensures.0

pub returns-in_err-put-clause-kept : goal.returns-in_err-put-clause-kept
returns-in_err-put-clause-kept c = IfOk-from_err _ _ c.from_residual.ensures.0

pub returns-in_err-put-clause-err : goal.returns-in_err-put-clause-err
returns-in_err-put-clause-err c = MatchResult-from_err _ _ _ c.from_residual.ensures.0 (λ _. c.in_err-put.ensures.err)

pub returns-in_err-put-clause-memory : goal.returns-in_err-put-clause-memory
returns-in_err-put-clause-memory c = let p = err_from_is_err_and c.from_residual.result c.from_residual.ensures.1 in rw p.1 p.2

pub put-requires-clause-prepared : goal.put-requires-clause-prepared
put-requires-clause-prepared c = subst (λ (s : Searched). IsPreparedFor s.document c.args.text.now c.pending.inside.push) c.self.view_is (c.is_prepared.ensures.prepared c.if-is_prepared.true)

pub put-requires-clause-stand : goal.put-requires-clause-stand
put-requires-clause-stand c = c.pending.invariant.0

pub returns-then-is_prepared-clause-ok : goal.returns-then-is_prepared-clause-ok
returns-then-is_prepared-clause-ok c =
    subst (λ (s : SearchedPush). c.put.new.self.document ≡ pushed c.args.self.now.document c.args.text.now s.push.numbers s.push.cols) c.pending.view_is c.in_ok-put.ensures.ok

pub returns-then-is_prepared-clause-found : goal.returns-then-is_prepared-clause-found
returns-then-is_prepared-clause-found c = λ h k.
    let term = pattern_of c.args.term in
    c.in_ok-put.ensures.found term (c.matches_lines-lines.ensures c.pending.inside.push (c.is_prepared.ensures.lines c.if-is_prepared.true)) h (subst (λ (s : SearchedPush). IsFoundInPush term s) (sym c.pending.view_is) k)

pub returns-then-is_prepared-clause-kept : goal.returns-then-is_prepared-clause-kept
returns-then-is_prepared-clause-kept c =
    let found = c.put.new.self.found in
    subst (λ (s : SearchedPush). TellsFound c.in_ok-put.field-0 found c.args.self.now.document c.args.text.now s.push.numbers s.push.cols) c.pending.view_is c.in_ok-put.ensures.told

pub returns-clause-err : goal.returns-clause-err
returns-clause-err c = c.push_screen_buf.ensures.err

pub returns-clause-memory : goal.returns-clause-memory
returns-clause-memory c = c.push_screen_buf.ensures.memory
