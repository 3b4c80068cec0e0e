-- What is told is what is kept as found.
use Rattle.std.proofs.Common.{subst}
use Rattle.minus_text.specs.FoundRows.{pattern_of}
use Rattle.minus_text.specs.FoundBy.{found_rows}
use Rattle.minus_text.specs.Searched.{Searched}
use Rattle.minus_text.specs.FormatResults.{TellsPush, TellsFound}
use Rattle.minus_text.proofs.FormatResultLaws.{tells_none, tells_pushed}
use Rattle.minus_text.proofs.screen.Screen.push_screen_buf.Goals as goal

pub returns-then-is_none-clause-kept : goal.returns-then-is_none-clause-kept
returns-then-is_none-clause-kept c =
    subst (λ (s : Searched). TellsFound c.in_ok-told.told (found_rows c.clear.new.self) s.document c.args.text.now c.args.numbers c.args.cols) c.self.view_is
    (tells_none c.in_ok-told.told (found_rows c.clear.new.self) c.self.inside.store c.args.text.now c.args.numbers c.args.cols c.clear.ensures.found c.in_ok-told.ensures.told)

pub returns-clause-found : goal.returns-clause-found
returns-clause-found c = λ h.
    c.in_ok-put.ensures.found (pattern_of c.args.term) (c.matches_lines-lines.ensures c.in_ok-push.push c.in_ok-push.ensures.lines) h c.in_ok-found.ensures.found

pub returns-clause-told : goal.returns-clause-told
returns-clause-told c = λ h.
    let term = pattern_of c.args.term in
    let r = c.in_ok-put.field-0 in
    let d = c.args.self.now.document in
    let text = c.args.text.now in
    let p = c.in_ok-push.push in
    let told : TellsPush r term d text p.numbers p.cols = tells_pushed r term c.put.new.self d text p.numbers p.cols (c.in_ok-put.ensures.found term (c.matches_lines-lines.ensures p c.in_ok-push.ensures.lines) h c.in_ok-found.ensures.found) c.in_ok-put.ensures.ok c.in_ok-put.ensures.told in
    subst (λ n. TellsPush r term d text n c.args.cols) c.in_ok-push.ensures.pending.its_numbers (subst (λ n. TellsPush r term d text p.numbers n) c.in_ok-push.ensures.pending.its_cols told)
