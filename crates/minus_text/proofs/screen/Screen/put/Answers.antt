-- What was found in the rows that stay, and what was found in those that are formed.
use Rattle.std.proofs.Common.{◌≡◌, ◌++◌, refl, sym, ap, ap₂, subst, ◌∙◌}
use Rattle.minus_text.specs.Document.{Document, rows_of, pushed, plan_of, first_formed}
use Rattle.minus_text.specs.Found.{found_above, found_from, jump_rows, AreFoundIn}
use Rattle.minus_text.specs.Finds.{finds}
use Rattle.minus_text.specs.FoundBy.{found_rows}
use Rattle.minus_text.specs.Searched.{Searched, IsFoundBy}
use Rattle.minus_text.proofs.FoundInLaws.{put_stands}
use Rattle.minus_text.proofs.FindsGoOnLaws.{found_goes_on}
use Rattle.minus_text.specs.Pending.{IsPreparedFor, SearchesAlike}
use Rattle.minus_text.specs.FormatResults.{TellsFound}
use Rattle.minus_text.proofs.PendingLaws.{plan_keeps, first_is}
use Rattle.minus_text.proofs.FormatResultLaws.{tells_found}
use Rattle.minus_text.proofs.screen.Screen.put.Goals as goal

pub invariant_of-self-2 : goal.invariant_of-self-2
invariant_of-self-2 c =
    let d = c.self.inside.store in
    let p = c.args.push in
    let found = c.replace_from.ensures.found ∙ ap₂ (λ n old. found_above n old ++ found_rows c.args.found) c.kept_rows-first.ensures.value c.in_ok-reserve.ensures.same in
    let stand = put_stands d c.args.text.now p.numbers p.cols p (found_rows c.self.inside.found) (found_rows c.args.found) c.in_ok-told.ensures.pending c.self.invariant.0 c.requires.stand in (
      subst (λ (e : Document). AreFoundIn 0 (rows_of e) (found_rows c.replace_from.new.self)) (sym c.in_ok-told.ensures.ok)
          (subst (λ f. AreFoundIn 0 (rows_of (pushed d c.args.text.now p.numbers p.cols)) f) (sym found) stand),
      c.replace_from.ensures.jumps,
    )

pub returns-clause-found : goal.returns-clause-found
returns-clause-found c = λ term alike h k.
    let d = c.self.inside.store in
    let p = c.args.push in
    let same : SearchesAlike term d p = subst (λ (s : Searched). SearchesAlike term s.document p) (sym c.self.view_is) alike in
    let before : found_rows c.self.inside.found ≡ finds term d = subst (λ (s : Searched). IsFoundBy term s) (sym c.self.view_is) h in
    c.replace_from.ensures.found ∙ ap₂ (λ n old. found_above n old ++ found_rows c.args.found) c.kept_rows-first.ensures.value (c.in_ok-reserve.ensures.same ∙ before)
    ∙ ap (λ l. found_above p.kept_rows (finds term d) ++ l) k
    ∙ found_goes_on term d c.args.text.now p.numbers p.cols p c.in_ok-told.ensures.pending same
    ∙ ap (finds term) (sym c.in_ok-told.ensures.ok)

-- the rows told are those kept as found, from the first row formed on
pub returns-clause-told : goal.returns-clause-told
returns-clause-told c =
    let d = c.self.inside.store in
    let p = c.args.push in
    let text = c.args.text.now in
    let old = found_rows c.self.inside.found in
    let fresh = found_rows c.args.found in
    let plan = plan_of d text p.numbers p.cols in
    let found = c.replace_from.ensures.found ∙ ap₂ (λ n l. found_above n l ++ fresh) c.kept_rows-first.ensures.value c.in_ok-reserve.ensures.same in
    let prepared : IsPreparedFor d text p = subst (λ (s : Searched). IsPreparedFor s.document text p) (sym c.self.view_is) c.requires.prepared in
    let at : p.start.finished.rows ≡ first_formed d plan = first_is d plan p.start (plan_keeps d text p.numbers p.cols plan refl) prepared.begins in
    let keys : c.in_ok-matches.matches.keys ≡ jump_rows (found_from p.start.finished.rows (found_rows c.replace_from.new.self)) =
    c.in_ok-matches.ensures ∙ ap₂ (λ m k. jump_rows (found_from m (found_above k old ++ fresh))) c.first_row.ensures.value c.kept_rows-first.ensures.value
    ∙ ap (λ l. jump_rows (found_from p.start.finished.rows l)) (sym found) in
    subst (λ (s : Searched). TellsFound c.with_matches.result (found_rows c.replace_from.new.self) s.document text p.numbers p.cols) c.self.view_is
    (tells_found c.with_matches.result c.in_ok-told.told c.in_ok-matches.matches p.start.finished.rows (found_rows c.replace_from.new.self) d text p.numbers p.cols c.with_matches.ensures keys at c.in_ok-told.ensures.told)
