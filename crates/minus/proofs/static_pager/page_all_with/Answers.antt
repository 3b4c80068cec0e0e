-- What is formed first is written or shown, and where it is not formed, nothing is written.
use Rattle.std.proofs.Common.{map, inr, sym, subst}
use Rattle.minus_term.specs.Refusals.{refusal_of}
use Rattle.minus_term.specs.declared.error.MinusError.{MinusError}
use Rattle.minus_state.specs.declared.state.RunMode.TheVariants.{Static}
use Rattle.minus_commands.specs.Reads.{wanted_of}
use Rattle.minus.specs.Starts.{IsFormRefused}
use Rattle.minus.proofs.PrintLaws.{pages, pages_not, unpaged_early}
use Rattle.minus.proofs.static_pager.page_all_with.Goals as goal

pub returns-clause-paged : goal.returns-clause-paged
returns-clause-paged g c =
    let first = c.in-Ok.ensures in
    let ready = c.prepare-ready.ensures in
    pages g.S.OutputSink.seen c.args.pager c.args.cols c.args.rows c.args.sink c.args.classifier c.in-Ok.first.parts c.prepare-ready.result.parts c.write_or_open.result (record { kept_first = first.kept; none_first = first.condition; state = ready.state; kept = ready.kept; classifier = ready.classifier; condition = ready.condition }) first.classifier first.begins first.control c.write_or_open.ensures.shown

pub returns-clause-refused : goal.returns-clause-refused
returns-clause-refused g c =
    let first = c.in-Ok.ensures in
    let ready = c.prepare-ready.ensures in
    pages_not g.S.OutputSink.seen c.args.pager c.args.cols c.args.rows c.args.sink c.in-Ok.first.parts c.prepare-ready.result.parts c.write_or_open.result (record { kept_first = first.kept; none_first = first.condition; state = ready.state; kept = ready.kept; classifier = ready.classifier; condition = ready.condition }) first.begins first.control c.write_or_open.ensures.refused

pub returns-in-Err-clause-refused : goal.returns-in-Err-clause-refused
returns-in-Err-clause-refused g c =
    unpaged_early g.S.OutputSink.seen c.args.pager c.args.cols c.args.rows c.args.sink c.early.result c.early.ensures.sink c.early.ensures.pager
    (subst (λ (e : MinusError). IsFormRefused (refusal_of e) Static c.args.cols c.args.rows (map wanted_of c.args.pager.queue.items)) (sym c.early.ensures.cause) c.in-Err.ensures.refused)

pub returns-in-Err-fitting_rows-clause-refused : goal.returns-in-Err-fitting_rows-clause-refused
returns-in-Err-fitting_rows-clause-refused g c =
    let early = c.early-in-Err-fitting_rows in
    unpaged_early g.S.OutputSink.seen c.args.pager c.args.cols c.args.rows c.args.sink early.result early.ensures.sink early.ensures.pager
    (subst (λ (e : MinusError). IsFormRefused (refusal_of e) Static c.args.cols c.args.rows (map wanted_of c.args.pager.queue.items)) (sym early.ensures.cause) (inr (c.in-Ok.ensures.begins.can, tt)))
