-- The text is written or paged over a sink that has nothing, with the default bindings.
use Rattle.minus.specs.StaticPager.{IsPaged}
use Rattle.minus_c.proofs.StageLaws.{pages_so, refuses_so, no_bindings, unbegun}
use Rattle.minus_c.specs.Sessions.{PagedText, PagesAs, sink_seen}
use Rattle.minus_c.proofs.stage.Stage.paged.Goals as goal

pub returns-in-Ok-clause-paged : goal.returns-in-Ok-clause-paged
returns-in-Ok-clause-paged c =
    let A : PagedText → Type 0 = IsPaged sink_seen c.in-Waiting.waits.pager c.args.cols c.args.rows c.in-Ok.keys c.no_bytes.result in
    pages_so A (PagesAs c.args.is_tty c.args.cols c.args.rows) c.in-Waiting.waits (λ p is. record {
      sink = c.no_bytes.result;
      fresh = record { empty = c.no_bytes.ensures.bytes; tty = c.no_bytes.ensures.tty };
      is = record { classifier = c.in-Ok.keys; first = c.in-Ok.ensures; is = is };
    }) _ _ c.in-Waiting.is _ c.page.ensures.paged

pub returns-in-Ok-clause-refused : goal.returns-in-Ok-clause-refused
returns-in-Ok-clause-refused c =
    refuses_so _ _ c.in-Waiting.waits (λ refused is. record {
      sink = c.no_bytes.result;
      fresh = record { empty = c.no_bytes.ensures.bytes; tty = c.no_bytes.ensures.tty };
      is = is;
    }) _ _ c.in-Waiting.is _ c.page.ensures.refused c.page.ensures.early

pub returns-in-Err-clause-refused : goal.returns-in-Err-clause-refused
returns-in-Err-clause-refused c = no_bindings _ _ _ c.in-Waiting.is

pub returns-in_default-clause-refused : goal.returns-in_default-clause-refused
returns-in_default-clause-refused c = unbegun _ _ _ _ c.in_default.not-Waiting c.unstarted.ensures.same c.unstarted.ensures.refused
