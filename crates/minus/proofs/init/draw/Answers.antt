-- A beginning of the drawing, and the cleanup as far as the sink took it.
use Rattle.minus.proofs.StartLaws.{cleaned_up, Rises-cleaned}
use Rattle.minus.proofs.init.draw.Goals as goal

pub returns-in-Err-clause-broken : goal.returns-in-Err-clause-broken
returns-in-Err-clause-broken g c =
    let clean = c.cleanup.ensures in
    record {
      drawn = _;
      count = _;
      begun = c.in-Err.ensures.err;
      refused = c.in-Err.ensures.rises;
      cleanup = cleaned_up c.cleanup.result _ _ _ _ clean.ok clean.stays clean.tried clean.rises;
    }

pub returns-in-Err-clause-rises : goal.returns-in-Err-clause-rises
returns-in-Err-clause-rises g c =
    let clean = c.cleanup.ensures in
    Rises-cleaned _ _ _ _ _ c.in-Err.ensures.rises (cleaned_up c.cleanup.result _ _ _ _ clean.ok clean.stays clean.tried clean.rises)
