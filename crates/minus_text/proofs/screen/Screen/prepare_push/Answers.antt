use Rattle.std.proofs.Common.{subst}
use Rattle.minus_text.specs.Pending.{Pending, IsPending}
use Rattle.minus_text.specs.Searched.{Searched}
use Rattle.minus_text.proofs.ViewLaws.{own_pending}
use Rattle.minus_text.proofs.screen.Screen.prepare_push.Goals as goal

pub returns-clause-found : goal.returns-clause-found
returns-clause-found c = c.in_ok-found.ensures.found

pub returns-clause-own : goal.returns-clause-own
returns-clause-own c =
    let p : Pending = c.in_ok-push.push in
    let own = own_pending c.self.inside.store c.args.text.now c.args.numbers c.args.cols p c.in_ok-push.ensures.pending in
    subst (λ (s : Searched). IsPending s.document c.args.text.now p.numbers p.cols p) c.self.view_is own

pub returns-clause-alike : goal.returns-clause-alike
returns-clause-alike c = c.matches_lines-lines.ensures c.in_ok-push.push c.in_ok-push.ensures.lines
