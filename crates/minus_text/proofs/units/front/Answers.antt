-- A text may be cut where another text begins.
use Rattle.std.proofs.Common.{◌≡◌, ◌-◌, length, ap, arith}
use Rattle.std.proofs.lemmas.Str.{IsCharBoundary-at_seam}
use Rattle.std.proofs.lemmas.List.{length-append}
use Rattle.minus_text.proofs.units.front.Goals as goal

pub range-requires-clause-end_boundary : goal.range-requires-clause-end_boundary
range-requires-clause-end_boundary c =
    let before = c.requires.0 in
    let at : length c.args.text.now - length c.args.rest.now ≡ length before = omega (arith, ap length c.requires.1, length-append before c.args.rest.now) in
    rw at (IsCharBoundary-at_seam c.args.text.now before c.args.rest.now c.requires.1 c.utf8.rest)
