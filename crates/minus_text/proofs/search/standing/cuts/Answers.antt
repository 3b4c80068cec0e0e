-- The text's first byte begins a character.
use Rattle.std.proofs.lemmas.Str.{IsCharBoundary-start}
use Rattle.minus_text.proofs.search.standing.cuts.Goals as goal

pub loop-place-init : goal.loop-place-init
loop-place-init c = (IsCharBoundary-start c.args.text.now c.utf8.text, λ h. h)
