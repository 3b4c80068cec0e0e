-- The last ESC is that of the piece, or one before it.
use Rattle.std.proofs.Common.{ℕ, List, ◌+◌, length, subst}
use Rattle.memchr.specs.Find.{Nowhere, Passes, is_byte}
use Rattle.minus_text.proofs.RowTextsLaws.{escapes_found, escapes_kept}
use Rattle.minus_text.proofs.row_text.escapes_end.Goals as goal

pub returns-in-Some : goal.returns-in-Some
returns-in-Some c = λ text e h.
    let behind = subst (λ (bs : List ℕ). Nowhere (Passes (is_byte 27) bs) (c.in-Some.last + 1) (length bs)) c.as_bytes.ensures.value c.in-Some.ensures.0.after in
    rw e (escapes_found c.in-Some.last text c.args.piece.now behind)

pub returns-in-None : goal.returns-in-None
returns-in-None c = λ text e h.
    let none = subst (λ (bs : List ℕ). Nowhere (Passes (is_byte 27) bs) 0 (length bs)) c.as_bytes.ensures.value c.in-None.ensures in
    escapes_kept c.args.known text c.args.piece.now h none
