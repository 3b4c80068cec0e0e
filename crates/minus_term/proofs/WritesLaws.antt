-- Writes of bytes that are formed first, by a sink that may refuse them.
use Rattle.std.proofs.Common.{◌≡◌, ℕ, Option, None, Some, List, [], Result, Ok, Err, OnOk, IfErr, IsErrAnd, Bor, sym, ap, ◌∙◌, subst}
use Rattle.std.specs.Io.KnownBytes.{Appends}
use Rattle.std.specs.Option.{unwrap_or}
use Rattle.minus_term.specs.Counts.{SinkSeen, AppendsFront, Rises}
use Rattle.minus_term.specs.Writes.{initial_text, SinkRefuses, WriteRefuses}
use Rattle.minus_term.specs.declared.error.MinusError.{MinusError}
use Rattle.minus_term.specs.declared.error.MinusError.TheVariants.{Memory, Draw}

-- the error of a drawing, where the sink refused it
pub refused_draw : {S : Type 0} (seen : S → SinkSeen) (cause : _) (r : Result (Unit {0}) MinusError) (old new : S) (bytes : List ℕ) → IsErrAnd r (λ e. e ≡ Draw cause) → AppendsFront (seen old).bytes (seen new).bytes bytes → Rises (seen old).refusals (seen new).refusals → IfErr r (λ e. SinkRefuses seen e old new bytes)
refused_draw seen cause (Ok x) old new bytes is h k = tt
refused_draw seen cause (Err e) old new bytes is h k = subst (λ (x : MinusError). SinkRefuses seen x old new bytes) (sym is) (h, k)

sink_refuses : {S : Type 0} (seen : S → SinkSeen) (e : MinusError) (old new : S) (bytes : List ℕ) → SinkRefuses seen e old new bytes → WriteRefuses seen e old new bytes
sink_refuses seen Memory old new bytes h = absurd h
sink_refuses seen (Draw cause) old new bytes h = h
sink_refuses seen e old new bytes h = h

-- formed bytes that the sink took
pub formed_taken : (r : Result (Unit {0}) MinusError) (a b : Option (List ℕ)) (bytes formed : List ℕ) → bytes ≡ formed → OnOk r (Appends a b bytes) → OnOk r (Appends a b formed)
formed_taken r a b bytes formed is h = subst (λ (x : List ℕ). OnOk r (Appends a b x)) is h

-- formed bytes that the sink refused
pub formed_refused : {S : Type 0} (seen : S → SinkSeen) (r : Result (Unit {0}) MinusError) (old new : S) (bytes formed : List ℕ) → bytes ≡ formed → IfErr r (λ e. SinkRefuses seen e old new bytes) → IfErr r (λ e. WriteRefuses seen e old new formed)
formed_refused seen (Ok x) old new bytes formed is h = tt
formed_refused seen (Err e) old new bytes formed is h = sink_refuses seen e old new formed (subst (λ (x : List ℕ). SinkRefuses seen e old new x) is h)

-- the text before each line, where the code puts a text for none
pub initial_text-is : (initial : Option (Bor (List ℕ))) (none text : Bor (List ℕ)) → text ≡ unwrap_or initial none → none.now ≡ [] → text.now ≡ initial_text initial
initial_text-is None none text is empty = ap (λ (t : Bor (List ℕ)). t.now) is ∙ empty
initial_text-is (Some given) none text is empty = ap (λ (t : Bor (List ℕ)). t.now) is
