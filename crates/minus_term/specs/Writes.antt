-- Writes of bytes that are formed first, and what a refused one leaves.
use Rattle.std.specs.Prelude.{◌≡◌, ℕ, List, [], ◌++◌, flat_map, codes, Option, None, Some}
use Rattle.std.specs.Borrow.{Bor}
use Rattle.minus_term.specs.Counts.{SinkSeen, AppendsFront, Rises}
use Rattle.minus_term.specs.declared.error.MinusError.{MinusError}
use Rattle.minus_term.specs.declared.error.MinusError.TheVariants.{Memory, Draw}

-- the text before each line: none where there is no text
abbrev pub initial_text : Option (Bor (List ℕ)) → List ℕ
initial_text None = []
initial_text (Some text) = text.now

-- the lines, each between the initial text and a newline
abbrev pub raw_lines : List ℕ → List (List ℕ) → List ℕ
raw_lines initial lines = flat_map (λ line. initial ++ line ++ codes "\n") lines

-- the one error of a write of these bytes by the sink, and what it leaves: a beginning of them, and a count that rose
abbrev pub SinkRefuses : {S : Type 0} → (S → SinkSeen) → MinusError → S → S → List ℕ → Type 0
SinkRefuses seen (Draw cause) old new bytes =
    AppendsFront (seen old).bytes (seen new).bytes bytes × Rises (seen old).refusals (seen new).refusals
SinkRefuses seen error old new bytes = ⊥

-- the two errors of a write of bytes that are formed first, and what each leaves: after one of memory the sink is as it
-- was, and a refusal by the sink leaves what `SinkRefuses` says
abbrev pub WriteRefuses : {S : Type 0} → (S → SinkSeen) → MinusError → S → S → List ℕ → Type 0
WriteRefuses seen Memory old new bytes = new ≡ old
WriteRefuses seen (Draw cause) old new bytes = SinkRefuses seen (Draw cause) old new bytes
WriteRefuses seen error old new bytes = ⊥
