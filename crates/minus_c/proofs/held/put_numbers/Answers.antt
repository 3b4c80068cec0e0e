-- The next number stands behind those before it.
use Rattle.std.proofs.Common.{◌≡◌, ◌<◌, ◌+◌, ℕ, List, length, take, drop, map, set, get_or, arith, refl, ◌∙◌}
use Rattle.std.proofs.lemmas.Grind.{common_steps, take-set_at}
use Rattle.std.proofs.lemmas.List.{take-map, map_more}
use Rattle.minus_c.specs.Refused.{refusal_number}
use Rattle.minus_c.proofs.held.put_numbers.Goals as goal

next : {X : Type 0} (f : X → ℕ) (xs : List X) (room : List ℕ) (i v : ℕ) (d : X) → i < length xs → i < length room
    → take i room ≡ take i (map f xs) → v ≡ f (get_or xs i d) → take (i + 1) (set room i v) ≡ take (i + 1) (map f xs)
next f xs room i v d inside fits front is =
    take-set_at room i (i + 1) v refl fits ∙ cc (take-map f i xs, take-map f (i + 1) xs, map_more f xs i d inside)

behind : (room old : List ℕ) (i v : ℕ) → i < length room → length room ≡ length old → drop i room ≡ drop i old
    → drop (i + 1) (set room i v) ≡ drop (i + 1) old
behind room old i v inside same is = grind (arith, common_steps)

pub loop-i-preserved : goal.loop-i-preserved
loop-i-preserved c = record {
  front = next refusal_number c.args.refusals.now c.loop-i.room c.loop-i.i c.refusal_number.result _ c.loop-i-test.true (omega arith) c.loop-i.invariant.front c.refusal_number.ensures;
  behind = behind c.loop-i.room c.args.room.now c.loop-i.i c.refusal_number.result (omega arith) c.loop-i.auto.room c.loop-i.invariant.behind;
}
