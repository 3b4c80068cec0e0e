use Rattle.std.proofs.Common.{◌≡◌, option_map, IfSome}
use Rattle.regex.specs.Strings.{matcher_pattern, match_span, match_haystack}
use Rattle.minus_text.proofs.MatchPlacesLaws.{EachCuts}
use Rattle.minus_text.proofs.FindPlacesLaws.{IsLeft, room}
use Rattle.minus_text.proofs.search.escapes.match_places.Given as goal

abbrev pub invariant-loop-next : goal.invariant-loop-next
invariant-loop-next l = record {
  same : matcher_pattern l.matcher ≡ matcher_pattern l.fn.matcher;
  left : IsLeft (matcher_pattern l.fn.matcher) l.text l.places.items (option_map match_span l.next);
  within : IfSome l.next (λ m. match_haystack m ≡ l.text);
  cuts : EachCuts l.text l.places.items;
}

abbrev pub decreases-loop-next : goal.decreases-loop-next
decreases-loop-next l = room l.text l.places.items
