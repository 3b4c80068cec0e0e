-- The matcher that is kept is the pattern's.
use Rattle.std.proofs.Common.{sym, ap, ◌∙◌}
use Rattle.std.proofs.lemmas.Option.{same_Some}
use Rattle.regex.specs.Strings.{matcher_pattern}
use Rattle.minus_text.specs.FixedPatterns.{match_places}
use Rattle.minus_text.proofs.search.found.Finder.searched_places.Goals as goal

pub invariant_of-self-2 : goal.invariant_of-self-2
invariant_of-self-2 c = record {
  escape_matches = λ m is text bytes.
      ap (λ found. match_places (matcher_pattern found) text) (sym (same_Some _ m is))
      ∙ ap (λ re. match_places re text) (c.match_places-2.ensures.same ∙ c.in_ok-matcher.ensures.pattern)
      ∙ c.args.self.now.patterns.now.escape_matches text bytes;
}
