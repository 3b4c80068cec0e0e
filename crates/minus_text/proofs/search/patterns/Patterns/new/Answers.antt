use Rattle.minus_text.proofs.EscapePatternLaws.{escape_pattern_text, word_pattern_text, escape_as_written, word_as_written}
use Rattle.minus_text.proofs.search.patterns.Patterns.new.Goals as goal

pub built-requires : goal.built-requires
built-requires c = escape_pattern_text

pub built-requires-2 : goal.built-requires-2
built-requires-2 c = word_pattern_text

pub invariant_of-result-clause-escape_matches : goal.invariant_of-result-clause-escape_matches
invariant_of-result-clause-escape_matches c = escape_as_written c.in_ok-escape.escape c.in_ok-escape.ensures.built

pub invariant_of-result-clause-word_matches : goal.invariant_of-result-clause-word_matches
invariant_of-result-clause-word_matches c = word_as_written c.in_ok-word.word c.in_ok-word.ensures.built
