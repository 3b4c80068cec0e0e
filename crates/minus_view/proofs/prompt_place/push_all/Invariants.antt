-- The characters so far were added.
use Rattle.std.proofs.Common.{◌≡◌, ◌++◌, drop, string_bytes}
use Rattle.std.specs.Str.{encode_utf8_all}
use Rattle.minus_view.proofs.prompt_place.push_all.Given as goal

abbrev pub invariant-loop-c : goal.invariant-loop-c
invariant-loop-c l =
    string_bytes l.text ++ encode_utf8_all (drop l.c-index l.characters) ≡ string_bytes l.fn.text ++ encode_utf8_all l.characters
