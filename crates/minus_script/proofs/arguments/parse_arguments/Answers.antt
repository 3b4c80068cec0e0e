-- The three words are all that there are.
use Rattle.std.proofs.Common.{◌≡◌, ◌<◌, ◌≤◌, List, String, Global, [], ◌∷◌, length, get_or, refl, sym, ap, arith, ◌∙◌}
use Rattle.minus_input.specs.Number.{usize_of}
use Rattle.minus_script.specs.ProgramArguments.{mode_named}
use Rattle.minus_script.proofs.arguments.parse_arguments.Goals as goal

three : (words : List (String Global)) (a b c : String Global) → 3 ≤ length words → length words < 4 → a ≡ get_or words 0 a → b ≡ get_or words 1 b → c ≡ get_or words 2 c → words ≡ a ∷ b ∷ c ∷ []
three [] a b c least most x y z = absurd (omega (arith, least))
three (p ∷ []) a b c least most x y z = absurd (omega (arith, least))
three (p ∷ q ∷ []) a b c least most x y z = absurd (omega (arith, least))
three (p ∷ q ∷ r ∷ []) a b c least most x y z = rw (x, y, z) refl
three (p ∷ q ∷ r ∷ s ∷ ws) a b c least most x y z = absurd (omega (arith, most))

pub returns : goal.returns
returns c =
    let words = three c.args.arguments.now c.mode-item.result c.cols-item.result c.rows-item.result c.in-len3.len_at_least c.in-len3.len_below c.mode-item.is c.cols-item.is c.rows-item.is in
    let mode = c.in_ok-mode.ensures ∙ ap mode_named c.as_str.ensures.value in
    let cols = c.in_ok-cols.ensures ∙ ap usize_of c.as_str-2.ensures.value in
    let rows = c.in_ok-rows.ensures ∙ ap usize_of c.as_str-3.ensures.value in
    rw (words, sym mode, sym cols, sym rows) refl
