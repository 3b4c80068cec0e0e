-- The characters of the new text.
use Rattle.std.proofs.Common.{ap, ◌∙◌, ◌++◌, ◌≡◌, ◌+◌, chars, take, drop}
use Rattle.std.proofs.lemmas.Result.{IfOk-weaker}
use Rattle.std.proofs.lemmas.List.{drop-drop}
use Rattle.minus_state.proofs.search.letters.without_char.Goals as goal

pub returns : goal.returns
returns c =
    let back : chars c.past_char.result.now ≡ drop (c.args.n + 1) (chars c.args.text.now) =
    c.past_char.ensures.chars ∙ ap (drop 1) c.split_at_char.ensures.back ∙ drop-drop 1 c.args.n (chars c.args.text.now) in
    IfOk-weaker c.joined.result _ _ (λ text e. e ∙ ap (λ xs. xs ++ chars c.past_char.result.now) c.split_at_char.ensures.front ∙ ap (λ xs. take c.args.n (chars c.args.text.now) ++ xs) back) c.joined.ensures
