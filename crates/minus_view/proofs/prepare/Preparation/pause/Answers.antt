use Rattle.std.proofs.Common.{◌≡◌, ◌++◌, [], ap, sym, ◌∙◌, string_bytes}
use Rattle.std.proofs.lemmas.List.{append-nil}
use Rattle.minus_view.specs.Prepared.{held, glyph_bytes}
use Rattle.minus_view.proofs.prepare.Preparation.pause.Goals as goal

pub returns-clause-empty : goal.returns-clause-empty
returns-clause-empty c = c.in_ok-hand_out.ensures.glyph ∙ ap glyph_bytes c.in_ok-release.ensures.none

pub returns-clause-plain : goal.returns-clause-plain
returns-clause-plain c = λ m tabs col plain.
    let released = c.in_ok-release.ensures.plain plain.0 in
    let handed = c.in_ok-hand_out.ensures.plain released.0 in
    let empty : held c.hand_out.new.self ≡ [] = c.in_ok-hand_out.ensures.glyph ∙ ap glyph_bytes c.in_ok-release.ensures.none in
    let out = c.hand_out.new.out in (
      (handed.0, c.in_ok-hand_out.ensures.column m tabs col (c.in_ok-release.ensures.column m tabs col plain.1)),
      sym (append-nil (string_bytes out)) ∙ ap (λ xs. string_bytes out ++ xs) (sym empty) ∙ handed.1
          ∙ ap (λ xs. string_bytes c.args.out.now ++ xs) released.1,
    )
