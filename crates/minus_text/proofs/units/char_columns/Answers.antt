-- The columns of a character.
use Rattle.std.proofs.Common.{◌≡◌, ◌∙◌, ap, unwrap_or}
use Rattle.minus_text.specs.Units.{char_columns}
use Rattle.minus_text.proofs.UnitsLaws.{char_columns-le}
use Rattle.minus_text.proofs.units.char_columns.Goals as goal

pub returns-clause-value : goal.returns-clause-value
unfolding char_columns
returns-clause-value c = c.unwrap_or.ensures ∙ ap (λ o. unwrap_or o 0) c.width.ensures.value

pub returns-clause-few : goal.returns-clause-few
unfolding char_columns
returns-clause-few c =
    let e : c.unwrap_or.result ≡ char_columns c.args.c = c.unwrap_or.ensures ∙ ap (λ o. unwrap_or o 0) c.width.ensures.value in
    rw e (char_columns-le c.args.c)
