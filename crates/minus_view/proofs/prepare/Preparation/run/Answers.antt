use Rattle.std.proofs.Common.{ℕ, ◌≡◌, ◌+◌, ◌<◌, ◌%◌, ◌++◌, ◌∷◌, [], true, string_bytes, encode_utf8, refl, ap, sym, subst, ◌∙◌, arith}
use Rattle.std.specs.List.{list_all}
use Rattle.std.proofs.lemmas.Bool.{and_parts}
use Rattle.std.proofs.lemmas.List.{append_assoc, append-nil}
use Rattle.std.proofs.lemmas.List.Folds.{list_all-append}
use Rattle.minus_view.specs.Shown.{is_control, is_plain}
use Rattle.minus_view.specs.Prepared.{char_columns, glyph_bytes, glyph_columns, held}
use Rattle.minus_view.specs.TabColumns.{apart, column_after}
use Rattle.minus_view.specs.declared.prepare.Shape.{Shape}
use Rattle.minus_view.proofs.ExpandedLaws.{add_alike, all_plain, apart_some, column_after-append, column_behind, printed_column, printed_shown}
use Rattle.minus_view.proofs.prepare.Preparation.run.Goals as goal

pub returns-in_ok-put_plain-in-Some-clause-plain : goal.returns-in_ok-put_plain-in-Some-clause-plain
returns-in_ok-put_plain-in-Some-clause-plain c = λ newlines.
    let before = c.args.self.now in
    let bytes = c.args.bytes.now in
    let front = c.in-Some.front.now in
    let last = c.in-Some.last.now in
    let released = c.in_ok-release.ensures.plain (c.requires.begun newlines) in
    let put = c.in_ok-put_plain-in-Some.ensures.plain newlines in
    let joined : bytes ≡ front ++ last ∷ [] = c.in-Some.ensures.cases.0 in
    let split = and_parts (list_all (is_plain true) front) (list_all (is_plain true) (last ∷ []))
    (sym (list_all-append (is_plain true) front (last ∷ [])) ∙ ap (list_all (is_plain true)) (sym joined)
    ∙ all_plain c.args.newlines bytes c.requires.printed) in
    let printed = printed_shown last (and_parts (is_plain true last) true split.1).0 c.if-last-ne10.true in
    let text = string_bytes c.release.new.self.sheet.text in
    let base : text ≡ held before = sym (append-nil text) ∙ ap (λ g. text ++ g) (sym (ap glyph_bytes c.in_ok-release.ensures.none)) ∙ released.1 in (
      record {
        place = put.0.place;
        back = put.0.back;
        look = put.0.look;
        colours = put.0.colours;
        unlinked = put.0.unlinked;
        styled = put.0.styled;
        keeps = put.0.keeps;
        glyph = (refl, ap is_control c.from.ensures ∙ printed.0);
      },
      ap (λ xs. string_bytes c.put_plain.new.self.sheet.text ++ xs) (ap encode_utf8 c.from.ensures ∙ printed.1)
          ∙ ap (λ xs. xs ++ last ∷ []) (put.1 ∙ ap (λ xs. xs ++ front) base) ∙ append_assoc (held before) front (last ∷ [])
          ∙ ap (λ xs. held before ++ xs) (sym joined),
    )

pub returns-in_ok-put_plain-in-Some-clause-column : goal.returns-in_ok-put_plain-in-Some-clause-column
returns-in_ok-put_plain-in-Some-clause-column c = λ m tabs col was.
    let bytes = c.args.bytes.now in
    let front = c.in-Some.front.now in
    let last = c.in-Some.last.now in
    let stands = c.in_ok-release.ensures.column m tabs col was in
    let some = subst (λ (t : ℕ). 0 < t) stands.apart (apart_some c.release.new.self.shape) in
    let gone = ap glyph_columns c.in_ok-release.ensures.none in
    let ends = column_behind tabs col _ _ _ _ front some stands.apart gone stands.column c.in_ok-put_plain-in-Some.ensures.column in
    let joined : bytes ≡ front ++ last ∷ [] = c.in-Some.ensures.cases.0 in
    let all = all_plain c.args.newlines bytes c.requires.printed in
    let split = and_parts (list_all (is_plain true) front) (list_all (is_plain true) (last ∷ []))
    (sym (list_all-append (is_plain true) front (last ∷ [])) ∙ ap (list_all (is_plain true)) (sym joined) ∙ all) in
    let printed = printed_column last (and_parts (is_plain true last) true split.1).0 c.if-last-ne10.true in
    let one = ap char_columns c.from.ensures ∙ printed.0 in
    let whole : column_after tabs col bytes ≡ column_after tabs col front + 1 =
    ap (column_after tabs col) joined ∙ column_after-append tabs col front (last ∷ []) ∙ printed.1 tabs (column_after tabs col front) in
    record {
      marked = ap (λ (s : Shape). s.marks_tabs) c.in_ok-put_plain-in-Some.ensures.shape ∙ stands.marked;
      apart = ap apart c.in_ok-put_plain-in-Some.ensures.shape ∙ stands.apart;
      column = ap (λ n. (c.put_plain.new.self.column + n) % tabs) one
          ∙ add_alike tabs c.put_plain.new.self.column (column_after tabs col front) 1 ends ∙ ap (λ n. n % tabs) (sym whole);
    }

pub returns-in_ok-put_plain-in_default-clause-column : goal.returns-in_ok-put_plain-in_default-clause-column
returns-in_ok-put_plain-in_default-clause-column c = λ m tabs col was.
    let stands = c.in_ok-release.ensures.column m tabs col was in
    let some = subst (λ (t : ℕ). 0 < t) stands.apart (apart_some c.release.new.self.shape) in
    let gone = ap glyph_columns c.in_ok-release.ensures.none in
    let still = ap glyph_columns (c.in_ok-put_plain-in_default.ensures.held ∙ c.in_ok-release.ensures.none) in
    record {
      marked = ap (λ (s : Shape). s.marks_tabs) c.in_ok-put_plain-in_default.ensures.shape ∙ stands.marked;
      apart = ap apart c.in_ok-put_plain-in_default.ensures.shape ∙ stands.apart;
      column = ap (λ k. k % tabs) (omega (arith, still))
          ∙ column_behind tabs col _ _ _ _ c.args.bytes.now some stands.apart gone stands.column c.in_ok-put_plain-in_default.ensures.column;
    }
