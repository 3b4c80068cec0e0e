-- The style is read of what stands before the row in its line.
use Rattle.std.proofs.Common.{◌≡◌, ◌≤◌, Some, true, length, take, ap, sym, subst, ◌∙◌}
use Rattle.std.specs.List.{slice_get}
use Rattle.std.specs.Str.{IsUtf8}
use Rattle.minus_text.specs.Lines.{unfinished_line}
use Rattle.minus_text.specs.LinePlaces.{row_places}
use Rattle.minus_text.specs.RowText.{IsUnescapedFrom}
use Rattle.minus_text.specs.Styles.{read_text}
use Rattle.minus_text.specs.declared.layout.Layout.{Layout}
use Rattle.minus_text.proofs.ScreenLaws.{is_so, is_not}
use Rattle.minus_text.proofs.PushedPlacesLaws.{place_within, none_kept, kept_reads, no_row_kept}
use Rattle.minus_text.proofs.store.Store.style_source.Goals as goal

pub returns-then-not-layout : goal.returns-then-not-layout
returns-then-not-layout c =
    none_kept c.args.self.now c.args.i (ap (λ (l : Layout). l.carry_style) (sym c.layout.ensures) ∙ is_not c.layout.result.carry_style c.if-not-layout.true)

pub style_bytes-requires-clause-place : goal.style_bytes-requires-clause-place
style_bytes-requires-clause-place c =
    let u : IsUtf8 c.args.self.now.text = subst IsUtf8 c.orig_text-text.ensures c.orig_text-text.utf8 in
    let there : slice_get (row_places c.args.self.now) c.args.i ≡ Some c.in-Some.place = sym c.row_place.ensures ∙ c.in-Some.is in
    subst (λ t. c.in-Some.place.start ≤ length t) (sym c.orig_text-text.ensures) (place_within c.args.self.now c.args.i c.in-Some.place u there)

pub style_bytes-requires-clause-known : goal.style_bytes-requires-clause-known
style_bytes-requires-clause-known c = λ is. subst (IsUnescapedFrom 0) (sym c.orig_text-text.ensures) (c.is_unescaped.ensures is)

pub returns-in-Some : goal.returns-in-Some
returns-in-Some c =
    let u : IsUtf8 c.args.self.now.text = subst IsUtf8 c.orig_text-text.ensures c.orig_text-text.utf8 in
    let on : c.args.self.now.layout.carry_style ≡ true = ap (λ (l : Layout). l.carry_style) (sym c.layout.ensures) ∙ is_so c.layout.result.carry_style c.if-not-layout.false in
    let there : Some c.in-Some.place ≡ slice_get (row_places c.args.self.now) c.args.i = sym c.in-Some.is ∙ c.row_place.ensures in
    let reads = c.style_bytes.ensures ∙ ap (λ t. read_text (unfinished_line (take c.in-Some.place.start t))) c.orig_text-text.ensures in
    kept_reads c.args.self.now c.args.i c.in-Some.place c.style_bytes.result.now u on there reads

pub returns-in-None : goal.returns-in-None
returns-in-None c =
    let u : IsUtf8 c.args.self.now.text = subst IsUtf8 c.orig_text-text.ensures c.orig_text-text.utf8 in
    let on : c.args.self.now.layout.carry_style ≡ true = ap (λ (l : Layout). l.carry_style) (sym c.layout.ensures) ∙ is_so c.layout.result.carry_style c.if-not-layout.false in
    no_row_kept c.args.self.now c.args.i u on (sym c.in-None.is ∙ c.row_place.ensures)
