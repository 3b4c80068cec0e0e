-- A row that stays keeps its style, and one that is formed has that of what stands before it.
use Rattle.std.proofs.Common.{◌≡◌, ◌<◌, ◌≤◌, true, ap, sym, subst, ◌∙◌, arith}
use Rattle.std.specs.Str.{IsUtf8}
use Rattle.minus_text.specs.declared.layout.Layout.{Layout}
use Rattle.minus_text.proofs.ScreenLaws.{is_so, is_not}
use Rattle.minus_text.proofs.PushedPlacesLaws.{none_carried, styles_of_formed, styles_stay_behind}
use Rattle.minus_text.proofs.carried_style.source_after.Goals as goal

pub returns-then-i-kept : goal.returns-then-i-kept
returns-then-i-kept c =
    let d = c.args.store.now in
    let p = c.args.push.now in
    let u : IsUtf8 d.text = subst IsUtf8 c.orig_text-text.ensures c.orig_text-text.utf8 in
    let l : c.args.i < p.kept_rows = omega (arith, c.if-i-kept.true, c.kept_rows-kept.ensures.value) in
    c.style_source.ensures ∙ sym (styles_stay_behind d c.args.piece.now p.numbers p.cols p c.args.i u c.utf8.piece c.requires l)

pub returns-then-not-layout : goal.returns-then-not-layout
returns-then-not-layout c =
    let p = c.args.push.now in
    none_carried c.args.store.now c.args.piece.now p.numbers p.cols c.args.i (ap (λ (l : Layout). l.carry_style) (sym c.layout.ensures) ∙ is_not c.layout.result.carry_style c.if-not-layout.true)

pub returns : goal.returns
returns c =
    let d = c.args.store.now in
    let p = c.args.push.now in
    let u : IsUtf8 d.text = subst IsUtf8 c.orig_text-text.ensures c.orig_text-text.utf8 in
    let on : d.layout.carry_style ≡ true = ap (λ (l : Layout). l.carry_style) (sym c.layout.ensures) ∙ is_so c.layout.result.carry_style c.if-not-layout.false in
    let le : p.kept_rows ≤ c.args.i = omega (arith, c.if-i-kept.false, c.kept_rows-kept.ensures.value) in
    let count = c.kept_rows-kept.ensures.value in
    search (c.style_source-2.ensures, styles_of_formed d c.args.piece.now p.numbers p.cols p c.args.i u c.utf8.piece c.requires le on, count, c.orig_text-text.ensures)
