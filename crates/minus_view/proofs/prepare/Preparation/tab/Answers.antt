use Rattle.std.proofs.Common.{ℕ, Bool, ◌≡◌, ◌+◌, ◌-◌, ◌<◌, ◌%◌, ◌++◌, ap, ap₂, sym, subst, ◌∙◌, arith, string_bytes}
use Rattle.std.proofs.lemmas.List.{append-nil}
use Rattle.std.proofs.Math.Nat.{zero-mod}
use Rattle.minus_view.specs.Prepared.{glyph_bytes, glyph_columns, held, IsPlain}
use Rattle.minus_view.specs.TabColumns.{apart, tab_len}
use Rattle.minus_view.specs.TabMarks.{tab_text}
use Rattle.minus_view.specs.declared.prepare.Shape.{Shape}
use Rattle.minus_view.proofs.ExpandedLaws.{apart_some, tab_ends}
use Rattle.minus_view.proofs.prepare.Preparation.tab.Goals as goal

-- whether tabs are marked
abbrev marks : Shape → Bool
marks shape = shape.marks_tabs

pub returns-clause-plain : goal.returns-clause-plain
returns-clause-plain c = λ m tabs col plain was.
    let before = c.args.self.now in
    let released = c.in_ok-release.ensures.plain plain in
    let kept = c.in_ok-open.ensures.kept released.0.colours released.0.unlinked released.0.look in
    let opened : IsPlain c.open.new.self = subst (λ p. IsPlain p) (sym kept) released.0 in
    let none = c.in_ok-open.ensures.held ∙ c.in_ok-release.ensures.none in
    let text = string_bytes c.open.new.self.sheet.text in
    let base : text ≡ held before = sym (append-nil text) ∙ ap (λ g. text ++ g) (sym (ap glyph_bytes none)) ∙ ap held kept ∙ released.1 in
    let stands = c.in_ok-release.ensures.column m tabs col was in
    let gone = ap glyph_columns c.in_ok-release.ensures.none in
    let column = c.open.new.self.column in
    let same : c.apart-tabs.result ≡ tabs = c.apart-tabs.ensures.is ∙ ap apart c.in_ok-open.ensures.shape ∙ stands.apart in
    let start : column % tabs ≡ col % tabs = ap (λ k. k % tabs) (omega (arith, gone, c.in_ok-open.ensures.column)) ∙ stands.column in
    let count : c.apart-tabs.result - column % c.apart-tabs.result ≡ tab_len tabs col = ap (λ t. t - column % t) same ∙ ap (λ k. tabs - k) start in
    let marked : c.open.new.self.shape.marks_tabs ≡ m = ap marks c.in_ok-open.ensures.shape ∙ stands.marked in
    let after = string_bytes c.put_tab.new.self.text in (
      record {
        place = opened.place;
        back = opened.back;
        look = opened.look;
        colours = opened.colours;
        unlinked = opened.unlinked;
        styled = c.in_ok-put_tab.ensures.styled ∙ opened.styled;
        glyph = opened.glyph;
        keeps = opened.keeps;
      },
      ap (λ g. after ++ g) (ap glyph_bytes none) ∙ append-nil after ∙ c.in_ok-put_tab.ensures.put opened.styled
          ∙ ap (λ xs. xs ++ tab_text c.open.new.self.shape.marks_tabs (c.apart-tabs.result - column % c.apart-tabs.result)) base
          ∙ ap₂ (λ b n. held before ++ tab_text b n) marked count,
    )

pub returns-clause-column : goal.returns-clause-column
returns-clause-column c = λ m tabs col was.
    let stands = c.in_ok-release.ensures.column m tabs col was in
    let same = ap apart c.in_ok-open.ensures.shape ∙ stands.apart in
    let none = c.in_ok-open.ensures.held ∙ c.in_ok-release.ensures.none in
    record {
      marked = ap marks c.in_ok-open.ensures.shape ∙ stands.marked;
      apart = same;
      column = ap (λ n. (0 + n) % tabs) (ap glyph_columns none) ∙ zero-mod tabs
          ∙ sym (tab_ends tabs col (subst (λ (t : ℕ). 0 < t) same (apart_some c.open.new.self.shape)));
    }
