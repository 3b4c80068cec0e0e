-- A text that is added to the displayed one.
use Rattle.std.proofs.Common.{◌≡◌, ℕ, ◌+◌, ◌-◌, ◌==◌, ◌&&◌, ◌++◌, min, Bool, true, false, List, length, inl, inr, if◌then◌else◌, arith, Option, refl, sym, ap, ap₂, subst, ◌∙◌}
use Rattle.regex.specs.Patterns.{Re}
use Rattle.std.specs.Option.{unwrap_or}
use Rattle.std.proofs.lemmas.Bool.{eq-eqb, ne_eqb}
use Rattle.std.proofs.lemmas.Bool.Decides.{eqb_tells}
use Rattle.minus_text.specs.declared.line_numbers.LineNumbers.{LineNumbers}
use Rattle.minus_text.specs.NumberPrefix.{is_on, prefix_columns}
use Rattle.minus_text.specs.Layouts.{margin}
use Rattle.minus_text.specs.Document.{Document, rows_of, line_count, margin_in, pushed}
use Rattle.minus_text.specs.Found.{RowMatches, jump_rows}
use Rattle.minus_text.specs.Finds.{finds}
use Rattle.minus_text.specs.Matches.{nth_match}
use Rattle.minus_text.specs.Searched.{Searched, IsFoundBy}
use Rattle.minus_text.proofs.StoredKeptLaws.{columns_alike}
use Rattle.minus_state.specs.declared.state.PagerState.{PagerState}
use Rattle.minus_state.specs.declared.change.AppendStyle.TheVariants.{PartialUpdate, FullRedraw}
use Rattle.minus_state.specs.Appending.{append_style, search_mark_behind, first_changed, keeps_rows_with}
use Rattle.minus_state.specs.Control.{Control, document_of}
use Rattle.minus_state.specs.States.{control_of, term_of, IsFormed}
use Rattle.minus_state.specs.View.{prefix_in}

-- the rows are those of the control's document
pub document_is : (s : PagerState) → IsFormed s → s.screen.document ≡ document_of (control_of s)
document_is s f = ap (λ (x : Searched). x.document) f.screen

-- with the columns as they are, rows stay where the margin does
pub keeps_by_margin : (c : Control) (text : List ℕ) → keeps_rows_with c text ≡ (margin_in (pushed (document_of c) text c.numbers c.cols) == margin_in (document_of c))
keeps_by_margin c text = ap (λ (b : Bool). b && (margin_in (pushed (document_of c) text c.numbers c.cols) == margin_in (document_of c))) (eq-eqb c.cols c.cols refl)

margins : (p q : Bool) (m n : ℕ) → prefix_columns p m ≡ prefix_columns q n → (if p then prefix_columns true m + 1 else 0) ≡ (if q then prefix_columns true n + 1 else 0)
margins true true m n e = ap (λ (k : ℕ). k + 1) e
margins true false m n e = absurd (omega (arith, e))
margins false true m n e = absurd (omega (arith, e))
margins false false m n e = refl

columns_back : (p q : Bool) (m n : ℕ) → (if p then prefix_columns true m + 1 else 0) ≡ (if q then prefix_columns true n + 1 else 0) → prefix_columns p m ≡ prefix_columns q n
columns_back true true m n e = omega (arith, e)
columns_back true false m n e = absurd (omega (arith, e))
columns_back false true m n e = absurd (omega (arith, e))
columns_back false false m n e = refl

same_test : (a b c d : ℕ) → (a ≡ b → c ≡ d) → (c ≡ d → a ≡ b) → (a == b) ≡ (c == d)
same_test a b c d to from = elim (eqb_tells a b) [
  | inl e ↦ e.0 ∙ sym (eq-eqb c d (to e.1))
  | inr e ↦ e.0 ∙ sym (ne_eqb c d (λ q. e.1 (from q)))
]

-- margins are as wide where prefixes are: each is its prefix, and one column more where there is one
pub margins_alike : (a b : LineNumbers) (m n : ℕ) → prefix_columns (is_on a) m ≡ prefix_columns (is_on b) n → margin a m ≡ margin b n
margins_alike a b m n e = margins (is_on a) (is_on b) m n e

prefix_of_next : (s : PagerState) (text : List ℕ) (next : Document) → IsFormed s → next ≡ pushed s.screen.document text s.line_numbers s.cols → prefix_in next ≡ prefix_in (pushed (document_of (control_of s)) text s.line_numbers s.cols)
prefix_of_next s text next f e = ap (λ (d : Document). prefix_in d) e ∙ ap (λ (d : Document). prefix_in (pushed d text s.line_numbers s.cols)) (document_is s f)

-- the rows that stay are as they were where the prefix takes the same columns
pub keeps_by_prefix : (s : PagerState) (text : List ℕ) (next : Document) → IsFormed s → next ≡ pushed s.screen.document text s.line_numbers s.cols → (prefix_in next == prefix_in s.screen.document) ≡ keeps_rows_with (control_of s) text
keeps_by_prefix s text next f e =
    let c : Control = control_of s in
    let after : Document = pushed (document_of c) text s.line_numbers s.cols in
    let own = ap (λ (d : Document). prefix_in d) (document_is s f) in
    let then_is = prefix_of_next s text next f e in
    same_test (prefix_in next) (prefix_in s.screen.document) (margin_in after) (margin_in (document_of c))
    (λ same. margins_alike s.line_numbers s.line_numbers (line_count after) (line_count (document_of c)) (sym then_is ∙ same ∙ own))
    (λ q. then_is ∙ columns_alike s.line_numbers (line_count after) (line_count (document_of c)) q ∙ sym own)
    ∙ sym (keeps_by_margin c text)

-- prefixes are as wide where margins are
pub prefixes_alike : (a b : LineNumbers) (m n : ℕ) → (prefix_columns (is_on a) m == prefix_columns (is_on b) n) ≡ (margin a m == margin b n)
prefixes_alike a b m n = same_test (prefix_columns (is_on a) m) (prefix_columns (is_on b) n) (margin a m) (margin b n) (margins_alike a b m n) (columns_back (is_on a) (is_on b) m n)

-- the search mark, by what is found then
pub search_mark_is : (c : Control) (text : List ℕ) (keeps : Bool) (result : ℕ) (found : List RowMatches) → keeps ≡ keeps_rows_with c text → found ≡ finds c.term (document_of (record c { text = c.text ++ text }))
    → result ≡ (if keeps then min c.search_mark (length (jump_rows found) - 1) else unwrap_or (nth_match (jump_rows found) c.mark 0) 0) → result ≡ search_mark_behind c text
search_mark_is c text keeps result found same is e =
    e
    ∙ ap (λ (b : Bool). if b then min c.search_mark (length (jump_rows found) - 1) else unwrap_or (nth_match (jump_rows found) c.mark 0) 0) same
    ∙ ap (λ (fs : List RowMatches). if keeps_rows_with c text then min c.search_mark (length (jump_rows fs) - 1) else unwrap_or (nth_match (jump_rows fs) c.mark 0) 0) is

-- what is found after a push is what the term finds in the document that it leaves
pub found_pushed : (s : PagerState) (next : Searched) (d : Document) (pattern : Option Re) → IsFormed s → pattern ≡ term_of s → (IsFoundBy pattern s.screen → IsFoundBy pattern next) → next.document ≡ d → next.found ≡ finds (term_of s) d
found_pushed s next d pattern f term searched is =
    let old : IsFoundBy pattern s.screen = subst (λ (t : Option Re). IsFoundBy t s.screen) (sym term) (subst (λ (x : Searched). IsFoundBy (term_of s) x) (sym f.screen) refl) in
    searched old ∙ ap₂ finds term is

-- how it was appended
pub style_is : (s : PagerState) (text : List ℕ) (next : Document) (first : ℕ) (keeps : Bool) → IsFormed s → next ≡ pushed s.screen.document text s.line_numbers s.cols → keeps ≡ keeps_rows_with (control_of s) text → first ≡ first_changed (control_of s)
    → (if keeps then PartialUpdate (first, length (rows_of next)) else FullRedraw) ≡ append_style (control_of s) text
style_is s text next first keeps f e same at =
    let c : Control = control_of s in
    let n : ℕ = length (rows_of next) in
    let is : next ≡ document_of (record c { text = c.text ++ text }) = e ∙ ap (λ (d : Document). pushed d text s.line_numbers s.cols) (document_is s f) in
    ap (λ (b : Bool). if b then PartialUpdate (first, n) else FullRedraw) same
    ∙ ap (λ (m : ℕ). if keeps_rows_with c text then PartialUpdate (m, n) else FullRedraw) at
    ∙ ap (λ (d : Document). if keeps_rows_with c text then PartialUpdate (first_changed c, length (rows_of d)) else FullRedraw) is
