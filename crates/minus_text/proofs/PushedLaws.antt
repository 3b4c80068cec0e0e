-- The rows of a text that goes on: those of its finished lines, and those of its unfinished line with what was pushed.
use Rattle.std.proofs.Common.{◌≡◌, ℕ, ◌-◌, ◌&&◌, Bool, true, eqb, List, [], ◌∷◌, ◌++◌, length, take, refl, sym, ap, ◌∙◌, arith, inl, inr}
use Rattle.std.specs.Str.Lines.{lines}
use Rattle.std.proofs.lemmas.Bool.{cases_Bool, and_parts, eqb-true}
use Rattle.std.proofs.lemmas.List.{take_all, take_at}
use Rattle.std.proofs.lemmas.List.Concat.{flat_map-append}
use Rattle.minus_text.specs.declared.layout.Wrap.{Wrap}
use Rattle.minus_text.specs.declared.formed.Plan.{Plan}
use Rattle.minus_text.specs.declared.layout.Layout.{Layout}
use Rattle.minus_text.specs.declared.line_numbers.LineNumbers.{LineNumbers}
use Rattle.minus_text.specs.Layouts.{own_rows, wrapped}
use Rattle.minus_text.specs.Lines.{cut, finished_lines, unfinished_line}
use Rattle.minus_text.specs.Document.{Document, rows_of, rows_of_lines, open_rows, unfinished_rows, pushed, wrap_in, margin_in, keeps_rows, plan_of}
use Rattle.minus_text.specs.Fragments.{rows_in}
use Rattle.minus_text.proofs.LinesLaws.{cut-append}
use Rattle.minus_text.proofs.DocumentLaws.{lines_closed, lines_open, length-rows_of_lines}
use Rattle.minus_text.proofs.ScreenLaws.{lines_front}

-- the lines of a text that went on: its finished lines, and those of its unfinished line and the piece
pub lines_pushed : (text piece : List ℕ) → lines (text ++ piece) ≡ finished_lines text ++ lines (unfinished_line text ++ piece)
lines_pushed text piece = lines_front (text ++ piece) (unfinished_line text ++ piece) (cut text).closed (cut-append text piece)

-- the rows of the finished lines come first
front_rows : (text : List ℕ) (wrap : Wrap) → take (length (rows_of_lines wrap (finished_lines text))) (rows_of_lines wrap (lines text)) ≡ rows_of_lines wrap (finished_lines text)
front_rows text wrap = elim (cases_Bool (eqb (length (unfinished_line text)) 0)) [
  | inl e ↦ let same = lines_closed text e in rw same (take_all (length (rows_of_lines wrap (finished_lines text))) (rows_of_lines wrap (finished_lines text)) (omega arith))
  | inr e ↦
      let split : rows_of_lines wrap (lines text) ≡ rows_of_lines wrap (finished_lines text) ++ rows_of_lines wrap (unfinished_line text ∷ []) =
      ap (rows_of_lines wrap) (lines_open text e) ∙ flat_map-append (own_rows wrap) (finished_lines text) (unfinished_line text ∷ []) in
      rw split (take_at (rows_of_lines wrap (finished_lines text)) (rows_of_lines wrap (unfinished_line text ∷ [])) (length (rows_of_lines wrap (finished_lines text))) refl)
]

-- where they stay
rows_going_on : (text piece : List ℕ) (wrap : Wrap) (n : ℕ) → n ≡ length (rows_of_lines wrap (lines text)) - length (open_rows wrap (unfinished_line text))
    → rows_of_lines wrap (lines (text ++ piece)) ≡ take n (rows_of_lines wrap (lines text)) ++ rows_of_lines wrap (lines (unfinished_line text ++ piece))
rows_going_on text piece wrap n e =
    let counts = length-rows_of_lines text wrap in
    let first : n ≡ length (rows_of_lines wrap (finished_lines text)) = omega (arith, counts, e) in
    let more : List (List ℕ) = rows_of_lines wrap (lines (unfinished_line text ++ piece)) in
    let halves : rows_of_lines wrap (lines (text ++ piece)) ≡ rows_of_lines wrap (finished_lines text) ++ more =
    ap (rows_of_lines wrap) (lines_pushed text piece) ∙ flat_map-append (own_rows wrap) (finished_lines text) (lines (unfinished_line text ++ piece)) in
    halves ∙ ap (λ rs. rs ++ more) (sym (front_rows text wrap)) ∙ ap (λ m. take m (rows_of_lines wrap (lines text)) ++ more) (sym first)

-- how a push forms, from what numbers take before it and after it
pub plan_is : (d : Document) (piece : List ℕ) (numbers : LineNumbers) (cols : ℕ) (layout : Layout) (after before : ℕ) (keeps : Bool) (wrap : Wrap) → layout ≡ d.layout → after ≡ margin_in (pushed d piece numbers cols) → before ≡ margin_in d
    → keeps ≡ (eqb cols layout.cols && eqb after before) → wrap ≡ wrapped layout.wrapping (cols - after) → (let p : Plan = record { keeps = keeps; wrap = wrap } in p) ≡ plan_of d piece numbers cols
plan_is d piece numbers cols layout after before keeps wrap l a b k w = rw (k, w, l, a, b) refl

-- a push that keeps the rows wraps as before
pub keeps_wrap : (d : Document) (piece : List ℕ) (numbers : LineNumbers) (cols : ℕ) → keeps_rows d piece numbers cols ≡ true → wrap_in (pushed d piece numbers cols) ≡ wrap_in d
keeps_wrap d piece numbers cols e =
    let both = and_parts (eqb cols d.layout.cols) (eqb (margin_in (pushed d piece numbers cols)) (margin_in d)) e in
    let same : cols ≡ d.layout.cols = eqb-true cols d.layout.cols both.0 in
    let margins : margin_in (pushed d piece numbers cols) ≡ margin_in d = eqb-true (margin_in (pushed d piece numbers cols)) (margin_in d) both.1 in
    ap (λ n. wrapped d.layout.wrapping (cols - n)) margins ∙ ap (λ n. wrapped d.layout.wrapping (n - margin_in d)) same

-- and leaves the rows of the finished lines, and those that it forms
pub rows_kept : (d : Document) (piece : List ℕ) (numbers : LineNumbers) (cols : ℕ) → keeps_rows d piece numbers cols ≡ true
    → rows_of (pushed d piece numbers cols) ≡ take (length (rows_of d) - unfinished_rows d) (rows_of d) ++ rows_in (record { text = unfinished_line d.text ++ piece; wrap = wrap_in d })
unfolding rows_of rows_in unfinished_rows
rows_kept d piece numbers cols e =
    let same : wrap_in (pushed d piece numbers cols) ≡ wrap_in d = keeps_wrap d piece numbers cols e in
    ap (λ w. rows_of_lines w (lines (d.text ++ piece))) same ∙ rows_going_on d.text piece (wrap_in d) (length (rows_of_lines (wrap_in d) (lines d.text)) - length (open_rows (wrap_in d) (unfinished_line d.text))) refl
