-- What a term finds in a text that goes on: what it found in the rows that stay, and what it finds in what is formed.
use Rattle.std.proofs.Common.{inl, inr, ◌≡◌, ℕ, ◌+◌, ◌≤◌, Bool, true, false, cond, nat_le, List, [], ◌∷◌, ◌++◌, length, take, Option, None, Some, refl, sym, ap, ap₂, ◌∙◌, arith, length-append}
use Rattle.std.specs.Str.Lines.{lines}
use Rattle.std.proofs.lemmas.Bool.{cases_Bool}
use Rattle.std.proofs.lemmas.List.Concat.{flat_map-append}
use Rattle.regex.specs.Patterns.{Re}
use Rattle.minus_text.specs.declared.formed.Plan.{Plan}
use Rattle.minus_text.specs.declared.line_numbers.LineNumbers.{LineNumbers}
use Rattle.minus_text.specs.declared.layout.Wrap.{Wrap}
use Rattle.minus_text.specs.Layouts.{own_rows}
use Rattle.minus_text.specs.Lines.{finished_lines, unfinished_line}
use Rattle.minus_text.specs.Document.{Document, rows_of, rows_of_lines, unfinished_rows, wrap_in, pushed, plan_of, first_formed}
use Rattle.minus_text.specs.Fragments.{Fragment, rows_in}
use Rattle.minus_text.specs.Found.{RowMatches, found_in_rows, found_above, found_from}
use Rattle.minus_text.specs.LineFinds.{finds_in_lines}
use Rattle.minus_text.specs.Finds.{found_in, finds}
use Rattle.minus_text.specs.FormatResults.{formed_by}
use Rattle.minus_text.specs.FoundBy.{FoundGoesOn}
use Rattle.minus_text.proofs.DocumentLaws.{length-rows_of_lines}
use Rattle.minus_text.proofs.PushedLaws.{lines_pushed, keeps_wrap}
use Rattle.std.proofs.lemmas.List.{take_at}
use Rattle.minus_text.proofs.FoundByLaws.{goes_on}
use Rattle.minus_text.proofs.FoundFromLaws.{behind_all}
use Rattle.minus_text.proofs.FindsLaws.{finds_append, above_front, from_front, open_part}

-- what a term finds in lines, whose first row has a number
abbrev pub of_lines : Option Re → Bool → Wrap → ℕ → List (List ℕ) → List RowMatches
of_lines None by_lines wrap n ls = []
of_lines (Some re) by_lines wrap n ls = cond by_lines (finds_in_lines re wrap n ls) (found_in_rows re n (rows_of_lines wrap ls))

pub in_fragment : (term : Option Re) (by_lines : Bool) (n : ℕ) (f : Fragment) → found_in term by_lines n f ≡ of_lines term by_lines f.wrap n (lines f.text)
unfolding rows_in
in_fragment None by_lines n f = refl
in_fragment (Some re) by_lines n f = refl

pub in_document : (term : Option Re) (d : Document) → finds term d ≡ of_lines term d.layout.match_lines (wrap_in d) 0 (lines d.text)
unfolding rows_of
in_document None d = refl
in_document (Some re) d = refl

-- ---- lines behind lines

rows_both : (wrap : Wrap) (xs ys : List (List ℕ)) → rows_of_lines wrap (xs ++ ys) ≡ rows_of_lines wrap xs ++ rows_of_lines wrap ys
rows_both wrap xs ys = flat_map-append (own_rows wrap) xs ys

lines_go_on : (term : Option Re) (by_lines : Bool) (wrap : Wrap) (n : ℕ) (xs ys zs : List (List ℕ)) → n ≡ length (rows_of_lines wrap xs)
    → found_above n (of_lines term by_lines wrap 0 (xs ++ ys)) ++ of_lines term by_lines wrap n zs ≡ of_lines term by_lines wrap 0 (xs ++ zs)
lines_go_on None by_lines wrap n xs ys zs is = refl
lines_go_on (Some re) true wrap n xs ys zs is =
    let start : n ≡ 0 + length (rows_of_lines wrap xs) = omega (arith, is) in
    ap (λ l. l ++ finds_in_lines re wrap n zs) (above_front re wrap n xs ys is)
    ∙ ap (λ k. finds_in_lines re wrap 0 xs ++ finds_in_lines re wrap k zs) start
    ∙ sym (finds_append re wrap 0 xs zs)
lines_go_on (Some re) false wrap n xs ys zs is =
    let front = rows_of_lines wrap xs in
    let split = rows_both wrap xs ys in
    let few : n ≤ length (rows_of_lines wrap (xs ++ ys)) = omega (arith, is, ap length split, length-append front (rows_of_lines wrap ys)) in
    goes_on re n (rows_of_lines wrap (xs ++ ys)) (rows_of_lines wrap zs) few
    ∙ ap (λ l. found_in_rows re 0 (take n l ++ rows_of_lines wrap zs)) split
    ∙ ap (λ l. found_in_rows re 0 (l ++ rows_of_lines wrap zs)) (take_at front (rows_of_lines wrap ys) n (sym is))
    ∙ ap (found_in_rows re 0) (sym (rows_both wrap xs zs))

lines_from : (term : Option Re) (by_lines : Bool) (wrap : Wrap) (n : ℕ) (xs ys : List (List ℕ)) → n ≡ length (rows_of_lines wrap xs)
    → found_from n (of_lines term by_lines wrap 0 (xs ++ ys)) ≡ of_lines term by_lines wrap n ys
lines_from None by_lines wrap n xs ys is = refl
lines_from (Some re) true wrap n xs ys is = from_front re wrap n xs ys is
lines_from (Some re) false wrap n xs ys is =
    let at : 0 + length (rows_of_lines wrap xs) ≡ n = omega (arith, is) in
    ap (λ l. found_from n (found_in_rows re 0 l)) (rows_both wrap xs ys) ∙ behind_all re 0 n (rows_of_lines wrap xs) (rows_of_lines wrap ys) at

above_none : (found : List RowMatches) → found_above 0 found ≡ []
above_none [] = refl
above_none (r ∷ rs) = let t : nat_le 0 r.row ≡ true = grind arith in rw t refl

from_none : (found : List RowMatches) → found_from 0 found ≡ found
from_none [] = refl
from_none (r ∷ rs) = let t : nat_le 0 r.row ≡ true = grind arith in rw t refl

-- ---- a push

module _ (term : Option Re) (d : Document) (piece : List ℕ) (numbers : LineNumbers) (cols : ℕ) where
  abbrev plan : Plan
  plan = plan_of d piece numbers cols

  abbrev by_lines : Bool
  by_lines = d.layout.match_lines

  -- the number of rows of the finished lines
  finished_first : plan.keeps ≡ true → first_formed d plan ≡ length (rows_of_lines (wrap_in d) (finished_lines d.text))
  unfolding rows_of unfinished_rows
  finished_first t = let all = length-rows_of_lines d.text (wrap_in d) in rw t (omega (arith, all))

  text_kept : plan.keeps ≡ true → (formed_by d.text piece plan).text ≡ unfinished_line d.text ++ piece
  text_kept t = rw t refl

  text_anew : plan.keeps ≡ false → (formed_by d.text piece plan).text ≡ d.text ++ piece
  text_anew f = rw f refl

  first_anew : plan.keeps ≡ false → first_formed d plan ≡ 0
  first_anew f = rw f refl

  -- what is formed, as lines
  formed_lines : plan.keeps ≡ true → found_in term by_lines (first_formed d plan) (formed_by d.text piece plan) ≡ of_lines term by_lines (wrap_in d) (first_formed d plan) (lines (unfinished_line d.text ++ piece))
  formed_lines t =
      in_fragment term by_lines (first_formed d plan) (formed_by d.text piece plan)
      ∙ ap₂ (λ w x. of_lines term by_lines w (first_formed d plan) (lines x)) (keeps_wrap d piece numbers cols t) (text_kept t)

  all_anew : plan.keeps ≡ false → found_in term by_lines (first_formed d plan) (formed_by d.text piece plan) ≡ finds term (pushed d piece numbers cols)
  all_anew f =
      in_fragment term by_lines (first_formed d plan) (formed_by d.text piece plan)
      ∙ ap₂ (λ n x. of_lines term by_lines plan.wrap n (lines x)) (first_anew f) (text_anew f)
      ∙ sym (in_document term (pushed d piece numbers cols))

  after_lines : plan.keeps ≡ true → finds term (pushed d piece numbers cols) ≡ of_lines term by_lines (wrap_in d) 0 (finished_lines d.text ++ lines (unfinished_line d.text ++ piece))
  after_lines t =
      in_document term (pushed d piece numbers cols)
      ∙ ap₂ (λ w ls. of_lines term by_lines w 0 ls) (keeps_wrap d piece numbers cols t) (lines_pushed d.text piece)

  pub goes_on_from_line : found_above (first_formed d plan) (finds term d) ++ found_in term by_lines (first_formed d plan) (formed_by d.text piece plan) ≡ finds term (pushed d piece numbers cols)
  goes_on_from_line = elim (cases_Bool plan.keeps) [
    | inl t ↦
        let n = first_formed d plan in
        let o = open_part d.text in
        ap₂ (λ f g. found_above n f ++ g) (in_document term d ∙ ap (of_lines term by_lines (wrap_in d) 0) o.1) (formed_lines t)
        ∙ lines_go_on term by_lines (wrap_in d) n (finished_lines d.text) o.0 (lines (unfinished_line d.text ++ piece)) (finished_first t)
        ∙ sym (after_lines t)
    | inr f ↦
        ap (λ n. found_above n (finds term d) ++ found_in term by_lines (first_formed d plan) (formed_by d.text piece plan)) (first_anew f)
        ∙ ap (λ l. l ++ found_in term by_lines (first_formed d plan) (formed_by d.text piece plan)) (above_none (finds term d))
        ∙ all_anew f
  ]

  pub formed_from : found_from (first_formed d plan) (finds term (pushed d piece numbers cols)) ≡ found_in term by_lines (first_formed d plan) (formed_by d.text piece plan)
  formed_from = elim (cases_Bool plan.keeps) [
    | inl t ↦
        ap (found_from (first_formed d plan)) (after_lines t)
        ∙ lines_from term by_lines (wrap_in d) (first_formed d plan) (finished_lines d.text) (lines (unfinished_line d.text ++ piece)) (finished_first t)
        ∙ sym (formed_lines t)
    | inr f ↦
        ap (λ n. found_from n (finds term (pushed d piece numbers cols))) (first_anew f) ∙ from_none (finds term (pushed d piece numbers cols)) ∙ sym (all_anew f)
  ]

pub found_goes_on : FoundGoesOn
unfolding rows_of
found_goes_on None d piece numbers cols p is alike = refl
found_goes_on (Some re) d piece numbers cols p is alike =
    let same : p.match_lines ≡ d.layout.match_lines = alike refl in
    elim (cases_Bool p.match_lines) [
      | inl t ↦
          let b = is.its_lines t in
          let plan = plan_of d piece numbers cols in
          let tail : p.tail ≡ formed_by d.text piece plan = ap₂ (λ x w. (let f : Fragment = record { text = x; wrap = w } in f)) b.its_text b.its_wrap in
          ap (λ m. found_above p.kept_rows (finds (Some re) d) ++ found_in (Some re) m p.kept_rows p.tail) same
          ∙ ap₂ (λ n f. found_above n (finds (Some re) d) ++ found_in (Some re) d.layout.match_lines n f) b.first tail
          ∙ goes_on_from_line (Some re) d piece numbers cols
      | inr f ↦
          let off : d.layout.match_lines ≡ false = sym same ∙ f in
          rw (f, off) (goes_on re p.kept_rows (rows_of d) (rows_in p.tail) is.few ∙ ap (found_in_rows re 0) (sym is.rows))
    ]
