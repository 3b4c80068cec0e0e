-- The style that is carried to a row is that of what stands before it in its line.
use Rattle.std.proofs.Common.{inl, inr, ◌≡◌, ℕ, ◌+◌, ◌≤◌, true, false, eqb, cond, List, [], ◌∷◌, ◌++◌, length, map, take, drop, Option, None, Some, option_map, append_assoc, refl, sym, subst, ap, ◌∙◌, arith}
use Rattle.std.specs.List.{slice_get, flat_map, sum_by}
use Rattle.std.specs.Option.{unwrap_or}
use Rattle.std.specs.Str.{IsUtf8}
use Rattle.std.specs.Str.Lines.{lines, strip_carriage_return}
use Rattle.std.proofs.lemmas.Bool.{cases_Bool}
use Rattle.std.proofs.Math.Seq.{take-append-add}
use Rattle.std.proofs.lemmas.List.{append-nil, length-append, map-append, take-append-le, take-append-drop}
use Rattle.std.proofs.lemmas.List.Sums.{sum_by-cons}
use Rattle.std.proofs.lemmas.Option.{slice_get-map}
use Rattle.minus_text.specs.declared.rows.Span.{Span}
use Rattle.minus_text.specs.declared.layout.Wrap.{Wrap}
use Rattle.minus_text.specs.Layouts.{own_rows, own_places}
use Rattle.minus_text.specs.Rows.{ArePlaces}
use Rattle.minus_text.specs.Lines.{Cut, cut, whole, onto, unfinished_line}
use Rattle.minus_text.specs.LinePlaces.{row_places}
use Rattle.minus_text.specs.Document.{wrap_in}
use Rattle.minus_text.specs.Kept.{moved, bytes_of, line_stored, closed_stored, open_stored, stored_from}
use Rattle.minus_text.specs.Styles.{read_text, style_at}
use Rattle.minus_text.specs.CarriedStyles.{style_before, line_styles, style_with, StylesStandBefore}
use Rattle.minus_text.proofs.LayoutLaws.{own_places-are}
use Rattle.minus_text.proofs.LinesLaws.{lines-cut}
use Rattle.minus_text.proofs.PlacesLaws.{joined, cut_joined, sides, stripped}
use Rattle.minus_text.proofs.PreparedLaws.{whole_more, whole_front}
use Rattle.minus_text.proofs.ScreenLaws.{open_whole}
use Rattle.minus_text.proofs.StyleSourceLaws.{open_goes_on, newline_open}

-- the style before a place of a text
abbrev style_of : List ℕ → Span → List ℕ
style_of text s = (read_text (unfinished_line (take s.start text))).held

-- where a line begins, the style is read in the line alone
in_line : (text front line rest : List ℕ) (n : ℕ) → text ≡ front ++ (line ++ rest) → unfinished_line front ≡ [] → cut line ≡ whole line → n ≤ length line
    → unfinished_line (take (length front + n) text) ≡ take n line
in_line text front line rest n is none one le =
    let all : take n line ++ drop n line ≡ line = take-append-drop n line in
    let part : cut (take n line) ≡ whole (take n line) = whole_front (take n line) (drop n line) (rw all one) in
    ap (λ t. unfinished_line (take (length front + n) t)) is ∙ ap unfinished_line (take-append-add front (line ++ rest) n)
    ∙ ap (λ t. unfinished_line (front ++ t)) (take-append-le n line rest le) ∙ open_goes_on front (take n line) part ∙ ap (λ t. t ++ take n line) none

module _ (text front line rest : List ℕ) (is : text ≡ front ++ (line ++ rest)) (none : unfinished_line front ≡ []) (one : cut line ≡ whole line) where
  styles_moved : (ss : List Span) (rs : List (List ℕ)) → ArePlaces line ss rs → map (style_of text) (map (moved (length front)) ss) ≡ map (λ s. style_at line s.start) ss
  styles_moved [] [] h = refl
  styles_moved [] (r ∷ rs) h = absurd h
  styles_moved (s ∷ ss) [] h = absurd h
  styles_moved (s ∷ ss) (r ∷ rs) h =
      let here : style_of text (moved (length front) s) ≡ style_at line s.start = ap (λ t. (read_text t).held) (in_line text front line rest s.start is none one h.0.start.0) in
      ap (λ x. x ∷ map (style_of text) (map (moved (length front)) ss)) here ∙ ap (λ xs. style_at line s.start ∷ xs) (styles_moved ss rs h.1)

  line_moved : (wrap : Wrap) (at : ℕ) → IsUtf8 line → at ≡ length front → map (style_of text) (line_stored wrap at line) ≡ line_styles true wrap line
  line_moved wrap at u e = ap (λ n. map (style_of text) (line_stored wrap n line)) e ∙ styles_moved (own_places wrap line) (own_rows wrap line) (own_places-are wrap line u)

-- the lines of a cut have no newline
abbrev Wholes : List (List ℕ) → Type 0
Wholes [] = Unit {0}
Wholes (x ∷ xs) = (cut x ≡ whole x) × Wholes xs

closed_whole : (bs : List ℕ) → Wholes (cut bs).closed
closed_whole [] = tt
closed_whole (b ∷ bs) = elim (cases_Bool (eqb b 10)) [
  | inl t ↦ rw t (refl, closed_whole bs)
  | inr f ↦ rw f (onto_whole (cut bs).closed (cut bs).open_line f (closed_whole bs))
]
  where
    onto_whole : (c : List (List ℕ)) (o : List ℕ) → eqb b 10 ≡ false → Wholes c → Wholes (onto b c o).closed
    onto_whole [] o f h = tt
    onto_whole (x ∷ c) o f h = (whole_more b x f h.0, h.1)

-- the styles before the rows of lines, of which the first begins behind a front
module _ (text : List ℕ) (wrap : Wrap) (o : List ℕ) (open_one : cut o ≡ whole o) where
  abbrev last_lines : List (List ℕ)
  last_lines = cond (eqb (length o) 0) [] (o ∷ [])

  open_styles : (front : List ℕ) (at : ℕ) → text ≡ front ++ o → unfinished_line front ≡ [] → at ≡ length front → IsUtf8 o
      → map (style_of text) (open_stored wrap at o) ≡ flat_map (line_styles true wrap) last_lines
  open_styles front at is none e u = elim (cases_Bool (eqb (length o) 0)) [
    | inl t ↦ rw t refl
    | inr f ↦
        let here : text ≡ front ++ (o ++ []) = is ∙ ap (λ t. front ++ t) (sym (append-nil o)) in
        let line = line_moved text front o [] here none open_one wrap at u e in
        rw f (line ∙ sym (append-nil (line_styles true wrap o)))
  ]

  all_styles : (front : List ℕ) (at : ℕ) (xs : List (List ℕ)) → text ≡ front ++ joined xs o → unfinished_line front ≡ [] → at ≡ length front → IsUtf8 (joined xs o) → Wholes xs
      → map (style_of text) (closed_stored wrap at xs ++ open_stored wrap (at + sum_by bytes_of xs) o) ≡ flat_map (line_styles true wrap) (map strip_carriage_return xs ++ last_lines)
  all_styles front at [] is none e u w =
      let z : at + 0 ≡ at = omega arith in
      ap (λ n. map (style_of text) (open_stored wrap n o)) z ∙ open_styles front at is none e u
  all_styles front at (x ∷ xs) is none e u w =
      let more : List ℕ = joined xs o in
      let both = sides x more u in
      let s = stripped x both.0 in
      let own : List ℕ = strip_carriage_return x in
      let own_whole : cut own ≡ whole own = whole_front own s.0 (subst (λ t. cut t ≡ whole t) s.1 w.0) in
      let here : text ≡ front ++ (own ++ (s.0 ++ 10 ∷ more)) = is ∙ ap (λ t. front ++ (t ++ 10 ∷ more)) s.1 ∙ ap (λ t. front ++ t) (append_assoc own s.0 (10 ∷ more)) in
      let next : List ℕ = (front ++ x) ++ 10 ∷ [] in
      let there : text ≡ next ++ more = is ∙ sym (append_assoc front x (10 ∷ more)) ∙ sym (append_assoc (front ++ x) (10 ∷ []) more) in
      let size : at + bytes_of x ≡ length next = omega (arith, e, length-append (front ++ x) (10 ∷ []), length-append front x) in
      let opens : unfinished_line next ≡ [] = ap (λ (c : Cut). c.open_line) (newline_open (front ++ x) []).2 in
      let sum : at + sum_by bytes_of (x ∷ xs) ≡ (at + bytes_of x) + sum_by bytes_of xs = omega (arith, sum_by-cons bytes_of x xs) in
      let first : List Span = line_stored wrap at own in
      let others : List Span = closed_stored wrap (at + bytes_of x) xs in
      let rest : List Span = open_stored wrap ((at + bytes_of x) + sum_by bytes_of xs) o in
      ap (λ n. map (style_of text) ((first ++ others) ++ open_stored wrap n o)) sum ∙ ap (map (style_of text)) (append_assoc first others rest) ∙ map-append (style_of text) first (others ++ rest)
      ∙ ap (λ ys. ys ++ map (style_of text) (others ++ rest)) (line_moved text front own (s.0 ++ 10 ∷ more) here none own_whole wrap at s.3 e)
      ∙ ap (λ ys. line_styles true wrap own ++ ys) (all_styles next (at + bytes_of x) xs there opens size both.1 w.1)

-- the styles before the rows of a text
styles_are : (text : List ℕ) (wrap : Wrap) → IsUtf8 text → map (style_of text) (stored_from wrap 0 (cut text)) ≡ flat_map (line_styles true wrap) (lines text)
styles_are text wrap u =
    let c : Cut = cut text in
    all_styles text wrap c.open_line (open_whole text) [] 0 c.closed (cut_joined text) refl refl (subst IsUtf8 (cut_joined text) u) (closed_whole text)
    ∙ ap (flat_map (line_styles true wrap)) (sym (lines-cut text))

style_got : (text : List ℕ) (place : Option Span) → style_before text place ≡ unwrap_or (option_map (style_of text) place) []
style_got text None = refl
style_got text (Some s) = refl

pub styles_stand_before : StylesStandBefore
unfolding row_places
styles_stand_before d i u =
    let wrap : Wrap = wrap_in d in
    let places : List Span = stored_from wrap 0 (cut d.text) in
    elim (cases_Bool d.layout.carry_style) [
      | inl on ↦ rw on (ap (λ ss. style_with ss i) (sym (styles_are d.text wrap u)) ∙ ap (λ o. unwrap_or o []) (slice_get-map (style_of d.text) places i) ∙ sym (style_got d.text (slice_get places i)))
      | inr off ↦ rw off refl
    ]
