-- The places of the rows that a push leaves, and the styles that are carried to them.
use Rattle.std.proofs.Common.{inl, inr, ◌≡◌, ℕ, ◌+◌, ◌-◌, ◌≤◌, Bool, true, false, cond, max, List, [], ◌++◌, length, map, take, drop, Option, None, Some, option_map, append_assoc, refl, sym, ap, ◌∙◌, arith}
use Rattle.std.specs.List.{slice_get, sum_by}
use Rattle.std.specs.Str.{IsUtf8, IsCharBoundary}
use Rattle.std.specs.Str.Lines.{lines, strip_carriage_return}
use Rattle.std.proofs.lemmas.Bool.{cases_Bool}
use Rattle.std.proofs.lemmas.List.{append-nil, length-take-le, take-append-le, take-append-drop}
use Rattle.std.proofs.lemmas.Option.{slice_get-map}
use Rattle.std.proofs.lemmas.Str.{IsUtf8-append, IsCharBoundary-start, IsCharBoundary-from_rest}
use Rattle.std.proofs.Math.Seq.{take-append-add}
use Rattle.minus_text.specs.declared.rows.Span.{Span}
use Rattle.minus_text.specs.declared.layout.Wrap.{Wrap}
use Rattle.minus_text.specs.declared.line_numbers.LineNumbers.{LineNumbers}
use Rattle.minus_text.specs.declared.formed.Finished.{Finished}
use Rattle.minus_text.specs.declared.formed.Formed.{Formed}
use Rattle.minus_text.specs.declared.formed.Plan.{Plan}
use Rattle.minus_text.specs.declared.formed.Restart.{Restart}
use Rattle.minus_text.specs.Lines.{cut, unfinished_line}
use Rattle.minus_text.specs.LinePlaces.{row_places}
use Rattle.minus_text.specs.Document.{Document, rows_of_lines, first_rows, longest_of, wrap_in, plan_of, pushed}
use Rattle.minus_text.specs.Fragments.{Fragment}
use Rattle.minus_text.specs.Kept.{moved, stored_from, bytes_of, at_start, Reaches, IsFormed, IsFormOf, IsRestart, IsRestartOf, line_going_on, piece_behind, kept_lines}
use Rattle.minus_text.specs.Rows.{IsPlace}
use Rattle.minus_text.specs.PushedPlaces.{formed_from, tail_places, PlacesGoOn}
use Rattle.minus_text.specs.Pending.{Pending, IsPending}
use Rattle.minus_text.specs.CarriedStyles.{style_before, carried_style}
use Rattle.minus_text.specs.Styles.{Reading, read_text}
use Rattle.minus_text.specs.StylesStay.{CarriedStylesStay}
use Rattle.minus_text.proofs.CarriedStyleLaws.{styles_stand_before}
use Rattle.minus_text.proofs.FormLaws.{length-places}
use Rattle.minus_text.proofs.LinesLaws.{open_at}
use Rattle.minus_text.proofs.PlacesLaws.{stored-are, stored_some}
use Rattle.minus_text.proofs.PreparedLaws.{no_border, open_utf8}
use Rattle.minus_text.proofs.ScreenLaws.{front_is, push_formed}
use Rattle.minus_text.proofs.PendingLaws.{plan_keeps, get_front, get_behind}
use Rattle.minus_text.proofs.RowTextLaws.{stored_moved}

-- ---- the places that a push leaves

-- what is kept beside a text that is formed whole
whole_formed : (text : List ℕ) (wrap : Wrap) → IsUtf8 text → (finished : Finished) × IsFormed text wrap (stored_from wrap 0 (cut text)) (first_rows wrap 0 (lines text)) finished (longest_of (lines text)) (record { bytes = 0; columns = 0 })
whole_formed text wrap u =
    let closed : List (List ℕ) = (cut text).closed in
    let own : List (List ℕ) = map strip_carriage_return closed in (
      record { lines = 0 + length closed; rows = 0 + length (rows_of_lines wrap own); bytes = 0 + sum_by bytes_of closed; longest = max 0 (longest_of own) },
      record {
        its_rows = refl;
        its_count = length-places text (stored_from wrap 0 (cut text)) (rows_of_lines wrap (lines text)) (stored-are text wrap u);
        its_map = refl;
        its_finish = record { by_lines = refl; by_rows = refl; by_bytes = refl; longest_line = refl };
        its_longest = refl;
        its_border = no_border (unfinished_line text) (open_utf8 text u);
      },
    )

-- a push begins to form at a character
pub restart_boundary : (text : List ℕ) (plan : Plan) (start : Restart) → IsUtf8 text → IsRestartOf text plan start → IsCharBoundary text (formed_from start)
restart_boundary text plan start u k = elim (cases_Bool plan.keeps) [
  | inl t ↦
      let reach : Reaches plan.wrap at_start (cut text).closed start.finished = rw t at k.reaches in
      let r : IsRestart plan.wrap (unfinished_line text) start = rw t at k.restarts in
      let byte : start.finished.bytes ≡ sum_by bytes_of (cut text).closed = omega (arith, reach.by_bytes) in
      let opens = open_at text in
      let rest : drop start.finished.bytes text ≡ unfinished_line text = ap (λ n. drop n text) byte ∙ opens.rest in
      let within : start.finished.bytes ≤ length text = omega (arith, byte, opens.within) in
      IsCharBoundary-from_rest text start.finished.bytes start.bytes within (rw rest r.goes_on.boundary)
  | inr f ↦
      let reach : Reaches plan.wrap at_start [] start.finished = rw f at k.reaches in
      let r : IsRestart plan.wrap [] start = rw f at k.restarts in
      let few : start.bytes ≤ 0 = r.goes_on.boundary.0 in
      let none : formed_from start ≡ 0 = omega (arith, few, reach.by_bytes) in
      rw none (IsCharBoundary-start text u)
]

pub prepared_places : (d : Document) (piece tail : List ℕ) (numbers : LineNumbers) (cols : ℕ) (start : Restart) (plan : Plan) (f : Formed) → plan ≡ plan_of d piece numbers cols → IsRestartOf d.text plan start → IsUtf8 d.text
    → tail ≡ drop (formed_from start) d.text ++ piece → f.rows.items ≡ stored_from plan.wrap (formed_from start) (cut tail)
    → IsFormOf plan.wrap (line_going_on d.text plan) (piece_behind d.text plan piece) start f
    → PlacesGoOn d (pushed d piece numbers cols) piece (start.finished.rows + start.rows) start (record { text = tail; wrap = plan.wrap })
unfolding row_places
prepared_places d piece tail numbers cols start plan f is k u follows its formed =
    let kept : ℕ = start.finished.rows + start.rows in
    let wrap : Wrap = wrap_in d in
    let rows : List Span = stored_from wrap 0 (cut d.text) in
    let firsts : List ℕ = first_rows wrap 0 (lines d.text) in
    let old = whole_formed d.text wrap u in
    let front = front_is d.text piece wrap rows firsts old.0 (longest_of (lines d.text)) (record { bytes = 0; columns = 0 }) start plan u old.1 (plan_keeps d piece numbers cols plan is) k in
    let new = push_formed d.text piece (d.text ++ piece) plan.wrap rows (take kept rows ++ f.rows.items) firsts (take start.finished.lines firsts ++ f.first_rows) start (kept_lines d.text plan) (line_going_on d.text plan) (piece_behind d.text plan piece) f (max start.finished.longest f.longest) front refl formed refl refl refl in
    record {
      places = ap (λ (p : Plan). stored_from p.wrap 0 (cut (d.text ++ piece))) (sym is) ∙ sym new.its_rows ∙ ap (λ rs. take kept rows ++ rs) its;
      few = front.few;
      within = (restart_boundary d.text plan start u k).0;
      follows = follows;
    }

-- ---- the places of rows in a text

-- no row begins behind the text
pub place_within : (d : Document) (i : ℕ) (s : Span) → IsUtf8 d.text → slice_get (row_places d) i ≡ Some s → s.start ≤ length d.text
unfolding row_places
place_within d i s u e =
    let found = stored_some d.text (stored_from (wrap_in d) 0 (cut d.text)) (rows_of_lines (wrap_in d) (lines d.text)) i s (stored-are d.text (wrap_in d) u) e in
    let place : IsPlace d.text s found.0 = found.2 in
    place.start.0

-- a row of a tail stands in it
pub tail_within : (start : Restart) (tail : Fragment) (i : ℕ) (s : Span) → IsUtf8 tail.text → slice_get (tail_places start tail) i ≡ Some s → (formed_from start ≤ s.start) × (s.start - formed_from start ≤ length tail.text)
tail_within start tail i s u e = go (slice_get inner i) refl
  where
    n : ℕ
    n = formed_from start

    inner : List Span
    inner = stored_from tail.wrap 0 (cut tail.text)

    there : slice_get (tail_places start tail) i ≡ option_map (moved n) (slice_get inner i)
    there = ap (λ rs. slice_get rs i) (stored_moved tail.wrap n (cut tail.text)) ∙ slice_get-map (moved n) inner i

    go : (o : Option Span) → slice_get inner i ≡ o → (n ≤ s.start) × (s.start - n ≤ length tail.text)
    go None f = let none : Some s ≡ None = sym e ∙ there ∙ ap (option_map (moved n)) f in absurd cc
    go (Some r) f =
        let both : Some s ≡ Some (moved n r) = sym e ∙ there ∙ ap (option_map (moved n)) f in
        let is : s ≡ moved n r = cc in
        let found = stored_some tail.text inner (rows_of_lines tail.wrap (lines tail.text)) i r (stored-are tail.text tail.wrap u) f in
        let place : IsPlace tail.text r found.0 = found.2 in
        let within : r.start ≤ length tail.text = place.start.0 in
        rw is (omega arith, omega (arith, within))

-- ---- the styles

same_before : (text more : List ℕ) (place : Option Span) → ((s : Span) → place ≡ Some s → s.start ≤ length text) → style_before (text ++ more) place ≡ style_before text place
same_before text more None h = refl
same_before text more (Some s) h = ap (λ t. (read_text (unfinished_line t)).held) (take-append-le s.start text more (h s refl))

-- a row that stays keeps its style
pub styles_stay_behind : CarriedStylesStay
styles_stay_behind d piece numbers cols p i u v h l =
    let after : Document = pushed d piece numbers cols in
    let on : Bool = d.layout.carry_style in
    let there : slice_get (row_places after) i ≡ slice_get (row_places d) i = ap (λ rs. slice_get rs i) h.places.places ∙ get_front (row_places d) (tail_places p.start p.tail) p.kept_rows i l h.places.few in
    styles_stand_before after i (IsUtf8-append d.text piece u v) ∙ ap (λ (o : Option Span). cond on (style_before (d.text ++ piece) o) []) there
    ∙ ap (λ (x : List ℕ). cond on x []) (same_before d.text piece (slice_get (row_places d) i) (λ s e. place_within d i s u e)) ∙ sym (styles_stand_before d i u)

-- a row that is formed has the style behind the text that stays
pub styles_of_formed : (d : Document) (piece : List ℕ) (numbers : LineNumbers) (cols : ℕ) (p : Pending) (i : ℕ) → IsUtf8 d.text → IsUtf8 piece → IsPending d piece numbers cols p → p.kept_rows ≤ i → d.layout.carry_style ≡ true
    → style_before (take (formed_from p.start) d.text ++ p.tail.text) (slice_get (tail_places p.start p.tail) (i - p.kept_rows)) ≡ carried_style (pushed d piece numbers cols) i
styles_of_formed d piece numbers cols p i u v h le on =
    let after : Document = pushed d piece numbers cols in
    let n : ℕ = formed_from p.start in
    let places : List Span = tail_places p.start p.tail in
    let text : d.text ++ piece ≡ take n d.text ++ p.tail.text =
    ap (λ t. t ++ piece) (sym (take-append-drop n d.text)) ∙ append_assoc (take n d.text) (drop n d.text) piece ∙ ap (λ t. take n d.text ++ t) (sym h.places.follows) in
    let size : length (take p.kept_rows (row_places d)) ≡ p.kept_rows = length-take-le p.kept_rows (row_places d) h.places.few in
    let at : i - length (take p.kept_rows (row_places d)) ≡ i - p.kept_rows = omega (arith, size) in
    let there : slice_get (row_places after) i ≡ slice_get places (i - p.kept_rows) =
    ap (λ rs. slice_get rs i) h.places.places ∙ get_behind (take p.kept_rows (row_places d)) places i (omega (arith, size, le)) ∙ ap (slice_get places) at in
    sym (styles_stand_before after i (IsUtf8-append d.text piece u v) ∙ ap (λ (b : Bool). cond b (style_before (d.text ++ piece) (slice_get (row_places after) i)) []) on
    ∙ ap (style_before (d.text ++ piece)) there ∙ ap (λ t. style_before t (slice_get places (i - p.kept_rows))) text)

-- no row has a style where none is carried
pub none_carried : (d : Document) (piece : List ℕ) (numbers : LineNumbers) (cols : ℕ) (i : ℕ) → d.layout.carry_style ≡ false → [] ≡ carried_style (pushed d piece numbers cols) i
none_carried d piece numbers cols i off = rw off refl

-- what is read before a row of a tail is its style
pub formed_reads : (text : List ℕ) (start : Restart) (tail : Fragment) (i : ℕ) (formed bytes : List ℕ) → formed_from start ≤ length text → IsUtf8 tail.text
    → Some formed ≡ option_map (λ s. take (s.start - formed_from start) tail.text) (slice_get (tail_places start tail) i) → read_text bytes ≡ read_text (unfinished_line (take (formed_from start) text ++ formed))
    → (read_text bytes).held ≡ style_before (take (formed_from start) text ++ tail.text) (slice_get (tail_places start tail) i)
formed_reads text start tail i formed bytes le u is reads = go (slice_get (tail_places start tail) i) refl
  where
    n : ℕ
    n = formed_from start

    go : (o : Option Span) → slice_get (tail_places start tail) i ≡ o → (read_text bytes).held ≡ style_before (take n text ++ tail.text) o
    go None e = let none : Some formed ≡ None = is ∙ ap (option_map (λ s. take (s.start - n) tail.text)) e in absurd cc
    go (Some s) e =
        let both : Some formed ≡ Some (take (s.start - n) tail.text) = is ∙ ap (option_map (λ s. take (s.start - n) tail.text)) e in
        let part : formed ≡ take (s.start - n) tail.text = cc in
        let within = tail_within start tail i s u e in
        let size : length (take n text) ≡ n = length-take-le n text le in
        let sum : s.start ≡ length (take n text) + (s.start - n) = omega (arith, size, within.0) in
        let front : take s.start (take n text ++ tail.text) ≡ take n text ++ formed =
        ap (λ m. take m (take n text ++ tail.text)) sum ∙ take-append-add (take n text) tail.text (s.start - n) ∙ ap (λ t. take n text ++ t) (sym part) in
        ap (λ (r : Reading). r.held) (reads ∙ ap (λ t. read_text (unfinished_line t)) (sym front))

pub formed_none : (text : List ℕ) (start : Restart) (tail : Fragment) (i : ℕ) → None ≡ option_map (λ s. take (s.start - formed_from start) tail.text) (slice_get (tail_places start tail) i)
    → [] ≡ style_before text (slice_get (tail_places start tail) i)
formed_none text start tail i is = go (slice_get (tail_places start tail) i) refl
  where
    go : (o : Option Span) → slice_get (tail_places start tail) i ≡ o → [] ≡ style_before text o
    go None e = refl
    go (Some s) e = let some : None ≡ Some (take (s.start - formed_from start) tail.text) = is ∙ ap (option_map (λ s. take (s.start - formed_from start) tail.text)) e in absurd cc

-- what is read before a row of a store is its style
pub none_kept : (d : Document) (i : ℕ) → d.layout.carry_style ≡ false → [] ≡ carried_style d i
none_kept d i off = rw off refl

pub kept_reads : (d : Document) (i : ℕ) (place : Span) (kept : List ℕ) → IsUtf8 d.text → d.layout.carry_style ≡ true → Some place ≡ slice_get (row_places d) i → read_text kept ≡ read_text (unfinished_line (take place.start d.text))
    → (read_text (kept ++ [])).held ≡ carried_style d i
kept_reads d i place kept u on e reads =
    ap (λ t. (read_text t).held) (append-nil kept) ∙ ap (λ (r : Reading). r.held) reads ∙ ap (style_before d.text) e
    ∙ sym (styles_stand_before d i u ∙ ap (λ (b : Bool). cond b (style_before d.text (slice_get (row_places d) i)) []) on)

pub no_row_kept : (d : Document) (i : ℕ) → IsUtf8 d.text → d.layout.carry_style ≡ true → None ≡ slice_get (row_places d) i → [] ≡ carried_style d i
no_row_kept d i u on e =
    ap (style_before d.text) e ∙ sym (styles_stand_before d i u ∙ ap (λ (b : Bool). cond b (style_before d.text (slice_get (row_places d) i)) []) on)
