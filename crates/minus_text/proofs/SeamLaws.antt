-- The rows of an unfinished line before one at whose beginning forming can begin again stay however the line goes on.
use Rattle.std.proofs.Common.{◌≡◌, ℕ, zero, suc, ◌+◌, ◌-◌, ◌<◌, ◌&&◌, Bool, true, false, eqb, List, [], ◌∷◌, ◌++◌, length, map, take, drop, get_or, chars, encode_utf8, arith, refl, sym, ap, ◌∙◌, append_assoc, inl, inr, ◌≤◌}
use Rattle.std.specs.Char.{is_ascii_alphanumeric}
use Rattle.std.specs.Str.{IsUtf8, IsAscii, IsCharBoundary, encode_utf8_all}
use Rattle.std.specs.Str.Lines.{strip_carriage_return}
use Rattle.std.proofs.lemmas.Bool.{cases_Bool, cases_lt, and_parts, eqb-true, ne_eqb}
use Rattle.std.proofs.lemmas.Bool.Decides.{nat_tests}
use Rattle.std.proofs.lemmas.List.{append-nil, length-append, length-drop, length-take-le, length-map, take-append-drop, take_at, take_all, take_more, map-append, take-map, get_or-drop, get_or-take, get_or-map, get_or_push, get_or_append_left, get_or-append_right, drop_more, drop-drop}
use Rattle.std.proofs.lemmas.List.Elements.{All-cons, All-drop}
use Rattle.std.proofs.lemmas.List.Concat.{flat_map-append}
use Rattle.std.proofs.lemmas.Str.{IsUtf8-take, IsUtf8-drop, IsCharBoundary-start, chars-append, chars-IsAscii, encodes-IsAscii, encodes-append, encodes-chars, length-le-encodes}
use Rattle.minus_text.specs.declared.rows.Span.{Span}
use Rattle.minus_text.specs.Pieces.{Piece, pieces, piece_text}
use Rattle.minus_text.specs.Hyphens.{begins_alphanumeric}
use Rattle.minus_text.specs.RowRuns.{fits_row}
use Rattle.minus_text.specs.RunsLaws.{two_fronts}
use Rattle.minus_text.specs.declared.layout.Wrap.{Wrap}
use Rattle.minus_text.specs.declared.layout.Wrap.TheVariants.{At, Off}
use Rattle.minus_text.specs.Layouts.{own_rows}
use Rattle.minus_text.specs.Rows.{the_rows, run_text, line_runs, line_rows, line_places, places}
use Rattle.minus_text.specs.Document.{open_rows}
use Rattle.minus_text.specs.Kept.{moved, line_stored, open_stored, GoesOn}
use Rattle.minus_text.specs.Seams.{StandsAlone, NoneAlone, RowsGoOn}
use Rattle.minus_text.proofs.PiecesLaws.{pieces_join_lem}
use Rattle.minus_text.proofs.WordsLaws.{some_chars}
use Rattle.minus_text.proofs.RowsLaws.{line_places-are, place_at as row_at}
use Rattle.minus_text.proofs.RestartLaws.{elements, elements_append, runs_elements}
use Rattle.minus_text.proofs.BodyLaws.{ends_alphanumeric}
use Rattle.minus_text.proofs.FirstPieceLaws.{IsSound}
use Rattle.minus_text.proofs.FirstColumnsLaws.{first_grows, return_takes_none}
use Rattle.minus_text.proofs.GoesOnLaws.{run_bytes, places_of_some, GoesOnAs, line_rows_go_on, line_places_go_on}
use Rattle.minus_text.proofs.FormLaws.{length-places}
use Rattle.minus_text.proofs.PlacesLaws.{stripped}
use Rattle.minus_text.proofs.PreparedLaws.{strip_cons, left_of_front}

-- ---- the rows before a place

place_at : (at : ℕ) (runs : List (List Piece)) (i : ℕ) (d : Span) → i < length runs → (get_or (places at runs) i d).start ≡ at + length (encode_utf8_all (run_text (elements (take i runs))))
place_at at [] i d l = absurd (omega arith)
place_at at (run ∷ runs) zero d l = omega arith
place_at at (run ∷ runs) (suc i) d l =
    omega (arith, place_at (at + length (encode_utf8_all (run_text run))) runs i d (omega arith), run_bytes run (elements (take i runs)))

-- fronts of a text that have as many bytes have as many characters
same_chars : (cs ds es fs : List ℕ) → cs ++ ds ≡ es ++ fs → length (encode_utf8_all cs) ≡ length (encode_utf8_all es) → length cs ≡ length es
same_chars cs ds es fs e l = elim (two_fronts cs ds es fs e) [
  | inl w ↦ let z = no_more cs w.0 es w.1 l in omega (arith, ap length w.1, length-append cs w.0, z)
  | inr w ↦ let z = no_more es w.0 cs w.1 (sym l) in omega (arith, ap length w.1, length-append es w.0, z)
]
  where
    no_more : (xs zs ys : List ℕ) → ys ≡ xs ++ zs → length (encode_utf8_all xs) ≡ length (encode_utf8_all ys) → length zs ≡ 0
    no_more xs zs ys e l = omega (arith, l, ap (λ cs. length (encode_utf8_all cs)) e, ap length (encodes-append xs zs), length-append (encode_utf8_all xs) (encode_utf8_all zs), length-le-encodes zs)

length-places-at : (at : ℕ) (runs : List (List Piece)) → length (places at runs) ≡ length runs
length-places-at at [] = refl
length-places-at at (run ∷ runs) = ap suc (length-places-at (at + length (encode_utf8_all (run_text run))) runs)

-- the runs before a place hold the characters before it
runs_before_place : (cols : ℕ) (line : List ℕ) (at i : ℕ) (d : Span) → IsUtf8 line → 0 < length line → IsCharBoundary line at → i < length (line_places cols line) → (get_or (line_places cols line) i d).start ≡ at
    → run_text (elements (take i (line_runs cols line))) ≡ chars (take at line)
runs_before_place cols line at i d u some b l e =
    let runs : List (List Piece) = line_runs cols line in
    let front : List Piece = elements (take i runs) in
    let back : List Piece = elements (drop i runs) in
    let all : line_places cols line ≡ places 0 runs = places_of_some cols line (some_chars line u some) in
    let many : length (line_places cols line) ≡ length runs = ap length all ∙ length-places-at 0 runs in
    let here : at ≡ 0 + length (encode_utf8_all (run_text front)) = sym e ∙ ap (λ ss. (get_or ss i d).start) all ∙ place_at 0 runs i d (omega arith) in
    let joined : run_text front ++ run_text back ≡ chars line =
    sym (flat_map-append piece_text front back) ∙ ap run_text (sym (elements_append (take i runs) (drop i runs)) ∙ ap elements (take-append-drop i runs) ∙ sym (runs_elements (fits_row cols) (pieces cols (chars line)) runs (the_rows cols (pieces cols (chars line))).are)) ∙ pieces_join_lem cols (chars line) in
    let ux : IsUtf8 (take at line) = IsUtf8-take line at u b in
    let split : chars (take at line) ++ chars (drop at line) ≡ chars line = sym (chars-append (take at line) (drop at line) ux) ∙ ap chars (take-append-drop at line) in
    let size : length (encode_utf8_all (chars (take at line))) ≡ at = ap length (encodes-chars (take at line) ux) ∙ length-take-le at line b.0 in
    let all_is : run_text front ++ run_text back ≡ chars (take at line) ++ chars (drop at line) = joined ∙ sym split in
    let long : length (run_text front) ≡ length (chars (take at line)) = same_chars (run_text front) (run_text back) (chars (take at line)) (chars (drop at line)) all_is (omega (arith, here, size)) in
    sym (take_at (run_text front) (run_text back) (length (run_text front)) refl) ∙ ap (take (length (run_text front))) all_is ∙ take_at (chars (take at line)) (chars (drop at line)) (length (run_text front)) (sym long)

-- ---- what is moved twice, and a line without its carriage return

pub moved_twice : (n m : ℕ) (ss : List Span) → map (moved n) (map (moved m) ss) ≡ map (moved (n + m)) ss
moved_twice n m [] = refl
moved_twice n m (s ∷ ss) =
    let e : n + (m + s.start) ≡ (n + m) + s.start = omega arith in
    let f : n + (m + s.end) ≡ (n + m) + s.end = omega arith in
    rw (e, f) (ap (λ rs. moved (n + m) s ∷ rs) (moved_twice n m ss))

pub strip_behind : (xs ys : List ℕ) → 0 < length ys → strip_carriage_return (xs ++ ys) ≡ xs ++ strip_carriage_return ys
strip_behind [] ys some = refl
strip_behind (b ∷ xs) ys some = strip_cons b (xs ++ ys) (omega (arith, some, length-append xs ys)) ∙ ap (λ zs. b ∷ zs) (strip_behind xs ys some)

some_open : (wrap : Wrap) (n : ℕ) (line : List ℕ) → 0 < length line → (open_rows wrap line ≡ own_rows wrap line) × (open_stored wrap n line ≡ line_stored wrap n line)
some_open wrap n line some = let other : eqb (length line) 0 ≡ false = ne_eqb (length line) 0 (λ z. omega arith) in (rw other refl, rw other refl)

-- ---- the seam

-- forming can always begin at the line's start
pub start_goes_on : (wrap : Wrap) (line : List ℕ) → IsUtf8 line → GoesOn wrap line 0 0
start_goes_on wrap line u = record {
  boundary = IsCharBoundary-start line u;
  few = omega arith;
  some_left = λ some. some;
  open_go_on = λ more v. refl;
  ended_go_on = λ more v. refl;
  open_places = λ n more v. let e : n ≡ n + 0 = omega arith in ap (λ m. open_stored wrap m (line ++ more)) e;
  ended_places = λ n more v. let e : n ≡ n + 0 = omega arith in ap (λ m. line_stored wrap m (strip_carriage_return (line ++ more))) e;
}

-- ---- a text that stands alone

-- a byte is a character where it is one of ASCII
ascii_alone : (c : ℕ) → c < 128 → encode_utf8 c ≡ c ∷ []
ascii_alone c l = sym (append-nil (encode_utf8 c)) ∙ encodes-IsAscii (c ∷ []) small
  where
    small : (i : ℕ) → get_or (c ∷ []) i 0 < 128
    small zero = l
    small (suc i) = omega arith

alphanumeric_small : (c : ℕ) → is_ascii_alphanumeric c ≡ true → c < 128
alphanumeric_small c h = grind (arith, nat_tests, h)

-- the first bytes of a text, by its first characters
first_byte : (text : List ℕ) (c : ℕ) (cs : List ℕ) → IsUtf8 text → chars text ≡ c ∷ cs → c < 128 → text ≡ c ∷ encode_utf8_all cs
first_byte text c cs u e l = sym (encodes-chars text u) ∙ ap encode_utf8_all e ∙ ap (λ bs. bs ++ encode_utf8_all cs) (ascii_alone c l)

next_byte : (cs : List ℕ) → begins_alphanumeric cs ≡ true → (0 < length (encode_utf8_all cs)) × (is_ascii_alphanumeric (get_or (encode_utf8_all cs) 0 0) ≡ true)
next_byte [] h = absurd cc
next_byte (c ∷ cs) h =
    let all : encode_utf8_all (c ∷ cs) ≡ c ∷ encode_utf8_all cs = ap (λ bs. bs ++ encode_utf8_all cs) (ascii_alone c (alphanumeric_small c h)) in
    (omega (arith, ap length all), ap (λ bs. is_ascii_alphanumeric (get_or bs 0 0)) all ∙ h)

-- the last one, if it is a letter or digit
last_letter : (before : Bool) (c : ℕ) (cs : List ℕ) → ends_alphanumeric before (c ∷ cs) ≡ true → (front : List ℕ) × (d : ℕ) × (c ∷ cs ≡ front ++ d ∷ []) × (is_ascii_alphanumeric d ≡ true)
last_letter before c [] h = ([], c, refl, h)
last_letter before c (e ∷ cs) h = let on = last_letter (is_ascii_alphanumeric c) e cs h in (c ∷ on.0, on.1, ap (λ xs. c ∷ xs) on.2, on.3)

last_byte : (text cs : List ℕ) → IsUtf8 text → chars text ≡ cs → ends_alphanumeric false cs ≡ true → (0 < length text) × (is_ascii_alphanumeric (get_or text (length text - 1) 0) ≡ true)
last_byte text [] u e h = absurd cc
last_byte text (c ∷ cs) u e h =
    let last = last_letter false c cs h in
    let front : List ℕ = encode_utf8_all last.0 in
    let one : encode_utf8_all (last.1 ∷ []) ≡ last.1 ∷ [] = append-nil (encode_utf8 last.1) ∙ ascii_alone last.1 (alphanumeric_small last.1 last.3) in
    let all : text ≡ front ++ last.1 ∷ [] = sym (encodes-chars text u) ∙ ap encode_utf8_all (e ∙ last.2) ∙ encodes-append last.0 (last.1 ∷ []) ∙ ap (λ bs. front ++ bs) one in
    let size : length text ≡ length front + 1 = ap length all ∙ length-append front (last.1 ∷ []) in
    let place : length text - 1 ≡ length front = omega (arith, size) in
    let byte : get_or text (length text - 1) 0 ≡ last.1 = ap (λ n. get_or text n 0) place ∙ ap (λ bs. get_or bs (length front) 0) all ∙ get_or_push front last.1 0 (length front) refl in
    (omega (arith, size), ap is_ascii_alphanumeric byte ∙ last.3)

-- a text behind another one does not begin with a hyphen between letters or digits
abbrev NoJoint : List ℕ → List ℕ → Type 0
NoJoint xs ys = 0 < length xs → get_or ys 0 0 ≡ 45 → is_ascii_alphanumeric (get_or xs (length xs - 1) 0) ≡ true → 1 < length ys → is_ascii_alphanumeric (get_or ys 1 0) ≡ false

sound_bytes : (xs ys : List ℕ) (c : ℕ) (cs : List ℕ) → IsUtf8 xs → IsUtf8 ys → chars ys ≡ c ∷ cs → NoJoint xs ys → IsSound (chars xs) c cs
sound_bytes xs ys c cs u v e none = elim (cases_Bool (ends_alphanumeric false (chars xs) && (eqb c 45 && begins_alphanumeric cs))) [
  | inl t ↦
      let one = and_parts (ends_alphanumeric false (chars xs)) (eqb c 45 && begins_alphanumeric cs) t in
      let two = and_parts (eqb c 45) (begins_alphanumeric cs) one.1 in
      let hyphen : c ≡ 45 = eqb-true c 45 two.0 in
      let last = last_byte xs (chars xs) u refl one.0 in
      let next = next_byte cs two.1 in
      let all : ys ≡ c ∷ encode_utf8_all cs = first_byte ys c cs v e (omega (arith, hyphen)) in
      let no : is_ascii_alphanumeric (get_or ys 1 0) ≡ false = none last.0 (ap (λ bs. get_or bs 0 0) all ∙ hyphen) last.1 (omega (arith, ap length all, next.0)) in
      let both : true ≡ false = sym next.1 ∙ sym (ap (λ bs. is_ascii_alphanumeric (get_or bs 1 0)) all) ∙ no in
      absurd cc
  | inr f ↦ f
]

joint_front : (xs front more : List ℕ) → 0 < length front → NoJoint xs (front ++ more) → NoJoint xs front
joint_front xs front more some h l hyphen letter two =
    ap is_ascii_alphanumeric (sym (get_or_append_left front more 0 1 two)) ∙ h l (get_or_append_left front more 0 0 some ∙ hyphen) letter (omega (arith, two, length-append front more))

-- what goes on behind a place
goes_on_more : (cols : ℕ) (xs rest more : List ℕ) → IsUtf8 xs → IsUtf8 rest → IsUtf8 (rest ++ more) → 0 < length rest → NoJoint xs (rest ++ more) → GoesOnAs cols xs rest (rest ++ more)
goes_on_more cols xs rest more u v w some none = go (chars rest) refl
  where
    go : (cs : List ℕ) → chars rest ≡ cs → GoesOnAs cols xs rest (rest ++ more)
    go [] e = absurd (let l = some_chars rest v some in omega (arith, l, ap length e))
    go (c ∷ cs) e =
        let all : chars (rest ++ more) ≡ c ∷ (cs ++ chars more) = chars-append rest more v ∙ ap (λ ds. ds ++ chars more) e in
        record {
          text = u;
          next = c;
          more = cs;
          other = cs ++ chars more;
          rest_is = e;
          others_are = all;
          sound = sound_bytes xs rest c cs u v e (joint_front xs rest more some none);
          other_sound = sound_bytes xs (rest ++ more) c (cs ++ chars more) u w all none;
          as_wide = first_grows cols (c ∷ cs) (chars more) (omega arith);
        }

-- or loses the carriage return at its end
goes_on_less : (cols : ℕ) (xs rest short : List ℕ) → IsUtf8 xs → IsUtf8 rest → IsUtf8 short → rest ≡ short ++ 13 ∷ [] → 0 < length short → NoJoint xs rest → GoesOnAs cols xs rest short
goes_on_less cols xs rest short u v w e some none = go (chars short) refl
  where
    return_alone : IsAscii (13 ∷ [])
    return_alone zero = omega arith
    return_alone (suc i) = omega arith

    go : (cs : List ℕ) → chars short ≡ cs → GoesOnAs cols xs rest short
    go [] f = absurd (let l = some_chars short w some in omega (arith, l, ap length f))
    go (c ∷ cs) f =
        let all : chars rest ≡ c ∷ (cs ++ 13 ∷ []) = ap chars e ∙ chars-append short (13 ∷ []) w ∙ ap (λ ds. chars short ++ ds) (chars-IsAscii (13 ∷ []) return_alone) ∙ ap (λ ds. ds ++ 13 ∷ []) f in
        record {
          text = u;
          next = c;
          more = cs ++ 13 ∷ [];
          other = cs;
          rest_is = all;
          others_are = f;
          sound = sound_bytes xs rest c (cs ++ 13 ∷ []) u v all none;
          other_sound = sound_bytes xs short c cs u w f (joint_front xs short (13 ∷ []) some (rw e at none));
          as_wide = return_takes_none cols (c ∷ cs) (omega arith);
        }

-- behind a place where what stands needs nothing before it
no_joint : (line : List ℕ) (at : ℕ) (more : List ℕ) → StandsAlone line at → NoJoint (take at line) (drop at line ++ more)
no_joint line at more s some hyphen letter two =
    let within : at < length line = s.within in
    let left : length (drop at line) ≡ length line - at = length-drop at line in
    let size : length (take at line) ≡ at = length-take-le at line (omega arith) in
    let here : get_or line at 0 ≡ 45 = ap (λ n. get_or line n 0) (let z : at ≡ at + 0 = omega arith in z) ∙ sym (get_or-drop at line 0 0) ∙ sym (get_or_append_left (drop at line) more 0 0 (omega arith)) ∙ hyphen in
    let before : is_ascii_alphanumeric (get_or line (at - 1) 0) ≡ true = ap is_ascii_alphanumeric (sym (get_or-take at line (at - 1) 0 (omega (arith, some, size))) ∙ ap (λ n. get_or (take at line) (n - 1) 0) (sym size)) ∙ letter in
    let joint = s.no_joint (omega (arith, some, size)) here before in
    let inside : at + 1 < length line = joint.0 in
    ap is_ascii_alphanumeric (get_or_append_left (drop at line) more 0 1 (omega arith) ∙ get_or-drop at line 1 0) ∙ joint.1

open_goes_on : (cols : ℕ) (line : List ℕ) (at : ℕ) (more : List ℕ) → IsUtf8 line → IsUtf8 (line ++ more) → IsCharBoundary line at → StandsAlone line at → GoesOnAs cols (take at line) (drop at line) (drop at line ++ more)
open_goes_on cols line at more u v b s =
    let within : at < length line = s.within in
    goes_on_more cols (take at line) (drop at line) more (IsUtf8-take line at u b) (IsUtf8-drop line at u b) (left_of_front line more at u v b) (omega (arith, length-drop at line)) (no_joint line at more s)

ended_goes_on : (cols : ℕ) (line : List ℕ) (at : ℕ) (more : List ℕ) → IsUtf8 line → IsUtf8 (line ++ more) → IsCharBoundary line at → StandsAlone line at → GoesOnAs cols (take at line) (drop at line) (strip_carriage_return (drop at line ++ more))
ended_goes_on cols line at [] u v b s =
    let within : at < length line = s.within in
    let rest : List ℕ = drop at line in
    let n : ℕ = length rest - 1 in
    let left : length rest ≡ length line - at = length-drop at line in
    let nil : rest ++ [] ≡ rest = append-nil rest in
    let ur : IsUtf8 rest = IsUtf8-drop line at u b in
    let ux : IsUtf8 (take at line) = IsUtf8-take line at u b in
    let joint : NoJoint (take at line) rest = rw nil at (no_joint line at [] s) in
    rw nil (elim (cases_Bool (eqb (get_or rest n 0) 13)) [
      | inl t ↦
          let last : get_or rest n 0 ≡ 13 = eqb-true (get_or rest n 0) 13 t in
          let far : get_or line (at + n) 0 ≡ 13 = sym (get_or-drop at line n 0) ∙ last in
          let more_than : 0 < n = elim (cases_lt 0 n) [
            | inl l ↦ l
            | inr g ↦ let end : at + n ≡ at = omega arith in let long = s.no_return (ap (λ k. get_or line k 0) (sym end) ∙ far) in absurd (omega arith)
          ] in
          let short : strip_carriage_return rest ≡ take n rest = rw t refl in
          let whole : take (n + 1) rest ≡ rest = take_all (n + 1) rest (omega arith) in
          let split : rest ≡ strip_carriage_return rest ++ 13 ∷ [] = sym whole ∙ take_more rest n 0 (omega arith) ∙ ap (λ x. take n rest ++ x ∷ []) last ∙ ap (λ xs. xs ++ 13 ∷ []) (sym short) in
          goes_on_less cols (take at line) rest (strip_carriage_return rest) ux ur (stripped rest ur).3 split (omega (arith, ap length split, length-append (strip_carriage_return rest) (13 ∷ []), more_than)) joint
      | inr f ↦
          let same : strip_carriage_return rest ≡ rest = rw f refl in
          rw same (rw nil at (goes_on_more cols (take at line) rest [] ux ur (rw (← nil) at ur) (omega arith) (no_joint line at [] s)))
    ])
ended_goes_on cols line at (m ∷ more) u v b s =
    let within : at < length line = s.within in
    let rest : List ℕ = drop at line in
    let joined : strip_carriage_return (rest ++ m ∷ more) ≡ rest ++ strip_carriage_return (m ∷ more) = strip_behind rest (m ∷ more) (omega arith) in
    let text = (stripped (rest ++ m ∷ more) (left_of_front line (m ∷ more) at u v b)).3 in
    rw joined (goes_on_more cols (take at line) rest (strip_carriage_return (m ∷ more)) (IsUtf8-take line at u b) (IsUtf8-drop line at u b) (rw joined at text) (omega (arith, length-drop at line)) (no_joint line at (strip_carriage_return (m ∷ more)) s))

-- so the rows before a row stay, if what stands where it begins needs nothing before it
pub seam_goes_on : (cols : ℕ) (line : List ℕ) (at i : ℕ) (d : Span) → IsUtf8 line → StandsAlone line at → i < length (line_places cols line) → (get_or (line_places cols line) i d).start ≡ at → GoesOn (At cols) line i at
seam_goes_on cols line at i d u s l e =
    let xs : List ℕ = take at line in
    let rest : List ℕ = drop at line in
    let within : at < length line = s.within in
    let some : 0 < length line = omega arith in
    let place = row_at line (line_places cols line) (line_rows cols line) i d [] (line_places-are cols line u) l in
    let b : IsCharBoundary line at = rw e at place.start in
    let whole_line : xs ++ rest ≡ line = take-append-drop at line in
    let left : length rest ≡ length line - at = length-drop at line in
    let xs_long : length xs ≡ at = length-take-le at line (omega arith) in
    let runs : List (List Piece) = line_runs cols line in
    let many : length (line_places cols line) ≡ length runs = ap length (places_of_some cols line (some_chars line u some)) ∙ length-places-at 0 runs in
    let before : List (List Piece) = take i runs in
    let after : List (List Piece) = drop i runs in
    let count : length before ≡ i = length-take-le i runs (omega arith) in
    let divided : line_runs cols (xs ++ rest) ≡ before ++ after = ap (line_runs cols) whole_line ∙ sym (take-append-drop i runs) in
    let texts : run_text (elements before) ≡ chars xs = runs_before_place cols line at i d u some b l e in
    let open_text : (more : List ℕ) → xs ++ (rest ++ more) ≡ line ++ more = λ more. sym (append_assoc xs rest more) ∙ ap (λ ys. ys ++ more) whole_line in
    let more_some : (more : List ℕ) → 0 < length (line ++ more) = λ more. omega (arith, length-append line more) in
    let rest_some : (more : List ℕ) → 0 < length (rest ++ more) = λ more. omega (arith, length-append rest more) in
    let ended_text : (more : List ℕ) → xs ++ strip_carriage_return (rest ++ more) ≡ strip_carriage_return (line ++ more) = λ more. sym (strip_behind xs (rest ++ more) (rest_some more)) ∙ ap strip_carriage_return (open_text more) in
    let rows_on : (ws : List ℕ) → GoesOnAs cols xs rest ws → line_rows cols (xs ++ ws) ≡ take i (line_rows cols line) ++ line_rows cols ws = λ ws h.
    line_rows_go_on cols xs rest ws before after h divided texts ∙ ap (λ n. take n (line_rows cols (xs ++ rest)) ++ line_rows cols ws) count ∙ ap (λ ys. take i (line_rows cols ys) ++ line_rows cols ws) whole_line in
    let places_on : (ws : List ℕ) → GoesOnAs cols xs rest ws → line_places cols (xs ++ ws) ≡ take i (line_places cols line) ++ map (moved at) (line_places cols ws) = λ ws h.
    line_places_go_on cols xs rest ws before after h divided texts ∙ ap (λ n. take n (line_places cols (xs ++ rest)) ++ map (moved (length xs)) (line_places cols ws)) count
    ∙ ap (λ ys. take i (line_places cols ys) ++ map (moved (length xs)) (line_places cols ws)) whole_line ∙ ap (λ n. take i (line_places cols line) ++ map (moved n) (line_places cols ws)) xs_long in
    let stored_on : (n : ℕ) (ws : List ℕ) → GoesOnAs cols xs rest ws → line_stored (At cols) n (xs ++ ws) ≡ take i (line_stored (At cols) n line) ++ line_stored (At cols) (n + at) ws = λ n ws h.
    ap (map (moved n)) (places_on ws h) ∙ map-append (moved n) (take i (line_places cols line)) (map (moved at) (line_places cols ws))
    ∙ ap (λ rs. rs ++ map (moved n) (map (moved at) (line_places cols ws))) (sym (take-map (moved n) i (line_places cols line)))
    ∙ ap (λ rs. take i (line_stored (At cols) n line) ++ rs) (moved_twice n at (line_places cols ws)) in
    let opens : (more : List ℕ) → IsUtf8 (line ++ more) → GoesOnAs cols xs rest (rest ++ more) = λ more k. open_goes_on cols line at more u k b s in
    let ends : (more : List ℕ) → IsUtf8 (line ++ more) → GoesOnAs cols xs rest (strip_carriage_return (rest ++ more)) = λ more k. ended_goes_on cols line at more u k b s in
    record {
      boundary = b;
      few = rw (some_open (At cols) 0 line some).0 (omega (arith, l, length-places line (line_places cols line) (line_rows cols line) (line_places-are cols line u)));
      some_left = λ m. within;
      open_go_on = λ more k. (some_open (At cols) 0 (line ++ more) (more_some more)).0 ∙ ap (line_rows cols) (sym (open_text more)) ∙ rows_on (rest ++ more) (opens more k)
          ∙ ap (λ rs. take i rs ++ line_rows cols (rest ++ more)) (sym (some_open (At cols) 0 line some).0) ∙ ap (λ rs. take i (open_rows (At cols) line) ++ rs) (sym (some_open (At cols) 0 (rest ++ more) (rest_some more)).0);
      ended_go_on = λ more k. ap (line_rows cols) (sym (ended_text more)) ∙ rows_on (strip_carriage_return (rest ++ more)) (ends more k)
          ∙ ap (λ rs. take i rs ++ line_rows cols (strip_carriage_return (rest ++ more))) (sym (some_open (At cols) 0 line some).0);
      open_places = λ n more k. (some_open (At cols) n (line ++ more) (more_some more)).1 ∙ ap (line_stored (At cols) n) (sym (open_text more)) ∙ stored_on n (rest ++ more) (opens more k)
          ∙ ap (λ rs. take i rs ++ line_stored (At cols) (n + at) (rest ++ more)) (sym (some_open (At cols) n line some).1) ∙ ap (λ rs. take i (open_stored (At cols) n line) ++ rs) (sym (some_open (At cols) (n + at) (rest ++ more) (rest_some more)).1);
      ended_places = λ n more k. ap (line_stored (At cols) n) (sym (ended_text more)) ∙ stored_on n (strip_carriage_return (rest ++ more)) (ends more k)
          ∙ ap (λ rs. take i rs ++ line_stored (At cols) (n + at) (strip_carriage_return (rest ++ more))) (sym (some_open (At cols) n line some).1);
    }

-- rows that are stored go on so too; a line that is not wrapped has none behind its first
pub stored_seam : (wrap : Wrap) (base : ℕ) (line : List ℕ) (rows : List Span) (at i : ℕ) (d : Span) → IsUtf8 line → rows ≡ open_stored wrap base line → StandsAlone line at → i < length rows → at ≡ (get_or rows i d).start - base → GoesOn wrap line i at
stored_seam (At cols) base line rows at i d u e s l is =
    let within : at < length line = s.within in
    let stored : rows ≡ map (moved base) (line_places cols line) = e ∙ (some_open (At cols) base line (omega arith)).1 in
    let many : length rows ≡ length (line_places cols line) = ap length stored ∙ length-map (line_places cols line) (moved base) in
    let one : get_or rows i d ≡ moved base (get_or (line_places cols line) i d) = ap (λ rs. get_or rs i d) stored ∙ get_or-map (moved base) (line_places cols line) i d d (omega arith) in
    let start : (get_or rows i d).start ≡ base + (get_or (line_places cols line) i d).start = ap (λ (s : Span). s.start) one in
    seam_goes_on cols line at i d u s (omega arith) (omega (arith, start, is))
stored_seam Off base line rows at zero d u e s l is =
    let within : at < length line = s.within in
    let stored : rows ≡ record { start = base + 0; end = base + length line } ∷ [] = e ∙ (some_open Off base line (omega arith)).1 in
    let start : (get_or rows 0 d).start ≡ base + 0 = ap (λ rs. (get_or rs 0 d).start) stored in
    let here : at ≡ 0 = omega (arith, start, is) in
    rw here (start_goes_on Off line u)
stored_seam Off base line rows at (suc i) d u e s l is =
    let within : at < length line = s.within in
    let stored : rows ≡ record { start = base + 0; end = base + length line } ∷ [] = e ∙ (some_open Off base line (omega arith)).1 in
    absurd (omega (arith, ap length stored, l))

-- ---- rows that do not

-- nor from one that does not stand alone up to the border
pub none_from : (line : List ℕ) (base border n m : ℕ) (rows : List Span) (d : Span) → m < length rows → m + 1 ≡ n → ((get_or rows m d).start - base ≤ border → StandsAlone line ((get_or rows m d).start - base) → ⊥)
    → NoneAlone line base border (drop n rows) → NoneAlone line base border (drop m rows)
none_from line base border n m rows d l e here h =
    rw (drop_more rows m d l, e) (All-cons (λ r. r.start - base ≤ border → StandsAlone line (r.start - base) → ⊥) (get_or rows m d) (drop n rows) here h)

-- nor further on
pub none_further : (line : List ℕ) (base border n m : ℕ) (rows : List Span) → n ≤ m → NoneAlone line base border (drop n rows) → NoneAlone line base border (drop m rows)
none_further line base border n m rows l h =
    let to : n + (m - n) ≡ m = omega arith in
    rw (drop-drop (m - n) n rows, to) at (All-drop (λ r. r.start - base ≤ border → StandsAlone line (r.start - base) → ⊥) (m - n) (drop n rows) h)

-- the law, over the texts of lines
pub rows_go_on : RowsGoOn
rows_go_on cols line before row after u e s =
    let few : length before < length (line_places cols line) = omega (arith, ap length e, length-append before (row ∷ after)) in
    let here : get_or (before ++ row ∷ after) (length before) row ≡ row = get_or-append_right before (row ∷ after) (length before) (length before) row refl (omega arith) ∙ ap (λ n. get_or (row ∷ after) n row) (let z : length before - length before ≡ 0 = omega arith in z) in
    seam_goes_on cols line row.start (length before) row u s few (ap (λ (ss : List Span). (get_or ss (length before) row).start) e ∙ ap (λ (s : Span). s.start) here)
