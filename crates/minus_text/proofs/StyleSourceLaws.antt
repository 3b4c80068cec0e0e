-- The style behind a text is read of its part behind the last newline or reset.
use Rattle.std.proofs.Common.{inl, inr, ◌≡◌, ℕ, zero, suc, ◌+◌, ◌-◌, ◌<◌, ◌≤◌, Bool, true, false, eqb, not, ◌||◌, List, [], ◌∷◌, ◌++◌, length, take, drop, get_or, Option, None, Some, is_some, append_assoc, refl, sym, subst, ap, ◌∙◌, arith}
use Rattle.std.specs.List.{list_all, sum_by}
use Rattle.std.proofs.lemmas.Bool.{cases_Bool, and_parts}
use Rattle.std.proofs.lemmas.List.{take-append-drop, take_all, drop-append-le, drop-drop, length-drop, length-take-le}
use Rattle.memchr.specs.Find.{Nowhere, Passes, IsFirstByte, is_byte, is_byte2}
use Rattle.minus_text.specs.declared.carried_style.StylePart.{StylePart}
use Rattle.minus_text.specs.Lines.{Cut, cut, whole, unfinished_line}
use Rattle.minus_text.specs.Plain.{is_unescaped}
use Rattle.minus_text.specs.Kept.{bytes_of}
use Rattle.minus_text.specs.RowText.{IsUnescapedFrom}
use Rattle.minus_text.specs.Styles.{Reading, holding, read, read_all, read_text}
use Rattle.minus_text.specs.StyleSources.{EndsStyles, IsStylePart}
use Rattle.minus_text.proofs.LinesLaws.{cut-append, open_at}
use Rattle.minus_text.proofs.PreparedLaws.{whole_more, whole_append}
use Rattle.minus_text.proofs.ScreenLaws.{open_whole, is_not}
use Rattle.minus_text.proofs.StylesLaws.{no_length, read_append}
use Rattle.minus_text.proofs.RowTextsLaws.{all_take, all_drop, none_from}

-- ---- bytes that are neither ESC nor a newline

abbrev pub quiet : ℕ → Bool
quiet b = not (is_byte2 27 10 b)

both_not : (a b : Bool) → not (a || b) ≡ true → (a ≡ false) × (b ≡ false)
both_not false false e = (refl, refl)
both_not false true e = absurd cc
both_not true b e = absurd cc

quiet_parts : (b : ℕ) (bs : List ℕ) → list_all quiet (b ∷ bs) ≡ true → (eqb b 27 ≡ false) × (eqb b 10 ≡ false) × (list_all quiet bs ≡ true)
quiet_parts b bs h =
    let parts = and_parts (quiet b) (list_all quiet bs) h in
    let none = both_not (eqb b 27) (eqb b 10) parts.0 in
    (none.0, none.1, parts.1)

pub quiet_read : (held text : List ℕ) → list_all quiet text ≡ true → read_all (holding held) text ≡ holding held
quiet_read held [] h = refl
quiet_read held (b ∷ bs) h =
    let parts = quiet_parts b bs h in
    let one : read (holding held) b ≡ holding held = rw (parts.0) refl in
    ap (λ r. read_all r bs) one ∙ quiet_read held bs parts.2

pub quiet_whole : (text : List ℕ) → list_all quiet text ≡ true → cut text ≡ whole text
quiet_whole [] h = refl
quiet_whole (b ∷ bs) h = let parts = quiet_parts b bs h in whole_more b bs parts.1 (quiet_whole bs parts.2)

-- no byte from a place on is one of these, where a search finds none
pub quiet_from : (k : ℕ) (hay : List ℕ) → Nowhere (Passes (is_byte2 27 10) hay) k (length hay) → list_all quiet (drop k hay) ≡ true
quiet_from zero [] h = refl
quiet_from (suc k) [] h = refl
quiet_from (suc k) (c ∷ cs) h = quiet_from k cs (λ j l m. h (suc j) (omega (arith, l)) (omega (arith, m)))
quiet_from zero (c ∷ cs) h = elim (cases_Bool (is_byte2 27 10 c)) [
  | inl t ↦ absurd (h 0 (omega arith) (omega arith) t)
  | inr f ↦ rw f (quiet_from zero cs (λ j l m. h (suc j) (omega (arith, l)) (omega (arith, m))))
]

-- ---- what ends styles

-- a newline: the line begins behind it
pub newline_open : (front rest : List ℕ) → (x : List ℕ) × (xs : List (List ℕ)) × (cut (front ++ 10 ∷ rest) ≡ record { closed = x ∷ xs; open_line = (cut rest).open_line })
newline_open [] rest = ([], (cut rest).closed, refl)
newline_open (b ∷ front) rest =
    let ih = newline_open front rest in
    elim (cases_Bool (eqb b 10)) [
      | inl t ↦ ([], ih.0 ∷ ih.1, rw (t, ih.2) refl)
      | inr f ↦ (b ∷ ih.0, ih.1, rw (f, ih.2) refl)
    ]

pub newline_ends : (rest : List ℕ) → EndsStyles (10 ∷ rest)
newline_ends rest = λ front h. ap (λ (c : Cut). read_text c.open_line) (newline_open front rest).2 ∙ ap (λ (c : Cut). read_text c.open_line) h

-- a text with no newline goes on with the unfinished line before it
pub open_goes_on : (front text : List ℕ) → cut text ≡ whole text → unfinished_line (front ++ text) ≡ unfinished_line front ++ text
open_goes_on front text h =
    ap (λ (c : Cut). c.open_line) (cut-append front text) ∙ ap (λ (c : Cut). c.open_line) (whole_append (unfinished_line front) text (open_whole front) h)

-- a reset: whatever is open before it
short_reset : (r : Reading) (rest : List ℕ) → read_all r (27 ∷ 91 ∷ 109 ∷ rest) ≡ read_text (91 ∷ 109 ∷ rest)
short_reset r rest = refl

long_reset : (r : Reading) (rest : List ℕ) → read_all r (27 ∷ 91 ∷ 48 ∷ 109 ∷ rest) ≡ read_text (91 ∷ 48 ∷ 109 ∷ rest)
long_reset r rest = refl

reset_ends : (b : ℕ) (text : List ℕ) → eqb b 10 ≡ false → ((r : Reading) → read_all r (b ∷ text) ≡ read_text text) → EndsStyles (b ∷ text)
reset_ends b text other resets = λ front h.
    let line : List ℕ = unfinished_line front in
    ap read_text (open_goes_on front (b ∷ text) (whole_more b text other h)) ∙ read_append (holding []) line (b ∷ text) ∙ resets (read_text line)

pub short_reset_ends : (rest : List ℕ) → EndsStyles (27 ∷ 91 ∷ 109 ∷ rest)
short_reset_ends rest = reset_ends 27 (91 ∷ 109 ∷ rest) refl (λ r. short_reset r rest)

pub long_reset_ends : (rest : List ℕ) → EndsStyles (27 ∷ 91 ∷ 48 ∷ 109 ∷ rest)
long_reset_ends rest = reset_ends 27 (91 ∷ 48 ∷ 109 ∷ rest) refl (λ r. long_reset r rest)

-- ---- the way back

-- what stands behind a place of a front is the rest of the front, and what follows it
behind_place : (text : List ℕ) (at from : ℕ) → at < from → from ≤ length text → drop (at + 1) text ≡ drop (at + 1) (take from text) ++ drop from text
behind_place text at from l le =
    let size : length (take from text) ≡ from = length-take-le from text le in
    ap (drop (at + 1)) (sym (take-append-drop from text)) ∙ drop-append-le (at + 1) (take from text) (drop from text) (omega (arith, size, l))

module _ (text : List ℕ) (at from : ℕ) (less : at < from) (within : from ≤ length text) (none : Nowhere (Passes (is_byte2 27 10) (take from text)) (at + 1) (length (take from text))) where
  abbrev between : List ℕ
  between = drop (at + 1) (take from text)

  -- the text behind the place has no newline, and is read as the part behind it
  pub passed_whole : cut (drop from text) ≡ whole (drop from text) → cut (drop (at + 1) text) ≡ whole (drop (at + 1) text)
  passed_whole h = rw (behind_place text at from less within) (whole_append between (drop from text) (quiet_whole between (quiet_from (at + 1) (take from text) none)) h)

  pub passed_read : read_text (drop (at + 1) text) ≡ read_text (drop from text)
  passed_read = ap read_text (behind_place text at from less within) ∙ read_append (holding []) between (drop from text) ∙ ap (λ r. read_all r (drop from text)) (quiet_read [] between (quiet_from (at + 1) (take from text) none))

-- ---- what the bytes of a text say

pub first_newline : (text : List ℕ) → 0 < length text → get_or text 0 0 ≡ 10 → EndsStyles text
first_newline [] l e = absurd (omega (arith, l))
first_newline (b ∷ bs) l e = subst (λ x. EndsStyles (x ∷ bs)) (sym e) (newline_ends bs)

pub short_at : (text : List ℕ) → 3 ≤ length text → get_or text 0 0 ≡ 27 → get_or text 1 0 ≡ 91 → get_or text 2 0 ≡ 109 → EndsStyles text
short_at [] l e f g = absurd (omega (arith, l))
short_at (b ∷ []) l e f g = absurd (omega (arith, l))
short_at (b ∷ c ∷ []) l e f g = absurd (omega (arith, l))
short_at (b ∷ c ∷ d ∷ bs) l e f g =
    subst (λ x. EndsStyles (x ∷ c ∷ d ∷ bs)) (sym e) (subst (λ x. EndsStyles (27 ∷ x ∷ d ∷ bs)) (sym f) (subst (λ x. EndsStyles (27 ∷ 91 ∷ x ∷ bs)) (sym g) (short_reset_ends bs)))

pub long_at : (text : List ℕ) → 4 ≤ length text → get_or text 0 0 ≡ 27 → get_or text 1 0 ≡ 91 → get_or text 2 0 ≡ 48 → get_or text 3 0 ≡ 109 → EndsStyles text
long_at [] l e f g h = absurd (omega (arith, l))
long_at (b ∷ []) l e f g h = absurd (omega (arith, l))
long_at (b ∷ c ∷ []) l e f g h = absurd (omega (arith, l))
long_at (b ∷ c ∷ d ∷ []) l e f g h = absurd (omega (arith, l))
long_at (b ∷ c ∷ d ∷ i ∷ bs) l e f g h =
    subst (λ x. EndsStyles (x ∷ c ∷ d ∷ i ∷ bs)) (sym e) (subst (λ x. EndsStyles (27 ∷ x ∷ d ∷ i ∷ bs)) (sym f)
    (subst (λ x. EndsStyles (27 ∷ 91 ∷ x ∷ i ∷ bs)) (sym g) (subst (λ x. EndsStyles (27 ∷ 91 ∷ 48 ∷ x ∷ bs)) (sym h) (long_reset_ends bs))))

-- ---- the part that is left

-- the text from a place on, where the byte there is no newline
pub place_whole : (text : List ℕ) (at : ℕ) → at < length text → eqb (get_or (drop at text) 0 0) 10 ≡ false → cut (drop (at + 1) text) ≡ whole (drop (at + 1) text) → cut (drop at text) ≡ whole (drop at text)
place_whole [] at l f h = absurd (omega (arith, l))
place_whole (b ∷ bs) zero l f h = whole_more b bs f h
place_whole (b ∷ bs) (suc at) l f h =
    let one : suc at + 1 ≡ suc (at + 1) = omega arith in
    place_whole bs at (omega (arith, l)) f (subst (λ n. cut (drop n (b ∷ bs)) ≡ whole (drop n (b ∷ bs))) one h)

pub ended_part : (text : List ℕ) (at from : ℕ) (part : StylePart) → part.is_ended ≡ true → part.bytes.now ≡ drop from text → EndsStyles (drop at text) → cut (drop (at + 1) text) ≡ whole (drop (at + 1) text) → read_text (drop (at + 1) text) ≡ read_text (drop from text)
    → IsStylePart text part
ended_part text at from part hit bytes ends one reads = record {
  ended = λ _ front.
      let next : drop 1 (drop at text) ≡ drop (at + 1) text = drop-drop 1 at text in
      ap (λ t. read_text (unfinished_line (front ++ t))) (sym (take-append-drop at text)) ∙ ap (λ t. read_text (unfinished_line t)) (sym (append_assoc front (take at text) (drop at text)))
      ∙ ends (front ++ take at text) (subst (λ t. cut t ≡ whole t) (sym next) one) ∙ ap read_text next ∙ reads ∙ ap read_text (sym bytes);
  one_line = λ miss. absurd (let e : true ≡ false = sym hit ∙ miss in cc);
  read = λ miss. absurd (let e : true ≡ false = sym hit ∙ miss in cc);
}

pub left_part : (text : List ℕ) (from : ℕ) (part : StylePart) → part.is_ended ≡ false → part.bytes.now ≡ drop from text → from ≤ length text → Nowhere (Passes (is_byte2 27 10) (take from text)) 0 (length (take from text)) → cut (drop from text) ≡ whole (drop from text)
    → IsStylePart text part
left_part text from part miss bytes le none one =
    let front : List ℕ = take from text in
    let rest : List ℕ = drop from text in
    let still : list_all quiet front ≡ true = quiet_from 0 front none in
    record {
      ended = λ hit. absurd (let e : true ≡ false = sym hit ∙ miss in cc);
      one_line = λ _. subst (λ t. cut t ≡ whole t) (take-append-drop from text) (whole_append front rest (quiet_whole front still) one);
      read = λ _. ap read_text (sym (take-append-drop from text)) ∙ read_append (holding []) front rest ∙ ap (λ r. read_all r rest) (quiet_read [] front still) ∙ ap read_text (sym bytes);
    }

-- ---- what a source reads

-- the part of a text, where nothing stands before it
pub part_reads : (text : List ℕ) (part : StylePart) → IsStylePart text part → read_text part.bytes.now ≡ read_text (unfinished_line text)
part_reads text part is = elim (cases_Bool part.is_ended) [
  | inl hit ↦ sym (is.ended hit [])
  | inr miss ↦ sym (ap (λ (c : Cut). read_text c.open_line) (is.one_line miss) ∙ is.read miss)
]

-- a text behind another one
pub ended_behind : (front text : List ℕ) (part : StylePart) → IsStylePart text part → part.is_ended ≡ true → read_text ([] ++ part.bytes.now) ≡ read_text (unfinished_line (front ++ text))
ended_behind front text part is hit = sym (is.ended hit front)

pub open_behind : (front text kept : List ℕ) (part : StylePart) → IsStylePart text part → part.is_ended ≡ false → read_text kept ≡ read_text (unfinished_line front) → read_text (kept ++ text) ≡ read_text (unfinished_line (front ++ text))
open_behind front text kept part is miss reads =
    read_append (holding []) kept text ∙ ap (λ r. read_all r text) reads ∙ sym (read_append (holding []) (unfinished_line front) text) ∙ ap read_text (sym (open_goes_on front text (is.one_line miss)))

-- a text without ESC holds no style
unescaped_read : (held text : List ℕ) → list_all is_unescaped text ≡ true → read_all (holding held) text ≡ holding held
unescaped_read held [] h = refl
unescaped_read held (b ∷ bs) h =
    let parts = and_parts (is_unescaped b) (list_all is_unescaped bs) h in
    let other : eqb b 27 ≡ false = is_not (eqb b 27) parts.0 in
    let one : read (holding held) b ≡ holding held = rw other refl in
    ap (λ r. read_all r bs) one ∙ unescaped_read held bs parts.1

pub plain_read : (kept formed : List ℕ) → Nowhere (Passes (is_byte 27) kept) 0 (length kept) → Nowhere (Passes (is_byte 27) formed) 0 (length formed) → read_text (kept ++ formed) ≡ holding []
plain_read kept formed k f =
    read_append (holding []) kept formed ∙ ap (λ r. read_all r formed) (unescaped_read [] kept (none_from 0 kept k)) ∙ unescaped_read [] formed (none_from 0 formed f)

-- where a text has no ESC, no line before a place of it has a style
pub none_before : (text : List ℕ) (at : ℕ) → IsUnescapedFrom 0 text → read_text [] ≡ read_text (unfinished_line (take at text))
none_before text at h =
    let front : List ℕ = take at text in
    let opens = open_at front in
    let still : list_all is_unescaped (drop (sum_by bytes_of (cut front).closed) front) ≡ true = all_drop is_unescaped front (sum_by bytes_of (cut front).closed) (all_take is_unescaped text at h) in
    sym (unescaped_read [] (unfinished_line front) (subst (λ t. list_all is_unescaped t ≡ true) opens.rest still))

pub plain_found : (kept formed : List ℕ) (a b : Option ℕ) → IsFirstByte (is_byte 27) kept a → IsFirstByte (is_byte 27) formed b → (x y : Bool) → is_some a ≡ not x → is_some b ≡ not y → x ≡ true → y ≡ true → (read_text (kept ++ formed)).held ≡ []
plain_found kept formed None None k f x y a b s t = ap (λ (r : Reading). r.held) (plain_read kept formed k f)
plain_found kept formed (Some n) y k f x z a b s t = absurd (let e : true ≡ false = a ∙ ap not s in cc)
plain_found kept formed None (Some n) k f x y a b s t = absurd (let e : true ≡ false = b ∙ ap not t in cc)

-- two parts are read one behind the other
pub read_twice : (kept formed : List ℕ) (empty one two : Reading) → empty ≡ holding [] → one ≡ read_all empty kept → two ≡ read_all one formed → two.held ≡ (read_text (kept ++ formed)).held
read_twice kept formed empty one two e f g = ap (λ (r : Reading). r.held) (g ∙ ap (λ r. read_all r formed) (f ∙ ap (λ r. read_all r kept) e) ∙ sym (read_append (holding []) kept formed))

-- what stands from a place on, as it is cut out
pub rest_is : (n : ℕ) (text : List ℕ) → take (length text - n) (drop n text) ≡ drop n text
rest_is n text = take_all (length text - n) (drop n text) (omega (arith, length-drop n text))

-- bytes without ESC are skipped where no sequence has begun
unescaped_front : (at : ℕ) (hay : List ℕ) → at ≤ length hay → Nowhere (Passes (is_byte 27) hay) 0 at → list_all is_unescaped (take at hay) ≡ true
unescaped_front zero hay l h = refl
unescaped_front (suc at) [] l h = refl
unescaped_front (suc at) (c ∷ cs) l h = elim (cases_Bool (eqb c 27)) [
  | inl t ↦ absurd (h 0 (omega arith) (omega arith) t)
  | inr f ↦ rw f (unescaped_front at cs (omega (arith, l)) (λ j m n. h (suc j) (omega (arith, m)) (omega (arith, n))))
]

none_begun : (r : Reading) → length r.begun ≡ 0 → r ≡ holding r.held
none_begun r e = ap (λ b. let q : Reading = record { held = r.held; begun = b } in q) (no_length r.begun (grind (arith, e)))

pub passed_to : (r : Reading) (bytes : List ℕ) (at : ℕ) → length r.begun ≡ 0 → at ≤ length bytes → Nowhere (Passes (is_byte 27) bytes) 0 at → read_all r (drop at bytes) ≡ read_all r bytes
passed_to r bytes at e l h =
    let same = none_begun r e in
    let front : read_all r (take at bytes) ≡ r = ap (λ q. read_all q (take at bytes)) same ∙ unescaped_read r.held (take at bytes) (unescaped_front at bytes l h) ∙ sym same in
    ap (λ q. read_all q (drop at bytes)) (sym front) ∙ sym (read_append r (take at bytes) (drop at bytes)) ∙ ap (read_all r) (take-append-drop at bytes)

pub passed_all : (r : Reading) (bytes : List ℕ) → length r.begun ≡ 0 → Nowhere (Passes (is_byte 27) bytes) 0 (length bytes) → r ≡ read_all r bytes
passed_all r bytes e h =
    let same = none_begun r e in
    same ∙ sym (unescaped_read r.held bytes (none_from 0 bytes h)) ∙ ap (λ q. read_all q bytes) (sym same)

-- one byte, and then what is left behind it
pub read_on : (whole one : Reading) (b : ℕ) (more rest : List ℕ) (now : Reading) → read_all one (b ∷ more) ≡ whole → now ≡ read one b → read_all now rest ≡ read_all now more → read_all now rest ≡ whole
read_on whole one b more rest now is e left = left ∙ ap (λ q. read_all q more) e ∙ is

pub read_to_end : (now whole : Reading) (rest : List ℕ) → length rest ≡ 0 → read_all now rest ≡ whole → now ≡ whole
read_to_end now whole [] e is = is
read_to_end now whole (b ∷ bs) e is = absurd (omega (arith, e))

-- no bytes hold no style
pub empty_held : (kept formed : List ℕ) → length kept ≡ 0 → length formed ≡ 0 → (read_text (kept ++ formed)).held ≡ []
empty_held [] [] k f = refl
empty_held [] (b ∷ formed) k f = absurd (omega (arith, f))
empty_held (b ∷ kept) formed k f = absurd (omega (arith, k))
