-- The pieces of a line, one after another: each hangs on the text before its end and the one character behind it.
use Rattle.std.proofs.Common.{◌≡◌, ℕ, zero, suc, ◌+◌, ◌-◌, ◌<◌, ◌&&◌, Bool, true, false, not, eqb, List, [], ◌∷◌, ◌++◌, length, take, drop, replicate, arith, refl, sym, ap, ◌∙◌, append_assoc, inl, inr}
use Rattle.std.specs.List.{concat, flat_map, prefix_len}
use Rattle.std.proofs.lemmas.Bool.{cases_Bool}
use Rattle.std.proofs.lemmas.List.{append-nil, append_cancel_left, length-append, length-replicate, take_at, drop_at, drop-drop, take-append-drop}
use Rattle.minus_text.specs.Pieces.{Piece, pieces, piece_text, is_space, body_len, word_len, word_pieces, with_spaces, fronts}
use Rattle.minus_text.specs.Hyphens.{parts, begins_alphanumeric}
use Rattle.minus_text.specs.Rows.{run_text}
use Rattle.minus_text.proofs.CutsLaws.{cuts-nil, cuts-cons}
use Rattle.minus_text.proofs.WordsLaws.{word_rule, take_spaces}
use Rattle.minus_text.proofs.StretchesLaws.{stretch_stops}
use Rattle.minus_text.proofs.BodyLaws.{ends_alphanumeric, ends_append, same_next, bodies_after, bodies_all, bodies_nil, bodies_some, bodies_either, FirstBody, first_body}

-- ---- the first word

abbrev no_space : ℕ → Bool
no_space c = not (is_space c)

abbrev NoSpaces : List ℕ → Type 0
NoSpaces [] = Unit {0}
NoSpaces (c ∷ cs) = (is_space c ≡ false) × NoSpaces cs

-- nothing, or a text that begins with no space
abbrev BeginsWord : List ℕ → Type 0
BeginsWord [] = Unit {0}
BeginsWord (c ∷ cs) = is_space c ≡ false

both_none : (xs ys : List ℕ) → NoSpaces xs → NoSpaces ys → NoSpaces (xs ++ ys)
both_none [] ys h k = k
both_none (x ∷ xs) ys h k = (h.0, both_none xs ys h.1 k)

front_none : (xs ys : List ℕ) → NoSpaces (xs ++ ys) → NoSpaces xs × NoSpaces ys
front_none [] ys h = (tt, h)
front_none (x ∷ xs) ys h = let on = front_none xs ys h.1 in ((h.0, on.0), on.1)

all_none : (cs : List ℕ) → NoSpaces cs → prefix_len no_space cs ≡ length cs
all_none [] h = refl
all_none (c ∷ cs) h = let here : is_space c ≡ false = h.0 in let s : 1 + prefix_len no_space cs ≡ suc (prefix_len no_space cs) = omega arith in rw here (s ∙ ap suc (all_none cs h.1))

-- no spaces, then spaces, and then another word
record FirstWord (cs body : List ℕ) (spaces : ℕ) (more : List ℕ) : Type 0 where
  joins : cs ≡ body ++ (replicate spaces 32 ++ more)
  none : NoSpaces body
  next : BeginsWord more
  last : 0 < length more → 0 < spaces

spaces_stop : (n : ℕ) (more : List ℕ) → BeginsWord more → prefix_len is_space (replicate n 32 ++ more) ≡ n
spaces_stop zero [] h = refl
spaces_stop zero (c ∷ cs) h = let here : is_space c ≡ false = h in rw here refl
spaces_stop (suc n) more h = let s : 1 + prefix_len is_space (replicate n 32 ++ more) ≡ suc (prefix_len is_space (replicate n 32 ++ more)) = omega arith in s ∙ ap suc (spaces_stop n more h)

body_stops : (body : List ℕ) (spaces : ℕ) (more : List ℕ) → NoSpaces body → (0 < length more → 0 < spaces) → body_len (body ++ (replicate spaces 32 ++ more)) ≡ length body
body_stops body zero [] h l = ap body_len (append-nil body) ∙ all_none body h
body_stops body zero (c ∷ cs) h l = let no : 0 < 0 = l (omega arith) in absurd (omega arith)
body_stops body (suc n) more h l = stretch_stops no_space body 32 (replicate n 32 ++ more) refl ∙ all_none body h

-- how long it is
record WordLens (cs body : List ℕ) (spaces : ℕ) (more : List ℕ) : Type 0 where
  body_is : body_len cs ≡ length body
  taken : take (length body) cs ≡ body
  spaces_are : prefix_len is_space (drop (length body) cs) ≡ spaces
  word_is : word_len cs ≡ length body + spaces
  rest : drop (length body + spaces) cs ≡ more

word_lens : (cs body : List ℕ) (spaces : ℕ) (more : List ℕ) → FirstWord cs body spaces more → WordLens cs body spaces more
word_lens cs body spaces more h =
    let tail : List ℕ = replicate spaces 32 ++ more in
    let first : body_len cs ≡ length body = ap body_len h.joins ∙ body_stops body spaces more h.none h.last in
    let left : drop (length body) cs ≡ tail = ap (drop (length body)) h.joins ∙ drop_at body tail (length body) refl in
    let count : prefix_len is_space (drop (length body) cs) ≡ spaces = ap (prefix_len is_space) left ∙ spaces_stop spaces more h.next in
    record {
      body_is = first;
      taken = ap (take (length body)) h.joins ∙ take_at body tail (length body) refl;
      spaces_are = count;
      word_is = ap (λ n. n + prefix_len is_space (drop n cs)) first ∙ ap (λ n. length body + n) count;
      rest = sym (drop-drop spaces (length body) cs) ∙ ap (drop spaces) left ∙ drop_at (replicate spaces 32) more spaces (length-replicate {A = ℕ} spaces 32);
    }

-- each text has a first word
record HasWord (cs : List ℕ) : Type 0 where
  body : List ℕ
  spaces : ℕ
  more : List ℕ
  word : FirstWord cs body spaces more

taken_none : (cs : List ℕ) → NoSpaces (take (body_len cs) cs)
taken_none [] = tt
taken_none (c ∷ cs) = elim (cases_Bool (is_space c)) [
  | inl t ↦ rw t tt
  | inr f ↦ let s : 1 + body_len cs ≡ suc (body_len cs) = omega arith in rw (f, s) (f, taken_none cs)
]

left_word : (cs : List ℕ) → BeginsWord (drop (prefix_len is_space cs) cs)
left_word [] = tt
left_word (c ∷ cs) = elim (cases_Bool (is_space c)) [
  | inl t ↦ let s : 1 + prefix_len is_space cs ≡ suc (prefix_len is_space cs) = omega arith in rw (t, s) (left_word cs)
  | inr f ↦ rw f f
]

space_behind : (cs : List ℕ) (c : ℕ) (rest : List ℕ) → drop (body_len cs) cs ≡ c ∷ rest → is_space c ≡ true
space_behind [] c rest e = let z : 0 ≡ suc (length rest) = ap length e in absurd (omega arith)
space_behind (d ∷ cs) c rest e = elim (cases_Bool (is_space d)) [
  | inl t ↦ let same : d ∷ cs ≡ c ∷ rest = rw t at e in let head : d ≡ c = cc in ap is_space (sym head) ∙ t
  | inr f ↦
      let s : 1 + body_len cs ≡ suc (body_len cs) = omega arith in
      let on : drop (body_len cs) cs ≡ c ∷ rest = rw (f, s) at e in
      space_behind cs c rest on
]

some_spaces : (cs tail : List ℕ) → drop (body_len cs) cs ≡ tail → 0 < length (drop (prefix_len is_space tail) tail) → 0 < prefix_len is_space tail
some_spaces cs [] e l = absurd (omega arith)
some_spaces cs (c ∷ tail) e l = let here : is_space c ≡ true = space_behind cs c tail e in rw here (omega arith)

has_word : (cs : List ℕ) → HasWord cs
has_word cs =
    let n : ℕ = body_len cs in
    let tail : List ℕ = drop n cs in
    let m : ℕ = prefix_len is_space tail in
    record {
      body = take n cs;
      spaces = m;
      more = drop m tail;
      word = record {
        joins = sym (take-append-drop n cs) ∙ ap (λ xs. take n cs ++ xs) (sym (take-append-drop m tail) ∙ ap (λ xs. xs ++ drop m tail) (take_spaces tail));
        none = taken_none cs;
        next = left_word tail;
        last = λ l. some_spaces cs tail refl l;
      };
    }

-- ---- the pieces of what is left of a line

-- the pieces of what is left of a line, behind an ASCII letter or digit or not
pub pieces_after : ℕ → Bool → List ℕ → List Piece
pieces_after cols before cs = with_spaces (bodies_after cols before (take (body_len cs) cs)) (prefix_len is_space (drop (body_len cs) cs)) ++ pieces cols (drop (word_len cs) cs)

word_at : (cols : ℕ) (before : Bool) (cs body : List ℕ) (spaces : ℕ) (more : List ℕ) → FirstWord cs body spaces more → pieces_after cols before cs ≡ with_spaces (bodies_after cols before body) spaces ++ pieces cols more
unfolding pieces_after
word_at cols before cs body spaces more h =
    let l = word_lens cs body spaces more h in
    ap (λ n. with_spaces (bodies_after cols before (take n cs)) (prefix_len is_space (drop n cs)) ++ pieces cols (drop (word_len cs) cs)) l.body_is
    ∙ ap (λ xs. with_spaces (bodies_after cols before xs) (prefix_len is_space (drop (length body) cs)) ++ pieces cols (drop (word_len cs) cs)) l.taken
    ∙ ap (λ n. with_spaces (bodies_after cols before body) n ++ pieces cols (drop (word_len cs) cs)) l.spaces_are
    ∙ ap (λ xs. with_spaces (bodies_after cols before body) spaces ++ pieces cols xs) (ap (λ n. drop n cs) l.word_is ∙ l.rest)

pub after_is : (cols : ℕ) (before : Bool) (cs : List ℕ) → pieces_after cols before cs ≡ with_spaces (bodies_after cols before (take (body_len cs) cs)) (prefix_len is_space (drop (body_len cs) cs)) ++ pieces cols (drop (word_len cs) cs)
unfolding pieces_after
after_is cols before cs = refl

pieces_nil : (cols : ℕ) → pieces cols [] ≡ []
unfolding pieces
pieces_nil cols = ap (flat_map (word_pieces cols)) (cuts-nil word_len)

pieces_cons : (cols c : ℕ) (cs : List ℕ) → pieces cols (c ∷ cs) ≡ word_pieces cols (take (word_len (c ∷ cs)) (c ∷ cs)) ++ pieces cols (drop (word_len (c ∷ cs)) (c ∷ cs))
unfolding pieces
pieces_cons cols c cs = ap (flat_map (word_pieces cols)) (cuts-cons word_len word_rule c cs)

-- behind no letter or digit they are the pieces of a line of its own
pub pieces_all : (cols : ℕ) (cs : List ℕ) → 0 < length cs → pieces cols cs ≡ pieces_after cols false cs
pieces_all cols [] l = absurd (omega arith)
pieces_all cols (c ∷ cs) l =
    let whole : List ℕ = c ∷ cs in
    let h = has_word whole in
    let lens = word_lens whole h.body h.spaces h.more h.word in
    let word : List ℕ = h.body ++ replicate h.spaces 32 in
    let size : length word ≡ length h.body + h.spaces = length-append h.body (replicate h.spaces 32) ∙ ap (λ n. length h.body + n) (length-replicate {A = ℕ} h.spaces 32) in
    let joined : whole ≡ word ++ h.more = h.word.joins ∙ sym (append_assoc h.body (replicate h.spaces 32) h.more) in
    let taken : take (word_len whole) whole ≡ word = ap (λ n. take n whole) (lens.word_is ∙ sym size) ∙ ap (take (length word)) joined ∙ take_at word h.more (length word) refl in
    let rest : drop (word_len whole) whole ≡ h.more = ap (λ n. drop n whole) lens.word_is ∙ lens.rest in
    let alone : FirstWord word h.body h.spaces [] = record { joins = ap (λ xs. h.body ++ xs) (sym (append-nil (replicate h.spaces 32))); none = h.word.none; next = tt; last = λ l. absurd (omega arith) } in
    let own = word_lens word h.body h.spaces [] alone in
    let text : take (body_len word) word ≡ h.body = ap (λ n. take n word) own.body_is ∙ own.taken in
    let count : length word - body_len word ≡ h.spaces = omega (arith, size, own.body_is) in
    let one : word_pieces cols word ≡ with_spaces (bodies_after cols false h.body) h.spaces =
    ap (λ xs. with_spaces (flat_map (fronts cols) (parts xs)) (length word - body_len word)) text ∙ ap (λ n. with_spaces (flat_map (fronts cols) (parts h.body)) n) count ∙ ap (λ bs. with_spaces bs h.spaces) (sym (bodies_all cols h.body)) in
    pieces_cons cols c cs ∙ ap (λ xs. word_pieces cols xs ++ pieces cols (drop (word_len whole) whole)) taken ∙ ap (λ xs. word_pieces cols word ++ pieces cols xs) rest ∙ ap (λ ps. ps ++ pieces cols h.more) one
    ∙ sym (word_at cols false whole h.body h.spaces h.more h.word)

-- nor does it matter what stands before where no hyphen comes first that ends a part
pieces_either : (cols : ℕ) (before : Bool) (c : ℕ) (cs : List ℕ) → (before && (eqb c 45 && begins_alphanumeric cs)) ≡ false → pieces_after cols before (c ∷ cs) ≡ pieces cols (c ∷ cs)
pieces_either cols before c cs e =
    let h = has_word (c ∷ cs) in
    word_at cols before (c ∷ cs) h.body h.spaces h.more h.word ∙ ap (λ bs. with_spaces bs h.spaces ++ pieces cols h.more) (bodies h.body (replicate h.spaces 32 ++ h.more) h.word.joins)
    ∙ sym (word_at cols false (c ∷ cs) h.body h.spaces h.more h.word) ∙ sym (pieces_all cols (c ∷ cs) (omega arith))
  where
    begins_more : (xs ys : List ℕ) → begins_alphanumeric (xs ++ ys) ≡ false → begins_alphanumeric xs ≡ false
    begins_more [] ys f = refl
    begins_more (x ∷ xs) ys f = f

    less : (b d : Bool) (xs ys : List ℕ) → (b && (d && begins_alphanumeric (xs ++ ys))) ≡ false → (b && (d && begins_alphanumeric xs)) ≡ false
    less true true xs ys f = begins_more xs ys f
    less true false xs ys f = refl
    less false d xs ys f = refl

    bodies : (body tail : List ℕ) → c ∷ cs ≡ body ++ tail → bodies_after cols before body ≡ bodies_after cols false body
    bodies [] tail f = bodies_nil cols before ∙ sym (bodies_nil cols false)
    bodies (d ∷ body) tail f =
        let both : c ∷ cs ≡ d ∷ (body ++ tail) = f in
        let head : c ≡ d = cc in
        let rest : cs ≡ body ++ tail = cc in
        let here : (before && (eqb d 45 && begins_alphanumeric (body ++ tail))) ≡ false = ap (λ x. before && (eqb x 45 && begins_alphanumeric (body ++ tail))) (sym head) ∙ ap (λ xs. before && (eqb c 45 && begins_alphanumeric xs)) (sym rest) ∙ e in
        bodies_either cols before d body (less before (eqb d 45) body tail here)

-- the first piece of what is left of a line
record FirstPiece (cols : ℕ) (before : Bool) (cs : List ℕ) : Type 0 where
  first : Piece
  rest : List ℕ
  joins : cs ≡ piece_text first ++ rest
  alone : rest ≡ [] → pieces_after cols before cs ≡ first ∷ []
  stays : (c : ℕ) (ys zs : List ℕ) → rest ≡ c ∷ ys → pieces_after cols before (piece_text first ++ c ∷ zs) ≡ first ∷ pieces_after cols (ends_alphanumeric before (piece_text first)) (c ∷ zs)

ends_spaces : (before : Bool) (n : ℕ) → 0 < n → ends_alphanumeric before (replicate n 32) ≡ false
ends_spaces before zero l = absurd (omega arith)
ends_spaces before (suc n) l = spaces n
  where
    spaces : (n : ℕ) → ends_alphanumeric false (replicate n 32) ≡ false
    spaces zero = refl
    spaces (suc n) = spaces n

-- it is a word with its spaces
one_piece : (cols : ℕ) (before : Bool) (cs body : List ℕ) (spaces : ℕ) (more : List ℕ) (p : Piece) → FirstWord cs body spaces more → with_spaces (bodies_after cols before body) spaces ≡ p ∷ [] → piece_text p ≡ body ++ replicate spaces 32 → FirstPiece cols before cs
one_piece cols before cs body spaces more p h e text =
    record {
      first = p;
      rest = more;
      joins = h.joins ∙ sym (append_assoc body (replicate spaces 32) more) ∙ ap (λ xs. xs ++ more) (sym text);
      alone = λ n. word_at cols before cs body spaces more h ∙ ap (λ ps. ps ++ pieces cols more) e ∙ ap (λ ps. p ∷ ps) (ap (pieces cols) n ∙ pieces_nil cols);
      stays = λ c ys zs n.
          let some : 0 < spaces = h.last (omega (arith, ap length n)) in
          let word : BeginsWord (c ∷ ys) = rw n at h.next in
          let new : FirstWord (piece_text p ++ c ∷ zs) body spaces (c ∷ zs) = record { joins = ap (λ xs. xs ++ c ∷ zs) text ∙ append_assoc body (replicate spaces 32) (c ∷ zs); none = h.none; next = word; last = λ l. some } in
          let flag : ends_alphanumeric before (piece_text p) ≡ false = ap (ends_alphanumeric before) text ∙ ends_append before body (replicate spaces 32) ∙ ends_spaces (ends_alphanumeric before body) spaces some in
          word_at cols before (piece_text p ++ c ∷ zs) body spaces (c ∷ zs) new ∙ ap (λ ps. ps ++ pieces cols (c ∷ zs)) e ∙ ap (λ ps. p ∷ ps) (pieces_all cols (c ∷ zs) (omega arith)) ∙ ap (λ b. p ∷ pieces_after cols b (c ∷ zs)) (sym flag);
    }

with_spaces_more : (b : List (List ℕ)) (bs : List (List (List ℕ))) (n : ℕ) → 0 < length bs → with_spaces (b ∷ bs) n ≡ record { body = b; spaces = 0 } ∷ with_spaces bs n
with_spaces_more b [] n l = absurd (omega arith)
with_spaces_more b (c ∷ bs) n l = refl

-- or its first body alone
word_begins : (c : ℕ) (zs body : List ℕ) (spaces : ℕ) (more : List ℕ) → FirstWord (c ∷ zs) body spaces more → is_space c ≡ false → (ws : List ℕ) × (body ≡ c ∷ ws)
word_begins c zs [] zero more h e =
    let all : c ∷ zs ≡ more = h.joins in
    let no : 0 < 0 = h.last (omega (arith, ap length all)) in
    absurd (omega arith)
word_begins c zs [] (suc n) more h e =
    let all : c ∷ zs ≡ 32 ∷ (replicate n 32 ++ more) = h.joins in
    let head : c ≡ 32 = cc in
    let both : true ≡ false = sym (ap is_space head) ∙ e in
    absurd cc
word_begins c zs (d ∷ body) spaces more h e =
    let all : c ∷ zs ≡ d ∷ (body ++ (replicate spaces 32 ++ more)) = h.joins in
    let head : c ≡ d = cc in
    (body, ap (λ x. x ∷ body) (sym head))

body_stays : (cols : ℕ) (before : Bool) (first : List (List ℕ)) (text : List ℕ) (c : ℕ) (zs : List ℕ) → NoSpaces text → is_space c ≡ false
    → ((ws : List ℕ) → bodies_after cols before (text ++ c ∷ ws) ≡ first ∷ bodies_after cols (ends_alphanumeric before text) (c ∷ ws))
    → pieces_after cols before (text ++ c ∷ zs) ≡ record { body = first; spaces = 0 } ∷ pieces_after cols (ends_alphanumeric before text) (c ∷ zs)
body_stays cols before first text c zs none other stays =
    let k = has_word (c ∷ zs) in
    let tail : List ℕ = replicate k.spaces 32 ++ k.more in
    let begins = word_begins c zs k.body k.spaces k.more k.word other in
    let ws : List ℕ = begins.0 in
    let flag : Bool = ends_alphanumeric before text in
    let inside : NoSpaces (c ∷ ws) = rw begins.1 at k.word.none in
    let joined : text ++ c ∷ zs ≡ (text ++ c ∷ ws) ++ tail = ap (λ xs. text ++ xs) (k.word.joins ∙ ap (λ xs. xs ++ tail) begins.1) ∙ sym (append_assoc text (c ∷ ws) tail) in
    let both : FirstWord (text ++ c ∷ zs) (text ++ c ∷ ws) k.spaces k.more = record { joins = joined; none = both_none text (c ∷ ws) none inside; next = k.word.next; last = k.word.last } in
    let old : pieces_after cols flag (c ∷ zs) ≡ with_spaces (bodies_after cols flag (c ∷ ws)) k.spaces ++ pieces cols k.more =
    word_at cols flag (c ∷ zs) k.body k.spaces k.more k.word ∙ ap (λ xs. with_spaces (bodies_after cols flag xs) k.spaces ++ pieces cols k.more) begins.1 in
    word_at cols before (text ++ c ∷ zs) (text ++ c ∷ ws) k.spaces k.more both ∙ ap (λ bs. with_spaces bs k.spaces ++ pieces cols k.more) (stays ws)
    ∙ ap (λ ps. ps ++ pieces cols k.more) (with_spaces_more first (bodies_after cols flag (c ∷ ws)) k.spaces (bodies_some cols flag (c ∷ ws) (omega arith)))
    ∙ ap (λ ps. let p : Piece = record { body = first; spaces = 0 } in p ∷ ps) (sym old)

body_piece : (cols : ℕ) (before : Bool) (cs body : List ℕ) (spaces : ℕ) (more : List ℕ) (h : FirstBody cols before body) (d : ℕ) (left : List ℕ) → FirstWord cs body spaces more → h.rest ≡ d ∷ left → FirstPiece cols before cs
body_piece cols before cs body spaces more h d left w e =
    let p : Piece = record { body = h.first; spaces = 0 } in
    let text : List ℕ = concat h.first in
    let tail : List ℕ = replicate spaces 32 ++ more in
    let nil : piece_text p ≡ text = append-nil text in
    let split : body ≡ text ++ d ∷ left = h.joins ∙ ap (λ xs. text ++ xs) e in
    let none = front_none text (d ∷ left) (rw split at w.none) in
    record {
      first = p;
      rest = d ∷ (left ++ tail);
      joins = w.joins ∙ ap (λ xs. xs ++ tail) split ∙ append_assoc text (d ∷ left) tail ∙ ap (λ xs. xs ++ d ∷ (left ++ tail)) (sym nil);
      alone = λ n. absurd (let z : suc (length (left ++ tail)) ≡ 0 = ap length n in omega arith);
      stays = λ c ys zs n.
          let both : d ∷ (left ++ tail) ≡ c ∷ ys = n in
          let head : d ≡ c = cc in
          let other : is_space c ≡ false = ap is_space (sym head) ∙ none.1.0 in
          let on = body_stays cols before h.first text c zs none.0 other (λ ws. h.stays c left ws (e ∙ ap (λ x. x ∷ left) head)) in
          ap (λ xs. pieces_after cols before (xs ++ c ∷ zs)) nil ∙ on ∙ ap (λ xs. p ∷ pieces_after cols (ends_alphanumeric before xs) (c ∷ zs)) (sym nil);
    }

from_word : (cols : ℕ) (before : Bool) (cs body : List ℕ) (spaces : ℕ) (more : List ℕ) → FirstWord cs body spaces more → FirstPiece cols before cs
from_word cols before cs [] spaces more w = one_piece cols before cs [] spaces more (record { body = []; spaces = spaces }) w (ap (λ bs. with_spaces bs spaces) (bodies_nil cols before)) refl
from_word cols before cs (d ∷ body) spaces more w = go (h.rest) refl
  where
    h : FirstBody cols before (d ∷ body)
    h = first_body cols before (d ∷ body) (omega arith)

    go : (rest : List ℕ) → h.rest ≡ rest → FirstPiece cols before cs
    go [] e =
        let text : concat h.first ≡ d ∷ body = sym (append-nil (concat h.first)) ∙ ap (λ xs. concat h.first ++ xs) (sym e) ∙ sym h.joins in
        one_piece cols before cs (d ∷ body) spaces more (record { body = h.first; spaces = spaces }) w (ap (λ bs. with_spaces bs spaces) (h.alone e)) (ap (λ xs. xs ++ replicate spaces 32) text)
    go (c ∷ left) e = body_piece cols before cs (d ∷ body) spaces more h c left w e

first_piece : (cols : ℕ) (before : Bool) (cs : List ℕ) → FirstPiece cols before cs
first_piece cols before cs = let h = has_word cs in from_word cols before cs h.body h.spaces h.more h.word

-- ---- pieces that end at a place

first_is : (cols : ℕ) (before : Bool) (cs : List ℕ) (h : FirstPiece cols before cs) (p : Piece) (ps : List Piece) → pieces_after cols before cs ≡ p ∷ ps → h.first ≡ p
first_is cols before cs h p ps e = go (h.rest) refl
  where
    go : (rest : List ℕ) → h.rest ≡ rest → h.first ≡ p
    go [] f =
        let both : h.first ∷ [] ≡ p ∷ ps = sym (h.alone f) ∙ e in
        let head : h.first ≡ p = cc in
        head
    go (c ∷ rest) f =
        let flag : Bool = ends_alphanumeric before (piece_text h.first) in
        let whole : cs ≡ piece_text h.first ++ c ∷ rest = h.joins ∙ ap (λ xs. piece_text h.first ++ xs) f in
        let both : h.first ∷ pieces_after cols flag (c ∷ rest) ≡ p ∷ ps = sym (ap (pieces_after cols before) whole ∙ h.stays c rest rest f) ∙ e in
        let head : h.first ≡ p = cc in
        head

-- the first piece, and the others, of a text that goes on behind it
piece_stays : (cols : ℕ) (before : Bool) (p : Piece) (ps : List Piece) (xs : List ℕ) (c : ℕ) (ys : List ℕ) → xs ≡ c ∷ ys → pieces_after cols before (piece_text p ++ xs) ≡ p ∷ ps
    → (ws zs : List ℕ) → ws ≡ c ∷ zs → pieces_after cols before (piece_text p ++ ws) ≡ p ∷ pieces_after cols (ends_alphanumeric before (piece_text p)) ws
piece_stays cols before p ps xs c ys e f ws zs g =
    let h = first_piece cols before (piece_text p ++ xs) in
    let is : h.first ≡ p = first_is cols before (piece_text p ++ xs) h p ps f in
    let text : piece_text h.first ≡ piece_text p = ap piece_text is in
    let rest : xs ≡ h.rest = append_cancel_left (piece_text p) xs h.rest (h.joins ∙ ap (λ ds. ds ++ h.rest) text) in
    let on = h.stays c ys zs (sym rest ∙ e) in
    ap (λ ds. pieces_after cols before (piece_text p ++ ds)) g ∙ ap (λ ds. pieces_after cols before (ds ++ c ∷ zs)) (sym text) ∙ on
    ∙ ap (λ q. q ∷ pieces_after cols (ends_alphanumeric before (piece_text h.first)) (c ∷ zs)) is ∙ ap (λ ds. p ∷ pieces_after cols (ends_alphanumeric before ds) (c ∷ zs)) text
    ∙ ap (λ ds. p ∷ pieces_after cols (ends_alphanumeric before (piece_text p)) ds) (sym g)

-- pieces that end at a place do so whatever follows the character there
pieces_go_on : (cols : ℕ) (before : Bool) (front back : List Piece) (c : ℕ) (ys zs : List ℕ) → pieces_after cols before (run_text front ++ c ∷ ys) ≡ front ++ back
    → pieces_after cols before (run_text front ++ c ∷ zs) ≡ front ++ pieces_after cols (ends_alphanumeric before (run_text front)) (c ∷ zs)
pieces_go_on cols before [] back c ys zs e = refl
pieces_go_on cols before (p ∷ ps) back c ys zs e =
    let xs : List ℕ = run_text ps in
    let at = same_next xs c ys zs in
    let flag : Bool = ends_alphanumeric before (piece_text p) in
    let all : (ds : List ℕ) → (piece_text p ++ xs) ++ ds ≡ piece_text p ++ (xs ++ ds) = λ ds. append_assoc (piece_text p) xs ds in
    let was : pieces_after cols before (piece_text p ++ (xs ++ c ∷ ys)) ≡ p ∷ (ps ++ back) = ap (pieces_after cols before) (sym (all (c ∷ ys))) ∙ e in
    let stays = piece_stays cols before p (ps ++ back) (xs ++ c ∷ ys) at.next at.one at.one_is was in
    let old : p ∷ pieces_after cols flag (xs ++ c ∷ ys) ≡ p ∷ (ps ++ back) = sym (stays (xs ++ c ∷ ys) at.one at.one_is) ∙ was in
    let rest : pieces_after cols flag (xs ++ c ∷ ys) ≡ ps ++ back = ap (drop 1) old in
    ap (pieces_after cols before) (all (c ∷ zs)) ∙ stays (xs ++ c ∷ zs) at.other at.other_is ∙ ap (λ qs. p ∷ qs) (pieces_go_on cols flag ps back c ys zs rest)
    ∙ ap (λ b. p ∷ (ps ++ pieces_after cols b (c ∷ zs))) (sym (ends_append before (piece_text p) xs))

-- a character at which forming can begin again: no hyphen behind an ASCII letter or digit that ends a part
abbrev pub IsSound : List ℕ → ℕ → List ℕ → Type 0
IsSound xs c zs = (ends_alphanumeric false xs && (eqb c 45 && begins_alphanumeric zs)) ≡ false

-- so the others are the pieces of what stands from the place on
pub pieces_from : (cols : ℕ) (front back : List Piece) (c : ℕ) (ys zs : List ℕ) → pieces cols (run_text front ++ c ∷ ys) ≡ front ++ back → IsSound (run_text front) c zs
    → pieces cols (run_text front ++ c ∷ zs) ≡ front ++ pieces cols (c ∷ zs)
pieces_from cols front back c ys zs e sound =
    let some : (ds : List ℕ) → 0 < length (run_text front ++ c ∷ ds) = λ ds. omega (arith, length-append (run_text front) (c ∷ ds)) in
    pieces_all cols (run_text front ++ c ∷ zs) (some zs) ∙ pieces_go_on cols false front back c ys zs (sym (pieces_all cols (run_text front ++ c ∷ ys) (some ys)) ∙ e)
    ∙ ap (λ ps. front ++ ps) (pieces_either cols (ends_alphanumeric false (run_text front)) c zs sound)
