-- Laws on words and their parts.
use Rattle.std.proofs.Common.{◌≡◌, ℕ, zero, suc, ◌+◌, ◌-◌, ◌≤◌, ◌<◌, ◌&&◌, Bool, true, false, not, eqb, List, [], ◌∷◌, ◌++◌, length, map, take, drop, replicate, get_or, chars, encode_utf8, arith, refl, sym, ap, ◌∙◌, append_assoc, inl, inr}
use Rattle.std.specs.List.{flat_map, prefix_len}
use Rattle.std.specs.Char.{is_ascii_alphanumeric}
use Rattle.std.specs.Str.{IsUtf8, encode_utf8_all}
use Rattle.std.proofs.lemmas.Bool.{cases_Bool, eqb-true}
use Rattle.std.proofs.lemmas.List.{append-nil, length-append, map-append, append_cancel_right, take_at, drop_at, take-append-drop, take_all, drop_all, drop-drop, length-replicate}
use Rattle.std.proofs.Math.Seq.{take-add}
use Rattle.std.proofs.lemmas.List.Folds.{length-prefix_len}
use Rattle.std.proofs.lemmas.Str.{chars-append, encodes-chars, encodes-IsAscii, length-le-encodes}
use Rattle.minus_text.specs.Cuts.{cuts}
use Rattle.minus_text.specs.Units.{units, unit_len}
use Rattle.minus_text.specs.TheRuns.{the_runs}
use Rattle.minus_text.specs.Runs.{AreRuns}
use Rattle.minus_text.specs.Fronts.{fits_front, front_rule}
use Rattle.minus_text.specs.Pieces.{fronts, with_spaces, words, word_len, body_len, is_space, word_pieces}
use Rattle.minus_text.specs.Hyphens.{part_len_after, parts, begins_alphanumeric}
use Rattle.minus_text.specs.MeasuredPieces.{measure, SplitsPart, SplitsWord}
use Rattle.minus_text.specs.declared.pieces.Measured.{Measured}
use Rattle.minus_text.proofs.CutsLaws.{IsCutRule, cuts-nil, cuts-cons, cuts_first}
use Rattle.minus_text.proofs.UnitsLaws.{unit_rule}
use Rattle.minus_text.proofs.StretchesLaws.{text_split}

-- ---- parts

-- what a search for the end of a part has passed
pub record PartScan (body rest : List ℕ) (before : Bool) : Type 0 where
  pub bytes : List ℕ
  pub body_is : body ≡ bytes ++ rest
  pub passed : List ℕ
  pub chars_are : chars body ≡ passed ++ chars rest
  pub len : part_len_after false (chars body) ≡ length passed + part_len_after before (chars rest)

pub nothing_passed : (body : List ℕ) → PartScan body body false
nothing_passed body = record { bytes = []; body_is = refl; passed = []; chars_are = refl; len = let z : 0 + part_len_after false (chars body) ≡ part_len_after false (chars body) = omega arith in sym z }

pub passes_one : (body rest more : List ℕ) (before : Bool) (c : ℕ) → PartScan body rest before → chars rest ≡ c ∷ chars more → rest ≡ encode_utf8 c ++ more → (before && (eqb c 45 && begins_alphanumeric (chars more))) ≡ false
    → PartScan body more (is_ascii_alphanumeric c)
passes_one body rest more before c s e b stays =
    let step : part_len_after before (c ∷ chars more) ≡ 1 + part_len_after (is_ascii_alphanumeric c) (chars more) = rw stays refl in
    let here : part_len_after before (chars rest) ≡ 1 + part_len_after (is_ascii_alphanumeric c) (chars more) = ap (part_len_after before) e ∙ step in
    record {
      bytes = s.bytes ++ encode_utf8 c;
      body_is = s.body_is ∙ ap (λ xs. s.bytes ++ xs) b ∙ sym (append_assoc s.bytes (encode_utf8 c) more);
      passed = s.passed ++ c ∷ [];
      chars_are = s.chars_are ∙ ap (λ xs. s.passed ++ xs) e ∙ sym (append_assoc s.passed (c ∷ []) (chars more));
      len = omega (arith, s.len, here, length-append s.passed (c ∷ []));
    }

-- every part has a character at least
pub part_rule : IsCutRule (part_len_after false)
part_rule c cs = omega arith

-- the front before the rest is known by its characters
pub front_is : (all front rest : List ℕ) (passed : List ℕ) → IsUtf8 front → all ≡ front ++ rest → chars all ≡ passed ++ chars rest → chars front ≡ passed
front_is all front rest passed u e f = append_cancel_right (chars front) passed (chars rest) (sym (chars-append front rest u) ∙ sym (ap chars e) ∙ f)

-- a hyphen between letters or digits ends the part
pub part_cut : (body rest more front : List ℕ) (before : Bool) (c : ℕ) → PartScan body rest before → chars rest ≡ c ∷ chars more → (before && (eqb c 45 && begins_alphanumeric (chars more))) ≡ true
    → IsUtf8 front → body ≡ front ++ more → SplitsPart (chars body) (chars front) (chars more)
part_cut body rest more front before c s e ends u b =
    let one : part_len_after before (chars rest) ≡ 1 = ap (part_len_after before) e ∙ (rw ends refl) in
    let all : chars body ≡ (s.passed ++ c ∷ []) ++ chars more = s.chars_are ∙ ap (λ xs. s.passed ++ xs) e ∙ sym (append_assoc s.passed (c ∷ []) (chars more)) in
    let is : chars front ≡ s.passed ++ c ∷ [] = front_is body front more (s.passed ++ c ∷ []) u b all in
    let joined : chars body ≡ chars front ++ chars more = rw is all in
    let n : part_len_after false (chars body) ≡ length (chars front) = omega (arith, s.len, one, length-append s.passed (c ∷ []), ap length is) in
    let some : 0 < length (chars front) = omega (arith, length-append s.passed (c ∷ []), ap length is) in
    let after : 0 < length (chars more) = begins_some (chars more) (ends_after before (eqb c 45) (begins_alphanumeric (chars more)) ends) in
    record {
      some = some;
      more = after;
      joins = joined;
      first = cuts_first (part_len_after false) part_rule (chars body) (chars front) (chars more) (omega (arith, ap length joined, length-append (chars front) (chars more)))
          (rw (n, joined) (sym (take_at (chars front) (chars more) (length (chars front)) refl))) (rw (n, joined) (sym (drop_at (chars front) (chars more) (length (chars front)) refl)));
    }
  where
    begins_some : (cs : List ℕ) → begins_alphanumeric cs ≡ true → 0 < length cs
    begins_some [] e = cc
    begins_some (d ∷ cs) e = omega arith

    ends_after : (a b d : Bool) → (a && (b && d)) ≡ true → d ≡ true
    ends_after true true d e = e
    ends_after true false d e = cc
    ends_after false b d e = cc

-- what stands before a character's rest
pub before_more : (body rest more : List ℕ) (before : Bool) (c : ℕ) → PartScan body rest before → rest ≡ encode_utf8 c ++ more → (x : List ℕ) × (body ≡ x ++ more)
before_more body rest more before c s b = (s.bytes ++ encode_utf8 c, s.body_is ∙ ap (λ xs. s.bytes ++ xs) b ∙ sym (append_assoc s.bytes (encode_utf8 c) more))

-- ---- pieces of a word

pub with_spaces-append : (xs ys : List (List (List ℕ))) (n : ℕ) → 0 < length xs → 0 < length ys → with_spaces (xs ++ ys) n ≡ with_spaces xs 0 ++ with_spaces ys n
with_spaces-append [] ys n a b = absurd (omega arith)
with_spaces-append (x ∷ []) [] n a b = absurd (omega arith)
with_spaces-append (x ∷ []) (y ∷ ys) n a b = refl
with_spaces-append (x ∷ z ∷ xs) ys n a b = ap (λ ps. record { body = x; spaces = 0 } ∷ ps) (with_spaces-append (z ∷ xs) ys n (omega arith) b)

some_cuts : {X : Type 0} (rule : List X → ℕ) → IsCutRule rule → (xs : List X) → 0 < length xs → 0 < length (cuts rule xs)
some_cuts rule h [] l = absurd (omega arith)
some_cuts rule h (x ∷ xs) l = rw (cuts-cons rule h x xs) (omega arith)

-- a part that is not empty has a front
pub fronts_some : (cols : ℕ) (cs : List ℕ) → 0 < length cs → 0 < length (fronts cols cs)
fronts_some cols cs l = some_runs (fronts cols cs) (the_runs (fits_front cols) (front_rule cols) (units cs)).are
  where
    some_runs : (rs : List (List (List ℕ))) → AreRuns (fits_front cols) (units cs) rs → 0 < length rs
    some_runs [] h = let n = some_cuts unit_len unit_rule cs l in let z : length (units cs) ≡ 0 = ap length h in absurd (omega arith)
    some_runs (r ∷ rs) h = omega arith

pub take_some : (n : ℕ) (xs : List ℕ) → 0 < n → 0 < length xs → 0 < length (take n xs)
take_some zero xs a b = absurd (omega arith)
take_some (suc n) [] a b = absurd (omega arith)
take_some (suc n) (x ∷ xs) a b = omega arith

-- so has a body
pub body_some : (cols : ℕ) (cs : List ℕ) → 0 < length cs → 0 < length (flat_map (fronts cols) (parts cs))
body_some cols [] l = absurd (omega arith)
body_some cols (c ∷ cs) l =
    let whole : List ℕ = c ∷ cs in
    let n : ℕ = part_len_after false whole in
    let first : parts whole ≡ take n whole ∷ parts (drop n whole) = cuts-cons (part_len_after false) part_rule c cs in
    let some : 0 < length (take n whole) = take_some n whole (part_rule c cs) (omega arith) in
    let f = fronts_some cols (take n whole) some in
    rw first (omega (arith, length-append (fronts cols (take n whole)) (flat_map (fronts cols) (parts (drop n whole)))))

-- one more part of a word
pub word_more : (cols spaces : ℕ) (old items news : List Measured) (rest part more all : List ℕ) → SplitsPart rest part more → news ≡ items ++ map measure (with_spaces (fronts cols part) 0)
    → items ++ map measure (with_spaces (flat_map (fronts cols) (parts rest)) spaces) ≡ old ++ map measure (with_spaces (flat_map (fronts cols) (parts all)) spaces)
    → news ++ map measure (with_spaces (flat_map (fronts cols) (parts more)) spaces) ≡ old ++ map measure (with_spaces (flat_map (fronts cols) (parts all)) spaces)
word_more cols spaces old items news rest part more all h pushed inv =
    let a : List (List (List ℕ)) = fronts cols part in
    let b : List (List (List ℕ)) = flat_map (fronts cols) (parts more) in
    let split : flat_map (fronts cols) (parts rest) ≡ a ++ b = ap (flat_map (fronts cols)) h.first in
    let both : with_spaces (a ++ b) spaces ≡ with_spaces a 0 ++ with_spaces b spaces = with_spaces-append a b spaces (fronts_some cols part h.some) (body_some cols more h.more) in
    let measured : map measure (with_spaces (flat_map (fronts cols) (parts rest)) spaces) ≡ map measure (with_spaces a 0) ++ map measure (with_spaces b spaces) =
    ap (λ bs. map measure (with_spaces bs spaces)) split ∙ ap (map measure) both ∙ map-append measure (with_spaces a 0) (with_spaces b spaces) in
    ap (λ ms. ms ++ map measure (with_spaces b spaces)) pushed ∙ append_assoc items (map measure (with_spaces a 0)) (map measure (with_spaces b spaces)) ∙ ap (λ ms. items ++ ms) (sym measured) ∙ inv

-- the last part of a word
pub word_last : (cols spaces : ℕ) (old items news : List Measured) (rest all : List ℕ) → part_len_after false rest ≡ length rest → news ≡ items ++ map measure (with_spaces (fronts cols rest) spaces)
    → items ++ map measure (with_spaces (flat_map (fronts cols) (parts rest)) spaces) ≡ old ++ map measure (with_spaces (flat_map (fronts cols) (parts all)) spaces)
    → news ≡ old ++ map measure (with_spaces (flat_map (fronts cols) (parts all)) spaces)
word_last cols spaces old items news rest all whole pushed inv =
    pushed ∙ ap (λ bs. items ++ map measure (with_spaces bs spaces)) (sym (one_part rest whole)) ∙ inv
  where
    one_part : (cs : List ℕ) → part_len_after false cs ≡ length cs → flat_map (fronts cols) (parts cs) ≡ fronts cols cs
    one_part [] e =
        let nil : parts [] ≡ [] = cuts-nil (part_len_after false) in
        let none : units [] ≡ [] = cuts-nil unit_len in
        ap (flat_map (fronts cols)) nil ∙ (the_runs (fits_front cols) (front_rule cols) (units [])).only [] none
    one_part (c ∷ cs) e =
        let first : parts (c ∷ cs) ≡ (c ∷ cs) ∷ parts [] = cuts_first (part_len_after false) part_rule (c ∷ cs) (c ∷ cs) [] (omega arith) (rw e (sym (take_all (length (c ∷ cs)) (c ∷ cs) (omega arith)))) (rw e (sym (drop_all (length (c ∷ cs)) (c ∷ cs) (omega arith)))) in
        ap (flat_map (fronts cols)) (first ∙ ap (λ ps. (c ∷ cs) ∷ ps) (cuts-nil (part_len_after false))) ∙ append-nil (fronts cols (c ∷ cs))

-- ---- words

prefix_some : (p : ℕ → Bool) (c : ℕ) (cs : List ℕ) → p c ≡ true → 0 < prefix_len p (c ∷ cs)
prefix_some p c cs e = rw e (omega arith)

-- every word has a character at least
pub word_rule : IsCutRule word_len
word_rule c cs = elim (cases_Bool (is_space c)) [
  | inl e ↦
      let none : body_len (c ∷ cs) ≡ 0 = rw e refl in
      let some = prefix_some is_space c cs e in
      rw none (omega arith)
  | inr e ↦
      let one : 0 < body_len (c ∷ cs) = rw e (omega arith) in
      omega arith
]

-- a stretch of a class stays one in each front that holds it
pub prefix_len-take : (p : ℕ → Bool) (cs : List ℕ) (k : ℕ) → prefix_len p cs ≤ k → prefix_len p (take k cs) ≡ prefix_len p cs
prefix_len-take p [] zero l = refl
prefix_len-take p [] (suc k) l = refl
prefix_len-take p (c ∷ cs) zero l = elim (cases_Bool (p c)) [
  | inl e ↦ let n : 1 + prefix_len p cs ≤ 0 = rw e at l in absurd (omega arith)
  | inr e ↦ rw e refl
]
prefix_len-take p (c ∷ cs) (suc k) l = elim (cases_Bool (p c)) [
  | inl e ↦ let n : 1 + prefix_len p cs ≤ suc k = rw e at l in rw e (ap (λ m. 1 + m) (prefix_len-take p cs k (omega arith)))
  | inr e ↦ rw e refl
]

-- the first characters that are spaces
pub take_spaces : (cs : List ℕ) → take (prefix_len is_space cs) cs ≡ replicate (prefix_len is_space cs) 32
take_spaces [] = refl
take_spaces (c ∷ cs) = elim (cases_Bool (is_space c)) [
  | inl e ↦
      let s : 1 + prefix_len is_space cs ≡ suc (prefix_len is_space cs) = omega arith in
      let here : c ≡ 32 = eqb-true c 32 e in
      rw (e, s) (ap (λ x. x ∷ take (prefix_len is_space cs) cs) here ∙ ap (λ xs. 32 ∷ xs) (take_spaces cs))
  | inr e ↦ rw e refl
]

-- a list in two stretches and what follows them
two_stretches : (cs : List ℕ) (n m : ℕ) → take (n + m) cs ≡ take n cs ++ take m (drop n cs)
two_stretches cs n m = take-add n m cs

pub spaces_encode : (n : ℕ) → encode_utf8_all (replicate n 32) ≡ replicate n 32
spaces_encode n = encodes-IsAscii (replicate n 32) (all_small n)
  where
    all_small : (n i : ℕ) → get_or (replicate n 32) i 0 < 128
    all_small zero i = omega arith
    all_small (suc n) zero = omega arith
    all_small (suc n) (suc i) = all_small n i

chars_some : (bs cs : List ℕ) → encode_utf8_all cs ≡ bs → 0 < length bs → 0 < length cs
chars_some bs [] e l = let z : 0 ≡ length bs = ap length e in absurd (omega arith)
chars_some bs (c ∷ cs) e l = omega arith

-- a text that is not empty has a character
pub some_chars : (bs : List ℕ) → IsUtf8 bs → 0 < length bs → 0 < length (chars bs)
some_chars bs u l = chars_some bs (chars bs) (encodes-chars bs u) l

-- the first word of a line
pub first_word : (line after rest body : List ℕ) (spaces : ℕ) → IsUtf8 line → IsUtf8 after → IsUtf8 rest → IsUtf8 body → 0 < length line
    → chars after ≡ drop (body_len (chars line)) (chars line) → chars rest ≡ drop (prefix_len is_space (chars after)) (chars after) → line ≡ body ++ after → spaces ≡ length after - length rest
    → SplitsWord (chars line) (chars body) spaces (chars rest)
first_word line after rest body spaces ul ua ur ub some ea er eb es =
    let cs : List ℕ = chars line in
    let n : ℕ = body_len cs in
    let m : ℕ = prefix_len is_space (drop n cs) in
    let m_is : prefix_len is_space (chars after) ≡ m = ap (prefix_len is_space) ea in
    let halves : cs ≡ take n cs ++ chars after = sym (take-append-drop n cs) ∙ ap (λ xs. take n cs ++ xs) (sym ea) in
    let body_chars : chars body ≡ take n cs = front_is line body after (take n cs) ub eb halves in
    let blank : take m (drop n cs) ≡ replicate m 32 = take_spaces (drop n cs) in
    let tail : chars rest ≡ drop m (drop n cs) = er ∙ ap (λ k. drop k (chars after)) m_is ∙ ap (drop m) ea in
    let after_is : chars after ≡ replicate m 32 ++ chars rest = ea ∙ sym (take-append-drop m (drop n cs)) ∙ ap (λ xs. xs ++ drop m (drop n cs)) blank ∙ ap (λ xs. replicate m 32 ++ xs) (sym tail) in
    let bytes : after ≡ replicate m 32 ++ rest = text_split after rest (replicate m 32) ua ur after_is ∙ ap (λ xs. xs ++ rest) (spaces_encode m) in
    let count : spaces ≡ m = omega (arith, ap length bytes, length-append (replicate m 32) rest, length-replicate {A = ℕ} m 32) in
    let word : chars body ++ replicate spaces 32 ≡ take (n + m) cs = ap (λ k. chars body ++ replicate k 32) count ∙ ap (λ xs. xs ++ replicate m 32) body_chars ∙ ap (λ xs. take n cs ++ xs) (sym blank) ∙ sym (two_stretches cs n m) in
    let left : chars rest ≡ drop (n + m) cs = tail ∙ drop-drop m n cs in
    let inside : body_len (chars body ++ replicate spaces 32) ≡ n = ap body_len word ∙ prefix_len-take (λ c. not (is_space c)) cs (n + m) (omega arith) in
    let size : length (chars body) ≡ n = ap length body_chars ∙ length-prefix_len (λ c. not (is_space c)) cs in
    let cs_some : 0 < length cs = some_chars line ul some in
    record {
      some = rw word (take_some (n + m) cs (word_len_some cs cs_some) cs_some);
      joins = sym (take-append-drop (n + m) cs) ∙ ap (λ xs. xs ++ drop (n + m) cs) (sym word) ∙ ap (λ xs. (chars body ++ replicate spaces 32) ++ xs) (sym left);
      first = cuts_first word_len word_rule cs (chars body ++ replicate spaces 32) (chars rest) cs_some word left;
      body_is = ap (λ k. take k (chars body ++ replicate spaces 32)) (inside ∙ sym size) ∙ take_at (chars body) (replicate spaces 32) (length (chars body)) refl;
      spaces_is = omega (arith, inside, size, length-append (chars body) (replicate spaces 32), length-replicate {A = ℕ} spaces 32);
    }
  where
    word_len_some : (cs : List ℕ) → 0 < length cs → 0 < word_len cs
    word_len_some [] l = absurd (omega arith)
    word_len_some (c ∷ cs) l = word_rule c cs

-- a word takes bytes
pub word_less : (line rest body : List ℕ) (spaces : ℕ) → IsUtf8 line → IsUtf8 rest → SplitsWord (chars line) body spaces (chars rest) → length rest < length line
word_less line rest body spaces ul ur h =
    let word : List ℕ = body ++ replicate spaces 32 in
    let bytes = text_split line rest word ul ur h.joins in
    let some : 0 < length word = h.some in
    omega (arith, ap length bytes, length-append (encode_utf8_all word) rest, length-le-encodes word)

-- what stands before a stretch's end
pub before_stretch : (text rest : List ℕ) (n : ℕ) → IsUtf8 text → IsUtf8 rest → chars rest ≡ drop n (chars text) → (x : List ℕ) × (text ≡ x ++ rest)
before_stretch text rest n ut ur e =
    (encode_utf8_all (take n (chars text)), text_split text rest (take n (chars text)) ut ur (sym (take-append-drop n (chars text)) ∙ ap (λ xs. take n (chars text) ++ xs) (sym e)))

-- ---- pieces of a line

-- what the pieces of a line measure
abbrev pub all_pieces : ℕ → List ℕ → List Measured
all_pieces cols line = map measure (flat_map (word_pieces cols) (words line))

pub line_none : (cols : ℕ) (line : List ℕ) (items : List Measured) → items ≡ [] → items ++ map measure (flat_map (word_pieces cols) (words line)) ≡ map measure (flat_map (word_pieces cols) (words line))
line_none cols line items e = rw e refl

-- one more word of a line
pub line_more : (cols spaces : ℕ) (items news : List Measured) (rest body more all : List ℕ) → SplitsWord rest body spaces more
    → news ≡ items ++ map measure (with_spaces (flat_map (fronts cols) (parts body)) spaces)
    → items ++ map measure (flat_map (word_pieces cols) (words rest)) ≡ all_pieces cols all → news ++ map measure (flat_map (word_pieces cols) (words more)) ≡ all_pieces cols all
line_more cols spaces items news rest body more all h pushed inv =
    let word : List ℕ = body ++ replicate spaces 32 in
    let here : word_pieces cols word ≡ with_spaces (flat_map (fronts cols) (parts body)) spaces =
    ap (λ b. with_spaces (flat_map (fronts cols) (parts b)) (length word - body_len word)) h.body_is ∙ ap (λ n. with_spaces (flat_map (fronts cols) (parts body)) n) h.spaces_is in
    let split : flat_map (word_pieces cols) (words rest) ≡ with_spaces (flat_map (fronts cols) (parts body)) spaces ++ flat_map (word_pieces cols) (words more) =
    ap (flat_map (word_pieces cols)) h.first ∙ ap (λ ps. ps ++ flat_map (word_pieces cols) (words more)) here in
    let a : List Measured = map measure (with_spaces (flat_map (fronts cols) (parts body)) spaces) in
    let b : List Measured = map measure (flat_map (word_pieces cols) (words more)) in
    ap (λ ms. ms ++ b) pushed ∙ append_assoc items a b ∙ ap (λ ms. items ++ ms) (sym (map-append measure (with_spaces (flat_map (fronts cols) (parts body)) spaces) (flat_map (word_pieces cols) (words more))) ∙ ap (map measure) (sym split)) ∙ inv

pub line_done : (cols : ℕ) (items : List Measured) (rest all : List ℕ) → rest ≡ [] → items ++ map measure (flat_map (word_pieces cols) (words rest)) ≡ all_pieces cols all → items ≡ all_pieces cols all
line_done cols items rest all e inv =
    let nil : words [] ≡ [] = cuts-nil word_len in
    let none : map measure (flat_map (word_pieces cols) (words rest)) ≡ [] = ap (λ cs. map measure (flat_map (word_pieces cols) (words cs))) e ∙ ap (λ ws. map measure (flat_map (word_pieces cols) ws)) nil in
    sym (append-nil items) ∙ ap (λ ms. items ++ ms) (sym none) ∙ inv
