-- The pieces on both sides of a place where a row may end are those of two lines.
use Rattle.std.proofs.Common.{◌≡◌, ◌⊎◌, ℕ, zero, suc, ◌+◌, ◌-◌, ◌<◌, ◌≤◌, ◌&&◌, Bool, true, false, not, eqb, nat_le, cond, List, [], ◌∷◌, ◌++◌, length, replicate, take, drop, arith, refl, sym, ap, ◌∙◌, append_assoc, inl, inr}
use Rattle.std.specs.List.{flat_map, prefix_len, list_all, sum_by, count_by, concat}
use Rattle.std.specs.Char.{is_ascii_alphanumeric}
use Rattle.std.proofs.lemmas.Bool.{cases_Bool, leb-true, le-leb, or_cases, or_left, cases_lt, and_parts, eqb-true}
use Rattle.std.proofs.lemmas.Bool.Decides.{nat_tests}
use Rattle.std.proofs.lemmas.List.{append-nil, length-append, length-replicate, length-drop, length-take, take_all, take_at, drop_at, drop_all, drop-append-le, take-append-le}
use Rattle.std.proofs.lemmas.List.Concat.{flat_map-append}
use Rattle.std.proofs.lemmas.List.Folds.{length-prefix_len, list_all-append}
use Rattle.std.proofs.lemmas.List.Sums.{sum_by-cons}
use Rattle.minus_text.specs.Plain.{is_printable}
use Rattle.minus_text.specs.Units.{units, unit_columns, char_columns}
use Rattle.minus_text.specs.Runs.{IsFull, AreRuns}
use Rattle.minus_text.specs.TheRuns.{the_runs}
use Rattle.minus_text.specs.Fronts.{is_wide, fits_front, front_rule}
use Rattle.minus_text.specs.Singles.{singles}
use Rattle.minus_text.specs.Pieces.{Piece, is_space, body_len, word_len, words, word_pieces, pieces, fronts, with_spaces}
use Rattle.minus_text.specs.Hyphens.{parts, part_len_after, begins_alphanumeric}
use Rattle.minus_text.specs.Rows.{run_text}
use Rattle.minus_text.proofs.CutsLaws.{cuts-nil, cuts-cons, cuts_first}
use Rattle.minus_text.proofs.StretchesLaws.{stretch_stops}
use Rattle.minus_text.proofs.WordsLaws.{word_rule, part_rule, with_spaces-append, body_some}
use Rattle.minus_text.proofs.UnitsLaws.{units_join}
use Rattle.minus_text.proofs.PiecesLaws.{pieces_join_lem}
use Rattle.minus_text.proofs.PlainLaws.{units_plain, printable_column, some_units, one_front}
use Rattle.minus_text.proofs.CropPlainLaws.{units_front, units_single, printable_unescaped}
use Rattle.minus_text.proofs.BodyLaws.{ends_alphanumeric}
use Rattle.minus_text.proofs.FirstPieceLaws.{IsSound, pieces_from}

-- ---- words

-- nothing, or a text that ends with a space
abbrev pub EndsWord : List ℕ → Type 0
EndsWord xs = (xs ≡ []) ⊎ ((front : List ℕ) × (xs ≡ front ++ 32 ∷ []))

-- nothing, or a text that begins with no space
abbrev pub BeginsWord : List ℕ → Type 0
BeginsWord [] = Unit {0}
BeginsWord (c ∷ cs) = is_space c ≡ false

-- a stretch that ends in the front does not see what follows
stretch_inside : (p : ℕ → Bool) (front : List ℕ) (s : ℕ) (zs : List ℕ) → p s ≡ false → prefix_len p ((front ++ s ∷ []) ++ zs) ≡ prefix_len p (front ++ s ∷ [])
stretch_inside p front s zs e = ap (prefix_len p) (append_assoc front (s ∷ []) zs) ∙ stretch_stops p front s zs e ∙ sym (stretch_stops p front s [] e)

-- the first word of a text that ends with a space is that of a longer text that goes on with another word
word_inside : (front : List ℕ) (c : ℕ) (zs : List ℕ) → is_space c ≡ false → (let xs : List ℕ = front ++ 32 ∷ [] in (word_len (xs ++ c ∷ zs) ≡ word_len xs) × (word_len xs ≤ length xs))
word_inside front c zs e =
    let xs : List ℕ = front ++ 32 ∷ [] in
    let n : ℕ = body_len xs in
    let body : body_len (xs ++ c ∷ zs) ≡ n = stretch_inside (λ x. not (is_space x)) front 32 (c ∷ zs) refl in
    let few : n ≤ length xs = stretch_most (λ x. not (is_space x)) xs in
    let rest : drop n (xs ++ c ∷ zs) ≡ drop n xs ++ c ∷ zs = drop-append-le n xs (c ∷ zs) few in
    let spaces : prefix_len is_space (drop n xs ++ c ∷ zs) ≡ prefix_len is_space (drop n xs) = stretch_stops is_space (drop n xs) c zs e in
    let more : prefix_len is_space (drop n xs) ≤ length (drop n xs) = stretch_most is_space (drop n xs) in
    (ap (λ k. k + prefix_len is_space (drop k (xs ++ c ∷ zs))) body ∙ ap (λ ys. n + prefix_len is_space ys) rest ∙ ap (λ k. n + k) spaces, omega (arith, length-drop n xs))
  where
    stretch_most : (p : ℕ → Bool) (xs : List ℕ) → prefix_len p xs ≤ length xs
    stretch_most p xs = omega (arith, length-prefix_len p xs, length-take (prefix_len p xs) xs)

-- what is left of a text that ends with a space
left_ends : (k : ℕ) (xs : List ℕ) → EndsWord xs → EndsWord (drop k xs)
left_ends k xs h = elim h [
  | inl e ↦ inl (drop_all k xs (omega (arith, ap length e)))
  | inr f ↦ elim (cases_lt k (length xs)) [
    | inl l ↦ inr (drop k f.0, ap (drop k) f.1 ∙ drop-append-le k f.0 (32 ∷ []) (omega (arith, ap length f.1, length-append f.0 (32 ∷ []))))
    | inr g ↦ inl (drop_all k xs (omega arith))
  ]
]

words_up_to : (n : ℕ) (xs zs : List ℕ) → length xs ≤ n → EndsWord xs → BeginsWord zs → words (xs ++ zs) ≡ words xs ++ words zs
words_up_to n [] zs l h b = ap (λ ws. ws ++ words zs) (sym (cuts-nil word_len))
words_up_to zero (x ∷ xs) zs l h b = absurd (omega arith)
words_up_to (suc n) (x ∷ xs) [] l h b = ap words (append-nil (x ∷ xs)) ∙ sym (append-nil (words (x ∷ xs))) ∙ ap (λ ws. words (x ∷ xs) ++ ws) (sym (cuts-nil word_len))
words_up_to (suc n) (x ∷ xs) (c ∷ zs) l h b =
    let whole : List ℕ = x ∷ xs in
    let k : ℕ = word_len whole in
    let some : 0 < k = word_rule x xs in
    let inside : (word_len (whole ++ c ∷ zs) ≡ k) × (k ≤ length whole) = elim h [
      | inl e ↦ let z : length whole ≡ 0 = ap length e in absurd (omega arith)
      | inr f ↦ let w = word_inside f.0 c zs b in rw (← f.1) at w
    ] in
    let front : take k whole ≡ take (word_len (whole ++ c ∷ zs)) (whole ++ c ∷ zs) = sym (ap (λ m. take m (whole ++ c ∷ zs)) inside.0 ∙ take-append-le k whole (c ∷ zs) inside.1) in
    let rest : drop k whole ++ c ∷ zs ≡ drop (word_len (whole ++ c ∷ zs)) (whole ++ c ∷ zs) = sym (ap (λ m. drop m (whole ++ c ∷ zs)) inside.0 ∙ drop-append-le k whole (c ∷ zs) inside.1) in
    let left = length-drop k whole in
    cuts_first word_len word_rule (whole ++ c ∷ zs) (take k whole) (drop k whole ++ c ∷ zs) (omega arith) front rest
    ∙ ap (λ ws. take k whole ∷ ws) (words_up_to n (drop k whole) (c ∷ zs) (omega arith) (left_ends k whole h) b)
    ∙ ap (λ ws. ws ++ words (c ∷ zs)) (sym (cuts-cons word_len word_rule x xs))

-- the pieces on both sides of a seam between words
pub pieces_seam : (cols : ℕ) (xs zs : List ℕ) → EndsWord xs → BeginsWord zs → pieces cols (xs ++ zs) ≡ pieces cols xs ++ pieces cols zs
unfolding pieces
pieces_seam cols xs zs h b = ap (flat_map (word_pieces cols)) (words_up_to (length xs) xs zs (omega arith) h b) ∙ flat_map-append (word_pieces cols) (words xs) (words zs)

-- ---- one word

no_space : ℕ → Bool
no_space c = not (is_space c)

-- a text whose last stretch without spaces is known: what stands before it, and the stretch
pub record LastStretch (us : List ℕ) : Type 0 where
  pub before : List ℕ
  pub stretch : List ℕ
  pub joins : us ≡ before ++ stretch
  pub ends : EndsWord before
  pub solid : list_all (λ c. not (is_space c)) stretch ≡ true

pub last_stretch : (us : List ℕ) → LastStretch us
last_stretch [] = record { before = []; stretch = []; joins = refl; ends = inl refl; solid = refl }
last_stretch (u ∷ us) =
    let h : LastStretch us = last_stretch us in
    elim h.ends [
      | inl none ↦
          let all : us ≡ h.stretch = h.joins ∙ ap (λ ys. ys ++ h.stretch) none in
          elim (cases_Bool (is_space u)) [
            | inl t ↦ record { before = u ∷ []; stretch = h.stretch; joins = ap (λ ys. u ∷ ys) all; ends = inr ([], ap (λ n. n ∷ []) (eqb-true u 32 t)); solid = h.solid }
            | inr t ↦ record { before = []; stretch = u ∷ h.stretch; joins = ap (λ ys. u ∷ ys) all; ends = inl refl; solid = rw t h.solid }
          ]
      | inr f ↦ record { before = u ∷ h.before; stretch = h.stretch; joins = ap (λ ys. u ∷ ys) h.joins; ends = inr (u ∷ f.0, ap (λ ys. u ∷ ys) f.1); solid = h.solid }
    ]

spaces_all : (n : ℕ) → prefix_len is_space (replicate n 32) ≡ n
spaces_all zero = refl
spaces_all (suc n) = omega (arith, spaces_all n)

solid_all : (bs : List ℕ) → list_all (λ c. not (is_space c)) bs ≡ true → prefix_len (λ c. not (is_space c)) bs ≡ length bs
solid_all [] h = refl
solid_all (b ∷ bs) h =
    let one = and_parts (not (is_space b)) (list_all (λ c. not (is_space c)) bs) h in
    rw (one.0) (omega (arith, solid_all bs one.1))

body_of_word : (bs : List ℕ) (n : ℕ) → list_all (λ c. not (is_space c)) bs ≡ true → body_len (bs ++ replicate n 32) ≡ length bs
body_of_word bs zero h = ap body_len (append-nil bs) ∙ solid_all bs h
body_of_word bs (suc n) h = stretch_stops (λ c. not (is_space c)) bs 32 (replicate n 32) refl ∙ solid_all bs h

-- the pieces of a word and the spaces after it
pub one_word : (cols n : ℕ) (bs : List ℕ) → list_all (λ c. not (is_space c)) bs ≡ true → 0 < length bs + n → pieces cols (bs ++ replicate n 32) ≡ with_spaces (flat_map (fronts cols) (parts bs)) n
unfolding pieces
one_word cols n bs h some =
    let w : List ℕ = bs ++ replicate n 32 in
    let size : length w ≡ length bs + n = omega (arith, length-append bs (replicate n 32), length-replicate {A = ℕ} n 32) in
    let body : body_len w ≡ length bs = body_of_word bs n h in
    let left : drop (length bs) w ≡ replicate n 32 = drop_at bs (replicate n 32) (length bs) refl in
    let front : take (length bs) w ≡ bs = take_at bs (replicate n 32) (length bs) refl in
    let len : word_len w ≡ length w = ap (λ k. k + prefix_len is_space (drop k w)) body ∙ ap (λ ys. length bs + prefix_len is_space ys) left ∙ omega (arith, spaces_all n, size) in
    let all : w ≡ take (word_len w) w = sym (ap (λ k. take k w) len ∙ take_all (length w) w (omega arith)) in
    let none : [] ≡ drop (word_len w) w = sym (ap (λ k. drop k w) len ∙ drop_all (length w) w (omega arith)) in
    let ws : words w ≡ w ∷ [] = cuts_first word_len word_rule w w [] (omega (arith, size)) all none ∙ ap (λ xs. w ∷ xs) (cuts-nil word_len) in
    let spaces : length w - body_len w ≡ n = omega (arith, size, body) in
    let inner : take (body_len w) w ≡ bs = ap (λ k. take k w) body ∙ front in
    ap (flat_map (word_pieces cols)) ws ∙ append-nil (word_pieces cols w) ∙ ap (λ k. with_spaces (flat_map (fronts cols) (parts (take (body_len w) w))) k) spaces ∙ ap (λ xs. with_spaces (flat_map (fronts cols) (parts xs)) n) inner

bare_word : (cols : ℕ) (bs : List ℕ) → list_all (λ c. not (is_space c)) bs ≡ true → 0 < length bs → pieces cols bs ≡ with_spaces (flat_map (fronts cols) (parts bs)) 0
bare_word cols bs h some = ap (pieces cols) (sym (append-nil bs)) ∙ one_word cols 0 bs h (omega arith)

begins_word : (ws : List ℕ) (c : ℕ) (ys : List ℕ) → list_all (λ c. not (is_space c)) ws ≡ true → is_space c ≡ false → BeginsWord (ws ++ c ∷ ys)
begins_word [] c ys h e = e
begins_word (w ∷ ws) c ys h e = let one = and_parts (not (is_space w)) (list_all (λ c. not (is_space c)) ws) h in opposite (is_space w) one.0
  where
    opposite : (b : Bool) → not b ≡ true → b ≡ false
    opposite false e = refl
    opposite true e = absurd cc

-- ---- a seam behind a hyphen between letters or digits

and_false : (b : Bool) → (b && false) ≡ false
and_false true = refl
and_false false = refl

alphanumeric_other : (c : ℕ) → is_ascii_alphanumeric c ≡ true → (eqb c 45 ≡ false) × (eqb c 32 ≡ false)
alphanumeric_other c h = (grind (arith, nat_tests, h), grind (arith, nat_tests, h))

begins_same : (ws : List ℕ) (a : ℕ) (xs ys : List ℕ) → begins_alphanumeric (ws ++ a ∷ xs) ≡ begins_alphanumeric (ws ++ a ∷ ys)
begins_same [] a xs ys = refl
begins_same (w ∷ ws) a xs ys = refl

-- the first part of a text that ends with such a hyphen
joint_inside : (before : Bool) (ws : List ℕ) (a b : ℕ) → is_ascii_alphanumeric a ≡ true → is_ascii_alphanumeric b ≡ true
    → part_len_after before (ws ++ a ∷ 45 ∷ b ∷ []) ≡ part_len_after before (ws ++ a ∷ 45 ∷ [])
joint_inside before [] a b ea eb =
    let none : (before && (eqb a 45 && false)) ≡ false = ap (λ x. before && (x && false)) (alphanumeric_other a ea).0 ∙ and_false before in
    rw (none, ea, eb) refl
joint_inside before (w ∷ ws) a b ea eb =
    rw (begins_same ws a (45 ∷ b ∷ []) (45 ∷ []), joint_inside (is_ascii_alphanumeric w) ws a b ea eb) refl

-- it ends before the letter or digit, or is all of it
joint_size : (before : Bool) (ws : List ℕ) (a : ℕ) → is_ascii_alphanumeric a ≡ true
    → (part_len_after before (ws ++ a ∷ 45 ∷ []) ≤ length ws) ⊎ (part_len_after before (ws ++ a ∷ 45 ∷ []) ≡ length ws + 2)
joint_size before [] a ea =
    let none : (before && (eqb a 45 && false)) ≡ false = ap (λ x. before && (x && false)) (alphanumeric_other a ea).0 ∙ and_false before in
    inr (rw (none, ea) refl)
joint_size before (w ∷ ws) a ea = elim (cases_Bool (before && (eqb w 45 && begins_alphanumeric (ws ++ a ∷ 45 ∷ [])))) [
  | inl t ↦ rw t (inl (omega arith))
  | inr f ↦ rw f (elim (joint_size (is_ascii_alphanumeric w) ws a ea) [
    | inl l ↦ inl (omega (arith, l))
    | inr e ↦ inr (omega (arith, e))
  ])
]

some_part : (xs : List ℕ) → 0 < length xs → 0 < part_len_after false xs
some_part [] l = absurd (omega arith)
some_part (x ∷ xs) l = part_rule x xs

-- its parts, if those of what follows the first one are known
joint_step : (ws : List ℕ) (a b : ℕ) → is_ascii_alphanumeric a ≡ true → is_ascii_alphanumeric b ≡ true
    → (let k : ℕ = part_len_after false (ws ++ a ∷ 45 ∷ []) in 0 < k → k ≤ length ws → parts (drop k ws ++ a ∷ 45 ∷ b ∷ []) ≡ parts (drop k ws ++ a ∷ 45 ∷ []) ++ parts (b ∷ []))
    → parts (ws ++ a ∷ 45 ∷ b ∷ []) ≡ parts (ws ++ a ∷ 45 ∷ []) ++ parts (b ∷ [])
joint_step ws a b ea eb on =
    let tail : List ℕ = a ∷ 45 ∷ [] in
    let xs : List ℕ = ws ++ tail in
    let ys : List ℕ = ws ++ a ∷ 45 ∷ b ∷ [] in
    let k : ℕ = part_len_after false xs in
    let same : part_len_after false ys ≡ k = joint_inside false ws a b ea eb in
    let joined : ys ≡ xs ++ b ∷ [] = sym (append_assoc ws tail (b ∷ [])) in
    let size : length xs ≡ length ws + 2 = length-append ws tail in
    let most : k ≤ length xs = elim (joint_size false ws a ea) [
      | inl l ↦ omega (arith, l, size)
      | inr e ↦ omega (arith, e, size)
    ] in
    let front : take k xs ≡ take (part_len_after false ys) ys = sym (ap (λ m. take m ys) same ∙ ap (take k) joined ∙ take-append-le k xs (b ∷ []) most) in
    let rest : drop k xs ++ b ∷ [] ≡ drop (part_len_after false ys) ys = sym (ap (λ m. drop m ys) same ∙ ap (drop k) joined ∙ drop-append-le k xs (b ∷ []) most) in
    let first : parts ys ≡ take k xs ∷ parts (drop k xs ++ b ∷ []) = cuts_first (part_len_after false) part_rule ys (take k xs) (drop k xs ++ b ∷ []) (omega (arith, ap length joined, length-append xs (b ∷ []))) front rest in
    let own : parts xs ≡ take k xs ∷ parts (drop k xs) = cuts_first (part_len_after false) part_rule xs (take k xs) (drop k xs) (omega (arith, size)) refl refl in
    let others : parts (drop k xs ++ b ∷ []) ≡ parts (drop k xs) ++ parts (b ∷ []) = elim (joint_size false ws a ea) [
      | inl l ↦
          let left : drop k xs ≡ drop k ws ++ tail = drop-append-le k ws tail l in
          ap (λ zs. parts (zs ++ b ∷ [])) left ∙ ap parts (append_assoc (drop k ws) tail (b ∷ [])) ∙ on (some_part xs (omega (arith, size))) l ∙ ap (λ zs. parts zs ++ parts (b ∷ [])) (sym left)
      | inr e ↦
          let none : drop k xs ≡ [] = drop_all k xs (omega (arith, e, size)) in
          ap (λ zs. parts (zs ++ b ∷ [])) none ∙ ap (λ ps. ps ++ parts (b ∷ [])) (sym (cuts-nil (part_len_after false)) ∙ ap parts (sym none))
    ] in
    first ∙ ap (λ ps. take k xs ∷ ps) others ∙ ap (λ ps. ps ++ parts (b ∷ [])) (sym own)

joint_parts : (n : ℕ) (ws : List ℕ) (a b : ℕ) → length ws ≤ n → is_ascii_alphanumeric a ≡ true → is_ascii_alphanumeric b ≡ true
    → parts (ws ++ a ∷ 45 ∷ b ∷ []) ≡ parts (ws ++ a ∷ 45 ∷ []) ++ parts (b ∷ [])
joint_parts zero ws a b few ea eb = joint_step ws a b ea eb (λ some l. absurd (omega (arith, some, l, few)))
joint_parts (suc n) ws a b few ea eb =
    let k : ℕ = part_len_after false (ws ++ a ∷ 45 ∷ []) in
    joint_step ws a b ea eb (λ some l. joint_parts n (drop k ws) a b (omega (arith, length-drop k ws, some, l, few)) ea eb)

-- the pieces of a text that ends with such a hyphen do not see what follows
pub joint_seam : (cols : ℕ) (vs : List ℕ) (a b : ℕ) (zs : List ℕ) → is_ascii_alphanumeric a ≡ true → is_ascii_alphanumeric b ≡ true
    → pieces cols ((vs ++ a ∷ 45 ∷ []) ++ b ∷ zs) ≡ pieces cols (vs ++ a ∷ 45 ∷ []) ++ pieces cols (b ∷ zs)
joint_seam cols vs a b zs ea eb =
    let h = last_stretch vs in
    let tail : List ℕ = a ∷ 45 ∷ [] in
    let us : List ℕ = vs ++ tail in
    let word : List ℕ = h.stretch ++ tail in
    let long : List ℕ = h.stretch ++ a ∷ 45 ∷ b ∷ [] in
    let ends : list_all (λ c. not (is_space c)) tail ≡ true = rw ((alphanumeric_other a ea).1) refl in
    let ends_more : list_all (λ c. not (is_space c)) (a ∷ 45 ∷ b ∷ []) ≡ true = rw ((alphanumeric_other a ea).1, (alphanumeric_other b eb).1) refl in
    let solid : list_all (λ c. not (is_space c)) word ≡ true = list_all-append (λ c. not (is_space c)) h.stretch tail ∙ rw (h.solid, ends) refl in
    let solid_more : list_all (λ c. not (is_space c)) long ≡ true = list_all-append (λ c. not (is_space c)) h.stretch (a ∷ 45 ∷ b ∷ []) ∙ rw (h.solid, ends_more) refl in
    let size : length word ≡ length h.stretch + 2 = length-append h.stretch tail in
    let size_more : length long ≡ length h.stretch + 3 = length-append h.stretch (a ∷ 45 ∷ b ∷ []) in
    let here : us ≡ h.before ++ word = ap (λ xs. xs ++ tail) h.joins ∙ append_assoc h.before h.stretch tail in
    let there : us ++ b ∷ [] ≡ h.before ++ long = ap (λ xs. xs ++ b ∷ []) here ∙ append_assoc h.before word (b ∷ []) ∙ ap (λ xs. h.before ++ xs) (append_assoc h.stretch tail (b ∷ [])) in
    let bodies : List (List (List ℕ)) = flat_map (fronts cols) (parts word) in
    let last : List (List (List ℕ)) = flat_map (fronts cols) (parts (b ∷ [])) in
    let both : flat_map (fronts cols) (parts long) ≡ bodies ++ last = ap (flat_map (fronts cols)) (joint_parts (length h.stretch) h.stretch a b (omega arith) ea eb) ∙ flat_map-append (fronts cols) (parts word) (parts (b ∷ [])) in
    let behind : pieces cols long ≡ pieces cols word ++ with_spaces last 0 =
    bare_word cols long solid_more (omega (arith, size_more)) ∙ ap (λ bs. with_spaces bs 0) both ∙ with_spaces-append bodies last 0 (body_some cols word (omega (arith, size))) (body_some cols (b ∷ []) (omega arith))
    ∙ ap (λ ps. ps ++ with_spaces last 0) (sym (bare_word cols word solid (omega (arith, size)))) in
    let front : List Piece = pieces cols us in
    let own : front ≡ pieces cols h.before ++ pieces cols word = ap (pieces cols) here ∙ pieces_seam cols h.before word h.ends (begins_word h.stretch a (45 ∷ []) h.solid (alphanumeric_other a ea).1) in
    let text : run_text front ≡ us = pieces_join_lem cols us in
    let all : pieces cols (run_text front ++ b ∷ []) ≡ front ++ with_spaces last 0 =
    ap (λ xs. pieces cols (xs ++ b ∷ [])) text ∙ ap (pieces cols) there ∙ pieces_seam cols h.before long h.ends (begins_word h.stretch a (45 ∷ b ∷ []) h.solid (alphanumeric_other a ea).1)
    ∙ ap (λ ps. pieces cols h.before ++ ps) behind ∙ sym (append_assoc (pieces cols h.before) (pieces cols word) (with_spaces last 0)) ∙ ap (λ ps. ps ++ with_spaces last 0) (sym own) in
    let sound : IsSound (run_text front) b zs = rw ((alphanumeric_other b eb).0) (and_false (ends_alphanumeric false (run_text front))) in
    ap (λ xs. pieces cols (xs ++ b ∷ zs)) (sym text) ∙ pieces_from cols front (with_spaces last 0) b [] zs all sound

-- ---- a text of one part

-- printable ASCII without spaces that no hyphen cuts
pub record IsOnePart (cs : List ℕ) : Type 0 where
  pub printable : list_all is_printable cs ≡ true
  pub solid : list_all (λ c. not (is_space c)) cs ≡ true
  pub no_joint : part_len_after false cs ≡ length cs

pub one_part : (cs : List ℕ) → IsOnePart cs → 0 < length cs → parts cs ≡ cs ∷ []
one_part cs h some =
    let len : part_len_after false cs ≡ length cs = h.no_joint in
    let all : cs ≡ take (part_len_after false cs) cs = sym (ap (λ k. take k cs) len ∙ take_all (length cs) cs (omega arith)) in
    let none : [] ≡ drop (part_len_after false cs) cs = sym (ap (λ k. drop k cs) len ∙ drop_all (length cs) cs (omega arith)) in
    cuts_first (part_len_after false) part_rule cs cs [] some all none ∙ ap (λ xs. cs ∷ xs) (cuts-nil (part_len_after false))

pub printable_units : (cs : List ℕ) → list_all is_printable cs ≡ true → sum_by unit_columns (units cs) ≡ length cs
printable_units cs h = let joined : concat (units cs) ≡ cs = units_join cs in units_plain (units cs) (rw joined h) ∙ ap length joined

-- and one piece
pub one_piece : (cols : ℕ) (cs : List ℕ) → IsOnePart cs → 0 < length cs → length cs ≤ cols → pieces cols cs ≡ record { body = units cs; spaces = 0 } ∷ []
one_piece cols cs h some few =
    let front : units cs ∷ [] ≡ fronts cols cs = one_front cols cs some (omega (arith, printable_units cs h.printable)) in
    let bodies : flat_map (fronts cols) (parts cs) ≡ units cs ∷ [] = ap (flat_map (fronts cols)) (one_part cs h some) ∙ append-nil (fronts cols cs) ∙ sym front in
    bare_word cols cs h.solid some ∙ ap (λ bs. with_spaces bs 0) bodies

-- ---- a seam inside a part that is too wide

one_column : (c : ℕ) → is_printable c ≡ true → unit_columns (c ∷ []) ≡ 1
one_column c h = omega (arith, sum_by-cons char_columns c [], printable_column c h)

all_wide : (cs : List ℕ) → list_all is_printable cs ≡ true → count_by is_wide (singles cs) ≡ length cs
all_wide [] h = refl
all_wide (c ∷ cs) h =
    let one = and_parts (is_printable c) (list_all is_printable cs) h in
    let wide : is_wide (c ∷ []) ≡ true = rw (one_column c one.0) refl in
    omega (arith, sum_by-cons (λ u. cond (is_wide u) 1 0) (c ∷ []) (singles cs), ap {B = ℕ} (λ b. cond b 1 0) wide, all_wide cs one.1)

no_front : (cols : ℕ) (cs : List ℕ) → list_all is_printable cs ≡ true → cols < length cs → 1 < length cs → fits_front cols (units cs) ≡ false
no_front cols cs h wide some = elim (cases_Bool (fits_front cols (units cs))) [
  | inl t ↦ elim (or_cases (nat_le (sum_by unit_columns (units cs)) cols) (nat_le (count_by is_wide (units cs)) 1) t) [
    | inl e ↦ let few = leb-true (sum_by unit_columns (units cs)) cols e in absurd (omega (arith, few, printable_units cs h))
    | inr e ↦ let few = leb-true (count_by is_wide (units cs)) 1 e in absurd (omega (arith, few, ap (count_by is_wide) (units_single cs (printable_unescaped cs h)), all_wide cs h))
  ]
  | inr f ↦ f
]

-- a front that is full, and a character behind it
two_fronts : (cols c : ℕ) (us : List ℕ) → list_all is_printable (us ++ c ∷ []) ≡ true → 0 < cols → length us ≡ cols → units us ∷ units (c ∷ []) ∷ [] ≡ fronts cols (us ++ c ∷ [])
two_fronts cols c us h some size =
    let both = and_parts (list_all is_printable us) (list_all is_printable (c ∷ [])) (sym (list_all-append is_printable us (c ∷ [])) ∙ h) in
    let all : units (us ++ c ∷ []) ≡ units us ++ units (c ∷ []) = units_front us (c ∷ []) (printable_unescaped us both.0) ∙ ap (λ xs. xs ++ units (c ∷ [])) (sym (units_single us (printable_unescaped us both.0))) in
    let last : units (c ∷ []) ≡ (c ∷ []) ∷ [] = units_single (c ∷ []) (printable_unescaped (c ∷ []) both.1) in
    let long : length (us ++ c ∷ []) ≡ cols + 1 = omega (arith, length-append us (c ∷ []), size) in
    let full : IsFull (fits_front cols) (units us) (units (c ∷ [])) = rw last (ap (fits_front cols) (ap (λ xs. units us ++ xs) (sym last) ∙ sym all) ∙ no_front cols (us ++ c ∷ []) h (omega (arith, long)) (omega (arith, long, some))) in
    let fits : (cs : List ℕ) → list_all is_printable cs ≡ true → length cs ≤ cols → fits_front cols (units cs) ≡ true = λ cs p l. or_left (nat_le (sum_by unit_columns (units cs)) cols) (nat_le (count_by is_wide (units cs)) 1) (le-leb (sum_by unit_columns (units cs)) cols (omega (arith, printable_units cs p, l))) in
    let are : AreRuns (fits_front cols) (units (us ++ c ∷ [])) (units us ∷ units (c ∷ []) ∷ []) = (
      units (c ∷ []),
      all,
      record { some = some_units (units us) us (units_join us) (omega (arith, some, size)); fitting = fits us both.0 (omega (arith, size)); full = full },
      ([], sym (append-nil (units (c ∷ []))), record { some = some_units (units (c ∷ [])) (c ∷ []) (units_join (c ∷ [])) (omega arith); fitting = fits (c ∷ []) both.1 (omega (arith, some)); full = tt }, refl),
    ) in
    (the_runs (fits_front cols) (front_rule cols) (units (us ++ c ∷ []))).only (units us ∷ units (c ∷ []) ∷ []) are

-- the pieces of a part that fills all columns do not see what follows, if that begins with no hyphen
pub wide_seam : (cols c : ℕ) (us zs : List ℕ) → 0 < cols → length us ≡ cols → IsOnePart us → IsOnePart (us ++ c ∷ []) → eqb c 45 ≡ false → pieces cols (us ++ c ∷ zs) ≡ pieces cols us ++ pieces cols (c ∷ zs)
wide_seam cols c us zs some size h more other =
    let p : Piece = record { body = units us; spaces = 0 } in
    let q : Piece = record { body = units (c ∷ []); spaces = 0 } in
    let own : pieces cols us ≡ p ∷ [] = one_piece cols us h (omega (arith, some, size)) (omega (arith, size)) in
    let text : run_text (pieces cols us) ≡ us = pieces_join_lem cols us in
    let left : 0 < length (us ++ c ∷ []) = omega (arith, length-append us (c ∷ [])) in
    let bodies : flat_map (fronts cols) (parts (us ++ c ∷ [])) ≡ units us ∷ units (c ∷ []) ∷ [] =
    ap (flat_map (fronts cols)) (one_part (us ++ c ∷ []) more left) ∙ append-nil (fronts cols (us ++ c ∷ [])) ∙ sym (two_fronts cols c us more.printable some size) in
    let both : pieces cols (us ++ c ∷ []) ≡ p ∷ q ∷ [] = bare_word cols (us ++ c ∷ []) more.solid left ∙ ap (λ bs. with_spaces bs 0) bodies in
    let all : pieces cols (run_text (pieces cols us) ++ c ∷ []) ≡ pieces cols us ++ q ∷ [] = ap (λ xs. pieces cols (xs ++ c ∷ [])) text ∙ both ∙ ap (λ ps. ps ++ q ∷ []) (sym own) in
    let sound : IsSound (run_text (pieces cols us)) c zs = rw other (and_false (ends_alphanumeric false (run_text (pieces cols us)))) in
    ap (λ xs. pieces cols (xs ++ c ∷ zs)) (sym text) ∙ pieces_from cols (pieces cols us) (q ∷ []) c [] zs all sound
