-- Laws of tabs and of columns.
use Rattle.std.proofs.Common.{ℕ, ◌≡◌, ◌<◌, ◌+◌, ◌-◌, ◌%◌, ◌==◌, ◌++◌, List, [], ◌∷◌, Bool, true, false, Some, refl, ap, sym, ◌∙◌, arith, length, take, drop, cond, if◌then◌else◌, subst, zero, suc, get_or, encode_utf8}
use Rattle.std.specs.List.{list_all, prefix_len}
use Rattle.std.proofs.lemmas.Bool.{and_parts, and_from}
use Rattle.std.proofs.lemmas.Bool.Decides.{nat_tests}
use Rattle.std.proofs.lemmas.List.{append_assoc, append-nil, take-append-drop}
use Rattle.std.proofs.lemmas.Str.{encode_ascii}
use Rattle.std.specs.Option.{unwrap_or}
use Rattle.std.proofs.Math.Nat.{mod-add-mod, mod_self}
use Rattle.std.proofs.lemmas.Nat.{mod_below}
use Rattle.unicode_width.specs.Width.{char_width}
use Rattle.minus_view.specs.declared.prepare.Preparation.{Preparation}
use Rattle.minus_view.specs.declared.prepare.Shape.{Shape}
use Rattle.minus_view.specs.Shown.{is_control, is_plain}
use Rattle.minus_view.specs.TabMarks.{tab_text}
use Rattle.minus_view.specs.Prepared.{char_columns, expanded, held, IsAt, IsPlain, IsText, Takes, is_text}
use Rattle.minus_view.specs.TabColumns.{apart, column_after, next_column, tab_len}

no_tab : (b : ℕ) → is_plain true b ≡ true → (b == 9) ≡ false
no_tab b h = grind (arith, nat_tests)

-- plain bytes stay, and what follows them is expanded behind them
pub expand_plain : (m : Bool) (tabs col : ℕ) (xs ys : List ℕ) → list_all (is_plain true) xs ≡ true
    → expanded m tabs col (xs ++ ys) ≡ xs ++ expanded m tabs (column_after tabs col xs) ys
expand_plain m tabs col [] ys h = refl
expand_plain m tabs col (x ∷ xs) ys h =
    let parts = and_parts (is_plain true x) (list_all (is_plain true) xs) h in
    ap (λ t. if t then tab_text m (tab_len tabs col) ++ expanded m tabs (next_column tabs col x) (xs ++ ys) else x ∷ expanded m tabs (next_column tabs col x) (xs ++ ys)) (no_tab x parts.0)
    ∙ ap (λ rest. x ∷ rest) (expand_plain m tabs (next_column tabs col x) xs ys parts.1)

pub plain_stays : (m : Bool) (tabs col : ℕ) (bytes : List ℕ) → list_all (is_plain true) bytes ≡ true → expanded m tabs col bytes ≡ bytes
plain_stays m tabs col bytes h = ap (expanded m tabs col) (sym (append-nil bytes)) ∙ expand_plain m tabs col bytes [] h ∙ append-nil bytes

pub column_after-append : (tabs col : ℕ) (xs ys : List ℕ) → column_after tabs col (xs ++ ys) ≡ column_after tabs (column_after tabs col xs) ys
column_after-append tabs col [] ys = refl
column_after-append tabs col (x ∷ xs) ys = column_after-append tabs (next_column tabs col x) xs ys

-- columns that tabs cannot tell apart, and as many columns behind them
pub add_alike : (tabs a b n : ℕ) → a % tabs ≡ b % tabs → (a + n) % tabs ≡ (b + n) % tabs
add_alike tabs a b n h = sym (mod-add-mod a tabs n) ∙ ap (λ k. (k + n) % tabs) h ∙ mod-add-mod b tabs n

-- a column counts as far as tabs can tell
pub reduced : (tabs other column n more col : ℕ) → other ≡ tabs → (column + n) % tabs ≡ col % tabs → more ≡ column % other + n → (more + 0) % tabs ≡ col % tabs
reduced tabs other column n more col same was is =
    ap (λ k. k % tabs) (omega (arith, is) ∙ ap (λ t. column % t + n) same) ∙ mod-add-mod column tabs n ∙ was

-- a tab leads to a column that tabs cannot tell from the first one
pub tab_ends : (tabs col : ℕ) → 0 < tabs → (col + tab_len tabs col) % tabs ≡ 0
tab_ends tabs col some =
    let below = mod_below col tabs some in
    sym (mod-add-mod col tabs (tabs - col % tabs)) ∙ ap (λ n. n % tabs) (omega (arith, below)) ∙ mod_self tabs

next_alike : (tabs a b c : ℕ) (tab newline : Bool) → 0 < tabs → (c == 9) ≡ tab → (c == 10) ≡ newline → a % tabs ≡ b % tabs
    → (if tab then a + tab_len tabs a else (if newline then 0 else a + 1)) % tabs ≡ (if tab then b + tab_len tabs b else (if newline then 0 else b + 1)) % tabs
next_alike tabs a b c true newline some s t h = tab_ends tabs a some ∙ sym (tab_ends tabs b some)
next_alike tabs a b c false true some s t h = refl
next_alike tabs a b c false false some s t h = add_alike tabs a b 1 h

pub columns_alike : (tabs a b : ℕ) (xs : List ℕ) → 0 < tabs → a % tabs ≡ b % tabs → column_after tabs a xs % tabs ≡ column_after tabs b xs % tabs
columns_alike tabs a b [] some h = h
columns_alike tabs a b (x ∷ xs) some h =
    columns_alike tabs (next_column tabs a x) (next_column tabs b x) xs some (next_alike tabs a b x (x == 9) (x == 10) some refl refl h)

-- tabs stand apart
pub apart_some : (shape : Shape) → 0 < apart shape
apart_some shape = omega arith

-- the column behind plain bytes, by other names of the same numbers
pub column_moves : (other tabs before start after : ℕ) (xs : List ℕ) → other ≡ tabs → before ≡ start
    → after % other ≡ column_after other before xs % other → after % tabs ≡ column_after tabs start xs % tabs
column_moves other tabs before start after xs same begins is =
    subst (λ (t : ℕ). after % t ≡ column_after t start xs % t) same (is ∙ ap (λ k. column_after other k xs % other) begins)

pub column_behind : (tabs col other before gone after : ℕ) (xs : List ℕ) → 0 < tabs → other ≡ tabs → gone ≡ 0 → (before + gone) % tabs ≡ col % tabs
    → after % other ≡ column_after other before xs % other → after % tabs ≡ column_after tabs col xs % tabs
column_behind tabs col other before gone after xs some same none was is =
    let start : before % tabs ≡ col % tabs = ap (λ k. k % tabs) (omega (arith, none)) ∙ was in
    column_moves other tabs before before after xs same refl is ∙ columns_alike tabs before col xs some start

plain_weaker : (n : Bool) (b : ℕ) → is_plain n b ≡ true → is_plain true b ≡ true
plain_weaker true b h = h
plain_weaker false b h = grind (arith, nat_tests)

pub all_plain : (n : Bool) (xs : List ℕ) → list_all (is_plain n) xs ≡ true → list_all (is_plain true) xs ≡ true
all_plain n [] h = refl
all_plain n (x ∷ xs) h =
    let parts = and_parts (is_plain n x) (list_all (is_plain n) xs) h in
    and_from (is_plain true x) (list_all (is_plain true) xs) (plain_weaker n x parts.0) (all_plain n xs parts.1)

pub list_all-take : (p : ℕ → Bool) (n : ℕ) (xs : List ℕ) → list_all p xs ≡ true → list_all p (take n xs) ≡ true
list_all-take p zero xs h = refl
list_all-take p (suc n) [] h = refl
list_all-take p (suc n) (x ∷ xs) h =
    let parts = and_parts (p x) (list_all p xs) h in and_from (p x) (list_all p (take n xs)) parts.0 (list_all-take p n xs parts.1)

pub list_all-drop : (p : ℕ → Bool) (n : ℕ) (xs : List ℕ) → list_all p xs ≡ true → list_all p (drop n xs) ≡ true
list_all-drop p zero xs h = h
list_all-drop p (suc n) [] h = refl
list_all-drop p (suc n) (x ∷ xs) h = list_all-drop p n xs (and_parts (p x) (list_all p xs) h).1

-- a printed character takes one column
printed_width : (b : ℕ) → is_plain true b ≡ true → (b ≡ 10 → ⊥) → char_width false b ≡ Some 1
unfolding char_width
printed_width b h other = grind (arith, nat_tests)

pub printed_column : (b : ℕ) → is_plain true b ≡ true → (b ≡ 10 → ⊥)
    → (char_columns b ≡ 1) × ((tabs col : ℕ) → next_column tabs col b ≡ col + 1)
printed_column b h other = (ap (λ o. unwrap_or o 0) (printed_width b h other), λ tabs col. grind (arith, nat_tests))

-- and it is no control character, and one byte
pub printed_shown : (b : ℕ) → is_plain true b ≡ true → (b ≡ 10 → ⊥) → (is_control b ≡ false) × (encode_utf8 b ≡ b ∷ [])
printed_shown b h other = (grind (arith, nat_tests), encode_ascii b (grind (arith, nat_tests)))

-- no bytes are left
pub no_bytes : (xs : List ℕ) → length xs ≡ 0 → xs ≡ []
no_bytes [] h = refl
no_bytes (x ∷ xs) h = absurd (omega (arith, h))

-- what is taken in two steps
pub taken_twice : (m : Bool) (tabs col : ℕ) (a b c : Preparation) (bytes rest left : List ℕ) (one : Takes m tabs col a b bytes rest)
    → Takes m tabs one.next b c rest left → Takes m tabs col a c bytes left
taken_twice m tabs col a b c bytes rest left one two = record {
  next = two.next;
  plain = two.plain;
  is_at = two.is_at;
  left = two.left;
  text = two.text ∙ one.text;
  ends = two.ends ∙ one.ends;
}

-- a newline ends a line
pub line_ends : (tabs col n : ℕ) (xs : List ℕ) → n < length xs → get_or xs n 0 ≡ 10 → column_after tabs col (take (suc n) xs) ≡ 0
line_ends tabs col n [] h e = absurd (omega (arith, h))
line_ends tabs col zero (x ∷ xs) h e = ap (next_column tabs col) e
line_ends tabs col (suc n) (x ∷ xs) h e = line_ends tabs (next_column tabs col x) n xs (omega (arith, h)) e

-- a tab is taken
front_is : (b : ℕ) (bytes : List ℕ) → 0 < length bytes → get_or bytes 0 0 ≡ b → bytes ≡ b ∷ drop 1 bytes
front_is b [] h e = absurd (omega (arith, h))
front_is b (x ∷ xs) h e = ap (λ y. y ∷ xs) e

pub tab_taken : (m : Bool) (tabs col : ℕ) (old new : Preparation) (bytes : List ℕ) → 0 < length bytes → get_or bytes 0 0 ≡ 9
    → IsPlain new × (held new ≡ held old ++ tab_text m (tab_len tabs col)) → IsAt m tabs (col + tab_len tabs col) new → IsText bytes
    → Takes m tabs col old new bytes (drop 1 bytes)
tab_taken m tabs col old new bytes some tab plain is_at text =
    let rest = drop 1 bytes in
    let next = col + tab_len tabs col in
    let front = front_is 9 bytes some tab in
    record {
      next = next;
      plain = plain.0;
      is_at = is_at;
      left = list_all-drop is_text 1 bytes text;
      text = ap (λ xs. xs ++ expanded m tabs next rest) plain.1 ∙ append_assoc (held old) (tab_text m (tab_len tabs col)) (expanded m tabs next rest)
          ∙ ap (λ xs. held old ++ xs) (sym (ap (expanded m tabs col) front));
      ends = sym (ap (column_after tabs col) front);
    }

-- plain bytes are taken
pub run_taken : (m : Bool) (tabs col n : ℕ) (old new : Preparation) (bytes : List ℕ) → list_all (is_plain true) (take n bytes) ≡ true
    → IsPlain new × (held new ≡ held old ++ take n bytes) → IsAt m tabs (column_after tabs col (take n bytes)) new → IsText bytes
    → Takes m tabs col old new bytes (drop n bytes)
run_taken m tabs col n old new bytes all plain is_at text =
    let front = take n bytes in
    let rest = drop n bytes in
    let next = column_after tabs col front in
    record {
      next = next;
      plain = plain.0;
      is_at = is_at;
      left = list_all-drop is_text n bytes text;
      text = ap (λ xs. xs ++ expanded m tabs next rest) plain.1 ∙ append_assoc (held old) front (expanded m tabs next rest)
          ∙ ap (λ xs. held old ++ xs) (sym (expand_plain m tabs col front rest all) ∙ ap (expanded m tabs col) (take-append-drop n bytes));
      ends = sym (column_after-append tabs col front rest) ∙ ap (column_after tabs col) (take-append-drop n bytes);
    }

plain_or_tab : (b : ℕ) → is_text b ≡ true → (b ≡ 9 → ⊥) → is_plain true b ≡ true
plain_or_tab b h other = grind (arith, nat_tests)

-- a text that begins with no tab begins with a plain byte
pub first_plain : (bytes : List ℕ) → 0 < length bytes → IsText bytes → (get_or bytes 0 0 ≡ 9 → ⊥) → 0 < prefix_len (is_plain true) bytes
first_plain [] h text other = absurd (omega (arith, h))
first_plain (b ∷ bytes) h text other =
    let parts = and_parts (is_text b) (list_all is_text bytes) text in
    let plain : is_plain true b ≡ true = plain_or_tab b parts.0 other in
    subst (λ (t : Bool). 0 < cond t (1 + prefix_len (is_plain true) bytes) 0) (sym plain) (omega arith)
