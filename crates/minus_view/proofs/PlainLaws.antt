-- Laws of printed ASCII characters and newlines.
use Rattle.std.proofs.Common.{ℕ, ◌≡◌, ◌<◌, ◌+◌, List, [], ◌∷◌, Bool, true, false, Some, refl, ap, ◌∙◌, arith, length, take, cond, ◌&&◌, suc, subst}
use Rattle.std.specs.List.{list_all, prefix_len}
use Rattle.std.specs.Str.{IsAscii, chars}
use Rattle.std.proofs.lemmas.Bool.{and_parts}
use Rattle.std.proofs.lemmas.Bool.Decides.{nat_tests}
use Rattle.std.proofs.lemmas.Str.{chars-IsAscii}
use Rattle.std.proofs.lemmas.Str.Ascii.{IsAscii-nil, IsAscii-cons}
use Rattle.minus_view.specs.declared.shown.Spot.TheVariants.{Line}
use Rattle.minus_view.specs.Shown.{is_plain, in_line, read}

plain_small : (n : Bool) (b : ℕ) → is_plain n b ≡ true → b < 128
plain_small n b h = grind (arith, nat_tests)

-- they are ASCII
pub plain_ascii : (n : Bool) (bs : List ℕ) → list_all (is_plain n) bs ≡ true → IsAscii bs
plain_ascii n [] h = IsAscii-nil
plain_ascii n (b ∷ bs) h =
    let parts = and_parts (is_plain n b) (list_all (is_plain n) bs) h in
    IsAscii-cons b bs (plain_small n b parts.0) (plain_ascii n bs parts.1)

plain_stays : (styled : Bool) (b : ℕ) → is_plain false b ≡ true → in_line styled b ≡ Some (Line styled)
plain_stays styled b h = grind (arith, nat_tests)

newline_stays : (b : ℕ) → is_plain true b ≡ true → in_line false b ≡ Some (Line false)
newline_stays b h = grind (arith, nat_tests)

-- each stays in its line
stays_plain : (n styled : Bool) (b : ℕ) → (n ≡ true → styled ≡ false) → is_plain n b ≡ true → in_line styled b ≡ Some (Line styled)
stays_plain false styled b u h = plain_stays styled b h
stays_plain true true b u h = absurd (cc (u refl))
stays_plain true false b u h = newline_stays b h

pub read_plain : (n styled : Bool) (bs : List ℕ) → (n ≡ true → styled ≡ false) → list_all (is_plain n) bs ≡ true → read bs (Some (Line styled)) ≡ Some (Line styled)
read_plain n styled [] u h = refl
read_plain n styled (b ∷ bs) u h =
    let parts = and_parts (is_plain n b) (list_all (is_plain n) bs) h in
    ap (read bs) (stays_plain n styled b u parts.0) ∙ read_plain n styled bs u parts.1

-- and so do the characters that they spell
pub read_chars_plain : (n styled : Bool) (bs : List ℕ) → (n ≡ true → styled ≡ false) → list_all (is_plain n) bs ≡ true → read (chars bs) (Some (Line styled)) ≡ Some (Line styled)
read_chars_plain n styled bs u h = ap (λ cs. read cs (Some (Line styled))) (chars-IsAscii bs (plain_ascii n bs h)) ∙ read_plain n styled bs u h

-- those at the front all pass
passes_more : (p : ℕ → Bool) (b : ℕ) (bs : List ℕ) (t : Bool) → p b ≡ t → list_all p (take (prefix_len p bs) bs) ≡ true
    → list_all p (take (cond t (1 + prefix_len p bs) 0) (b ∷ bs)) ≡ true
passes_more p b bs true e front =
    let count : suc (prefix_len p bs) ≡ 1 + prefix_len p bs = omega arith in
    subst (λ (n : ℕ). list_all p (take n (b ∷ bs)) ≡ true) count (ap (λ t. t && list_all p (take (prefix_len p bs) bs)) e ∙ front)
passes_more p b bs false e front = refl

pub front_passes : (p : ℕ → Bool) (bs : List ℕ) → list_all p (take (prefix_len p bs) bs) ≡ true
front_passes p [] = refl
front_passes p (b ∷ bs) = passes_more p b bs (p b) refl (front_passes p bs)

-- and where all pass, these are all
pub whole_front : (p : ℕ → Bool) (bs : List ℕ) → list_all p bs ≡ true → prefix_len p bs ≡ length bs
whole_front p [] h = refl
whole_front p (b ∷ bs) h =
    let parts = and_parts (p b) (list_all p bs) h in
    ap (λ t. cond t (1 + prefix_len p bs) 0) parts.0 ∙ ap (λ n. 1 + n) (whole_front p bs parts.1) ∙ omega arith
