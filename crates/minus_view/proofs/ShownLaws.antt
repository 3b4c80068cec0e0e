-- Laws of shown texts.
use Rattle.std.proofs.Common.{ℕ, ◌≡◌, ◌++◌, List, [], ◌∷◌, Bool, true, false, Option, Some, refl, ap, sym, ◌∙◌, encode_utf8, arith, if◌then◌else◌}
use Rattle.std.specs.Char.{IsScalar}
use Rattle.std.proofs.lemmas.List.{append-nil}
use Rattle.minus_view.specs.declared.shown.Spot.TheVariants.{Line}
use Rattle.std.specs.Str.{IsUtf8, chars}
use Rattle.std.specs.Option.{option_and_then}
use Rattle.std.proofs.lemmas.Str.{chars-append, chars-nil, chars_past_char, IsUtf8-encode}
use Rattle.minus_view.specs.declared.shown.Spot.{Spot}
use Rattle.minus_view.specs.Shown.{read, step, is_control, in_line, IsShown}

-- a text after another one is read from where that one ends
pub read-append : (xs ys : List ℕ) (at : Option Spot) → read (xs ++ ys) at ≡ read ys (read xs at)
read-append [] ys at = refl
read-append (x ∷ xs) ys at = read-append xs ys (option_and_then (λ spot. step spot x) at)

-- a text after another one, both given by their bytes, is read from where that one ends
pub read_bytes-append : (bs ds : List ℕ) (at : Option Spot) → IsUtf8 bs → read (chars (bs ++ ds)) at ≡ read (chars ds) (read (chars bs) at)
read_bytes-append bs ds at u = ap (λ cs. read cs at) (chars-append bs ds u) ∙ read-append (chars bs) (chars ds) at

-- a text put behind another one
pub put_behind : (bs ds es : List ℕ) (begun styled : Bool) (at : Option Spot) → IsUtf8 bs
    → read (chars bs) (Some (Line begun)) ≡ Some (Line styled) → read (chars ds) (Some (Line styled)) ≡ at → es ≡ bs ++ ds → read (chars es) (Some (Line begun)) ≡ at
put_behind bs ds es begun styled at u h g e =
    ap (λ xs. read (chars xs) (Some (Line begun))) e ∙ read_bytes-append bs ds (Some (Line begun)) u ∙ ap (λ o. read (chars ds) o) h ∙ g

-- a text put behind another one, or nothing where memory was wanting
pub put_or_not : (b : Bool) (bs ds es : List ℕ) (begun styled : Bool) → IsUtf8 bs
    → read (chars bs) (Some (Line begun)) ≡ Some (Line styled) → read (chars ds) (Some (Line styled)) ≡ Some (Line styled) → es ≡ (if b then bs ++ ds else bs) → read (chars es) (Some (Line begun)) ≡ Some (Line styled)
put_or_not true bs ds es begun styled u h g e = put_behind bs ds es begun styled (Some (Line styled)) u h g e
put_or_not false bs ds es begun styled u h g e = ap (λ xs. read (chars xs) (Some (Line begun))) e ∙ h

-- a reset, where a style is open or not
pub read_reset : (styled : Bool) → read (chars (27 ∷ 91 ∷ 48 ∷ 109 ∷ [])) (Some (Line styled)) ≡ Some (Line false)
unfolding chars
read_reset styled = refl

-- the marks of a tab: one where no style is open, and the one in a style
pub read_mark : read (chars (27 ∷ 91 ∷ 109 ∷ [])) (Some (Line false)) ≡ Some (Line false)
unfolding chars
read_mark = refl

pub read_styled_mark : read (chars (27 ∷ 91 ∷ 58 ∷ 109 ∷ [])) (Some (Line true)) ≡ Some (Line true)
unfolding chars
read_styled_mark = refl

-- a line's end
pub read_newline : read (chars (10 ∷ [])) (Some (Line false)) ≡ Some (Line false)
unfolding chars
read_newline = refl

-- a character that is no control character stays in its line
pub stays : (c : ℕ) (styled : Bool) → is_control c ≡ false → in_line styled c ≡ Some (Line styled)
stays c styled h = grind arith

-- and so do the bytes that spell it
pub read_encode : (c : ℕ) (styled : Bool) → IsScalar c → is_control c ≡ false → read (chars (encode_utf8 c)) (Some (Line styled)) ≡ Some (Line styled)
read_encode c styled s h =
    ap (λ cs. read cs (Some (Line styled))) (chars_past_char (encode_utf8 c) [] c (IsUtf8-encode c s) (sym (append-nil (encode_utf8 c))) ∙ ap (λ cs. c ∷ cs) chars-nil)
    ∙ stays c styled h

-- no text, and a text behind another one
pub shown-nil : IsShown []
shown-nil = ap (λ cs. read cs (Some (Line false))) chars-nil

pub shown-append : (first second : List ℕ) → IsUtf8 first → IsShown first → IsShown second → IsShown (first ++ second)
shown-append first second u one two = put_behind first second (first ++ second) false false (Some (Line false)) u one two refl
