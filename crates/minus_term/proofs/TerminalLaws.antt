-- The parts of a setup and of a cleanup, one after another.
use Rattle.std.proofs.Common.{◌≡◌, ◌↔◌, ℕ, ◌∷◌, [], Bool, true, false, Option, Result, Err, IsErrOf, List, ◌++◌, codes, take, drop, refl, sym, ap, ◌∙◌, subst, append_assoc, append-nil, take-append-drop}
use Rattle.std.proofs.KnownBytes.{Appends-trans}
use Rattle.std.proofs.lemmas.Bool.{false≢true}
use Rattle.std.specs.Io.KnownBytes.{Appends}
use Rattle.minus_term.specs.Counts.{AppendsFront, AppendsPart}
use Rattle.minus_term.specs.Operations.{ShowCursor, HideCursor}
use Rattle.minus_term.specs.Written.{written}
use Rattle.minus_term.specs.Terminal.{alternate_screen, main_screen, mouse_on, mouse_off}
use Rattle.minus_term.specs.declared.error.SetupError.{SetupError}
use Rattle.minus_term.specs.declared.error.SetupError.TheVariants.{InvalidTerminal}
use Rattle.minus_term.proofs.SinkLaws.{AppendsFront-of}

pub alternate_screen_is : 27 ∷ codes "[?1049h" ≡ alternate_screen
unfolding alternate_screen
alternate_screen_is = refl

pub main_screen_is : 27 ∷ codes "[?1049l" ≡ main_screen
unfolding main_screen
main_screen_is = refl

pub mouse_on_is : (27 ∷ codes "[?1000h") ++ (27 ∷ codes "[?1002h") ++ (27 ∷ codes "[?1003h") ++ (27 ∷ codes "[?1015h") ++ (27 ∷ codes "[?1006h") ≡ mouse_on
unfolding mouse_on
mouse_on_is = refl

pub mouse_off_is : (27 ∷ codes "[?1006l") ++ (27 ∷ codes "[?1015l") ++ (27 ∷ codes "[?1003l") ++ (27 ∷ codes "[?1002l") ++ (27 ∷ codes "[?1000l") ≡ mouse_off
unfolding mouse_off
mouse_off_is = refl

pub show_cursor_is : 27 ∷ codes "[?25h" ≡ written ShowCursor
unfolding written
show_cursor_is = refl

pub hide_cursor_is : 27 ∷ codes "[?25l" ≡ written HideCursor
unfolding written
hide_cursor_is = refl

-- a part written whole, after those before it
pub part_added : (a b c : Option (List ℕ)) (before bytes part : List ℕ) → bytes ≡ part → Appends a b before → Appends b c bytes → Appends a c (before ++ part)
part_added a b c before bytes part e h k = Appends-trans a b c before part h (subst (λ (x : List ℕ). Appends b c x) e k)

pub first_added : (a b : Option (List ℕ)) (bytes part : List ℕ) → bytes ≡ part → Appends a b bytes → Appends a b part
first_added a b bytes part e h = subst (λ (x : List ℕ). Appends a b x) e h

-- a part broken off, after those before it
pub part_broken : (a b c : Option (List ℕ)) (before bytes part : List ℕ) → bytes ≡ part → Appends a b before → AppendsFront b c bytes → AppendsPart a c before part
part_broken a b c before bytes part e h k =
    let (n, few, added) = subst (λ (x : List ℕ). AppendsFront b c x) e k in
    (n, few, Appends-trans a b c before _ h added)

pub first_broken : (a b : Option (List ℕ)) (bytes part : List ℕ) → bytes ≡ part → AppendsFront a b bytes → AppendsPart a b [] part
first_broken a b bytes part e h = subst (λ (x : List ℕ). AppendsFront a b x) e h

-- a part broken off is a beginning of all parts
pub part_is_front : (a b : Option (List ℕ)) (before part after : List ℕ) → AppendsPart a b before part → AppendsFront a b (before ++ part ++ after)
part_is_front a b before part after h =
    let k = h.0 in
    let split = ap (λ (x : List ℕ). before ++ x ++ after) (sym (take-append-drop k part)) ∙ ap (λ (x : List ℕ). x ++ after) (sym (append_assoc before (take k part) (drop k part))) ∙ append_assoc (before ++ take k part) (drop k part) after in
    AppendsFront-of a b (before ++ part ++ after) (before ++ take k part) (drop k part ++ after) split h.2

pub first_is_front : (a b : Option (List ℕ)) (part next after : List ℕ) → AppendsPart a b [] part → AppendsFront a b (part ++ next ++ after)
first_is_front a b part next after h = rw (append_assoc part next after) (part_is_front a b [] part (next ++ after) h)

pub last_is_front : (a b : Option (List ℕ)) (before part : List ℕ) → AppendsPart a b before part → AppendsFront a b (before ++ part)
last_is_front a b before part h = subst (λ (x : List ℕ). AppendsFront a b x) (append-nil (before ++ part)) (part_is_front a b before part [] h)

-- an answer of a setup that does not say that the sink is no terminal
abbrev pub IsOther : Result (Unit {0}) SetupError → Type 0
IsOther (Err InvalidTerminal) = ⊥
IsOther r = Unit {0}

pub not_invalid : (r : Result (Unit {0}) SetupError) → IsOther r → IsErrOf r InvalidTerminal → ⊥
not_invalid r other e = subst IsOther e other

-- the answers of a setup where the sink says that it is a terminal
pub on_terminal : (r : Result (Unit {0}) SetupError) (told terminal : Bool) → IsOther r → told ≡ terminal → told ≡ true → IsErrOf r InvalidTerminal ↔ (terminal ≡ false)
on_terminal r told terminal other is on =
    (λ e. absurd (not_invalid r other e), λ h. absurd (false≢true (sym h ∙ sym is ∙ on)))
