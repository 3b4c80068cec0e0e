-- A shown text is clean, character by character.
use Rattle.std.proofs.Common.{ℕ, ◌≡◌, ◌==◌, ◌&&◌, ◌||◌, List, [], ◌∷◌, Bool, true, false, not, Option, Some, None, refl, ap, sym, ◌∙◌, arith, if◌then◌else◌}
use Rattle.std.specs.Str.{chars}
use Rattle.std.specs.Int.{is_in_range}
use Rattle.std.proofs.lemmas.Bool.{and_from}
use Rattle.std.proofs.lemmas.Bool.Decides.{nat_tests}
use Rattle.minus_view.specs.declared.shown.Spot.{Spot}
use Rattle.minus_view.specs.declared.shown.Spot.TheVariants.{Line, Escape, Numbers}
use Rattle.minus_view.specs.Shown.{is_control, step, read, IsShown, follows, is_clean}

abbrev is_behind_escape : Spot → Bool
is_behind_escape Escape = true
is_behind_escape (Line styled) = false
is_behind_escape (Numbers resets) = false

abbrev behind : Option Spot → Bool
behind (Some spot) = is_behind_escape spot
behind None = false

-- a spot that is none leads nowhere
read_none : (cs : List ℕ) (spot : Spot) → read cs None ≡ Some spot → ⊥
read_none [] spot h = absurd (cc)
read_none (c ∷ cs) spot h = read_none cs spot h

escape_clean : (k n : Bool) → (not k || n || true) ≡ true
escape_clean true true = refl
escape_clean true false = refl
escape_clean false true = refl
escape_clean false false = refl

newline_clean : (k : Bool) → (not k || true || false) ≡ true
newline_clean true = refl
newline_clean false = refl

-- in a line
line_step : (styled e n k : Bool) (next : Spot)
    → (if e then Some Escape else (if n then (if styled then None else Some (Line false)) else (if k then None else Some (Line styled)))) ≡ Some next
    → ((not k || n || e) ≡ true) × (is_behind_escape next ≡ e)
line_step styled true n k next h = (escape_clean k n, sym (ap behind h))
line_step true false true k next h = absurd (cc)
line_step false false true k next h = (newline_clean k, sym (ap behind h))
line_step styled false false true next h = absurd (cc)
line_step styled false false false next h = (refl, sym (ap behind h))

bracket : (c : ℕ) → (c == 91) ≡ true → (c == 27) ≡ false
bracket c h = grind (arith, nat_tests)

-- behind `ESC`
escape_step : (c : ℕ) (t : Bool) (next : Spot) → (c == 91) ≡ t → (if t then Some (Numbers true) else None) ≡ Some next
    → (t ≡ true) × (is_behind_escape next ≡ (c == 27))
escape_step c true next e h = (refl, sym (ap behind h) ∙ sym (bracket c e))
escape_step c false next e h = absurd (cc)

last_clean : (c : ℕ) → (c == 109) ≡ true → (follows c false ≡ true) × ((c == 27) ≡ false)
last_clean c h = (grind (arith, nat_tests), grind (arith, nat_tests))

number_clean : (c : ℕ) → is_in_range 48 59 c ≡ true → (follows c false ≡ true) × ((c == 27) ≡ false)
number_clean c h = (grind (arith, nat_tests), grind (arith, nat_tests))

-- in the numbers of a sequence
number_step : (c : ℕ) (resets t d : Bool) (next : Spot) → (c == 109) ≡ t → is_in_range 48 59 c ≡ d
    → (if t then Some (Line (not resets)) else (if d then Some (Numbers (resets && (c == 48))) else None)) ≡ Some next
    → (follows c false ≡ true) × (is_behind_escape next ≡ (c == 27))
number_step c resets true d next e f h = let clean = last_clean c e in (clean.0, sym (ap behind h) ∙ sym clean.1)
number_step c resets false true next e f h = let clean = number_clean c f in (clean.0, sym (ap behind h) ∙ sym clean.1)
number_step c resets false false next e f h = absurd (cc)

clean_step : (spot next : Spot) (c : ℕ) → step spot c ≡ Some next → (follows c (is_behind_escape spot) ≡ true) × (is_behind_escape next ≡ (c == 27))
clean_step (Line styled) next c h = line_step styled (c == 27) (c == 10) (is_control c) next h
clean_step Escape next c h = escape_step c (c == 91) next refl h
clean_step (Numbers resets) next c h = number_step c resets (c == 109) (is_in_range 48 59 c) next refl refl h

clean_next : (spot : Spot) (c : ℕ) (cs : List ℕ) (o : Option Spot) → step spot c ≡ o → read cs o ≡ Some (Line false)
    → ((next : Spot) → read cs (Some next) ≡ Some (Line false) → is_clean (is_behind_escape next) cs ≡ true) → is_clean (is_behind_escape spot) (c ∷ cs) ≡ true
clean_next spot c cs None e h further = absurd (read_none cs (Line false) h)
clean_next spot c cs (Some next) e h further =
    let one = clean_step spot next c e in
    and_from (follows c (is_behind_escape spot)) (is_clean (c == 27) cs) one.0 (ap (λ b. is_clean b cs) (sym one.1) ∙ further next h)

clean_text : (cs : List ℕ) (spot : Spot) → read cs (Some spot) ≡ Some (Line false) → is_clean (is_behind_escape spot) cs ≡ true
clean_text [] spot h = ap (λ o. not (behind o)) h
clean_text (c ∷ cs) spot h = clean_next spot c cs (step spot c) refl h (clean_text cs)

pub shown_clean : (bytes : List ℕ) → IsShown bytes → is_clean false (chars bytes) ≡ true
shown_clean bytes h = clean_text (chars bytes) (Line false) h
