-- Calls of a sink, one after another.
use Rattle.std.proofs.Common.{◌≡◌, ℕ, ◌+◌, ◌-◌, ◌==◌, true, false, Option, None, Some, Result, Ok, Err, OnErr, List, ◌++◌, sym, ap, ◌∙◌, arith, length, take, drop, append_assoc, take-append-drop, length-append}
use Rattle.std.proofs.lemmas.List.{take_rest}
use Rattle.std.proofs.Math.Seq.{take-append_seam, take-length}
use Rattle.std.specs.Io.KnownBytes.{Appends, Keeps}
use Rattle.minus_term.specs.Counts.{CountsCall, Stays, Rises, RisesBy, AppendsFront}

pub Stays-trans : (a b c : Option ℕ) → Stays a b → Stays b c → Stays a c
Stays-trans None None None p q = tt
Stays-trans None None (Some n) p q = absurd q
Stays-trans None (Some m) c p q = absurd p
Stays-trans (Some k) b None p q = tt
Stays-trans (Some k) None (Some n) p q = absurd q
Stays-trans (Some k) (Some m) (Some n) p q = q ∙ p

-- one more call, which took some bytes
pub Stays-taken : (a b c : Option ℕ) (n : ℕ) → Stays a b → (n ≡ 0 → ⊥) → CountsCall b c (n == 0) → Stays a c
Stays-taken a b c n p h q =
    let e : (n == 0) ≡ false = grind arith in
    Stays-trans a b c p (rw e at q)

-- a refused call after calls that were not
pub Rises-call : (a b c : Option ℕ) → Stays a b → CountsCall b c true → Rises a c
Rises-call None None None p q = tt
Rises-call None None (Some n) p q = absurd q
Rises-call None (Some m) c p q = absurd p
Rises-call (Some k) b None p q = tt
Rises-call (Some k) None (Some n) p q = absurd q
Rises-call (Some k) (Some m) (Some n) p q = omega arith

-- calls of which one was refused after calls that were not
pub Stays-rises : (a b c : Option ℕ) → Stays a b → Rises b c → Rises a c
Stays-rises None None None p q = tt
Stays-rises None None (Some n) p q = absurd q
Stays-rises None (Some m) c p q = absurd p
Stays-rises (Some k) b None p q = tt
Stays-rises (Some k) None (Some n) p q = absurd q
Stays-rises (Some k) (Some m) (Some n) p q = omega (arith, p, q)

-- one count after another
pub RisesBy-trans : (a b c : Option ℕ) (m n : ℕ) → RisesBy a b m → RisesBy b c n → RisesBy a c (m + n)
RisesBy-trans None None None m n p q = tt
RisesBy-trans None None (Some k) m n p q = absurd q
RisesBy-trans None (Some j) c m n p q = absurd p
RisesBy-trans (Some i) b None m n p q = tt
RisesBy-trans (Some i) None (Some k) m n p q = absurd q
RisesBy-trans (Some i) (Some j) (Some k) m n p q = omega (arith, p, q)

-- a call that added nothing, after some that did
pub Appends-kept : (a b c : Option (List ℕ)) (bytes : List ℕ) → Appends a b bytes → Keeps b c → Appends a c bytes
Appends-kept None b c bytes p q = tt
Appends-kept (Some x) None c bytes p q = absurd p
Appends-kept (Some x) (Some y) None bytes p q = absurd q
Appends-kept (Some x) (Some y) (Some z) bytes p q = q ∙ p

-- what was added is a beginning of what was to be added
pub AppendsFront-of : (a b : Option (List ℕ)) (all done rest : List ℕ) → all ≡ done ++ rest → Appends a b done → AppendsFront a b all
AppendsFront-of a b all done rest e p =
    (length done, rw e (omega (arith, length-append done rest)), rw (e, take-append_seam) p)

-- all bytes are a beginning of themselves
pub AppendsFront-all : (a b : Option (List ℕ)) (all : List ℕ) → Appends a b all → AppendsFront a b all
AppendsFront-all a b all p = (length all, omega arith, rw take-length p)

-- n more bytes of the rest were added
pub moves_front : (all done rest : List ℕ) (n : ℕ) → all ≡ done ++ rest → all ≡ (done ++ take n rest) ++ take (length rest - n) (drop n rest)
moves_front all done rest n e =
    e ∙ ap (λ l. done ++ l) (sym (take-append-drop n rest)) ∙ sym (append_assoc done (take n rest) (drop n rest)) ∙ ap (λ l. (done ++ take n rest) ++ l) (sym (take_rest rest n))

-- what holds whatever the error is
pub at_err : {T E P : Type 0} → (r : Result T E) → P → OnErr r P
at_err (Ok x) p = tt
at_err (Err e) p = p
