-- Laws of the rows of lines, their first rows and their longest line.
use Rattle.std.proofs.Common.{◌≡◌, ℕ, zero, suc, ◌+◌, Bool, true, false, eqb, cond, List, [], ◌∷◌, ◌++◌, length, max, refl, sym, ap, ◌∙◌, arith, append_assoc, inl, inr}
use Rattle.std.specs.List.{concat}
use Rattle.std.specs.List.Sorted.{IsStrictlyIncreasing}
use Rattle.std.specs.Str.Lines.{lines}
use Rattle.std.proofs.lemmas.Bool.{cases_Bool}
use Rattle.std.proofs.lemmas.List.{append-nil, length-append}
use Rattle.std.proofs.lemmas.List.Concat.{flat_map-append}
use Rattle.minus_text.specs.declared.layout.Wrap.{Wrap}
use Rattle.minus_text.specs.Layouts.{own_rows, relaid}
use Rattle.minus_text.specs.Lines.{finished_lines, unfinished_line}
use Rattle.minus_text.specs.Document.{Document, rows_of_lines, first_rows, open_rows, longest_of, wrap_in, rows_of, stored_rows, line_map, longest, pushed, PushesJoin, PiecesPushJoined, LineMapAscends}
use Rattle.minus_text.proofs.LayoutLaws.{own_rows-some}
use Rattle.minus_text.proofs.LinesLaws.{lines-cut}

pub length-rows_of_lines-append : (wrap : Wrap) (xs ys : List (List ℕ)) → length (rows_of_lines wrap (xs ++ ys)) ≡ length (rows_of_lines wrap xs) + length (rows_of_lines wrap ys)
length-rows_of_lines-append wrap xs ys = ap length (flat_map-append (own_rows wrap) xs ys) ∙ length-append (rows_of_lines wrap xs) (rows_of_lines wrap ys)

pub first_rows-append : (wrap : Wrap) (n : ℕ) (xs ys : List (List ℕ)) → first_rows wrap n (xs ++ ys) ≡ first_rows wrap n xs ++ first_rows wrap (n + length (rows_of_lines wrap xs)) ys
first_rows-append wrap n [] ys = let z : n + 0 ≡ n = omega arith in rw z refl
first_rows-append wrap n (x ∷ xs) ys =
    let e : (n + length (own_rows wrap x)) + length (rows_of_lines wrap xs) ≡ n + length (rows_of_lines wrap (x ∷ xs)) = omega (arith, length-append (own_rows wrap x) (rows_of_lines wrap xs)) in
    ap (λ ns. n ∷ ns) (first_rows-append wrap (n + length (own_rows wrap x)) xs ys ∙ ap (λ m. first_rows wrap (n + length (own_rows wrap x)) xs ++ first_rows wrap m ys) e)

pub length-first_rows : (wrap : Wrap) (n : ℕ) (ls : List (List ℕ)) → length (first_rows wrap n ls) ≡ length ls
length-first_rows wrap n [] = refl
length-first_rows wrap n (x ∷ xs) = ap suc (length-first_rows wrap (n + length (own_rows wrap x)) xs)

-- each line begins later than the line before it, since that has a row at least
pub first_rows-ascend : (wrap : Wrap) (n : ℕ) (ls : List (List ℕ)) → IsStrictlyIncreasing (first_rows wrap n ls)
first_rows-ascend wrap n [] k l = absurd (omega arith)
first_rows-ascend wrap n (x ∷ []) k l = absurd (omega arith)
first_rows-ascend wrap n (x ∷ y ∷ ls) zero l = let some = own_rows-some wrap x in omega arith
first_rows-ascend wrap n (x ∷ y ∷ ls) (suc k) l = let e : suc k + 1 ≡ suc (k + 1) = omega arith in rw e (first_rows-ascend wrap (n + length (own_rows wrap x)) (y ∷ ls) k (omega arith))

pub longest_of-append : (xs ys : List (List ℕ)) → longest_of (xs ++ ys) ≡ max (longest_of xs) (longest_of ys)
longest_of-append [] ys = omega arith
longest_of-append (x ∷ xs) ys = let more = longest_of-append xs ys in omega arith

-- the lines of a text, where nothing and where something follows the last newline
pub lines_closed : (text : List ℕ) → eqb (length (unfinished_line text)) 0 ≡ true → lines text ≡ finished_lines text
lines_closed text e = lines-cut text ∙ ap (λ (b : Bool). finished_lines text ++ cond b [] (unfinished_line text ∷ [])) e ∙ append-nil (finished_lines text)

pub lines_open : (text : List ℕ) → eqb (length (unfinished_line text)) 0 ≡ false → lines text ≡ finished_lines text ++ unfinished_line text ∷ []
lines_open text e = lines-cut text ∙ ap (λ (b : Bool). finished_lines text ++ cond b [] (unfinished_line text ∷ [])) e

pub line_map-ascends : LineMapAscends
unfolding line_map
line_map-ascends d = first_rows-ascend (wrap_in d) 0 (lines d.text)

pub pushes-join : PushesJoin
pushes-join d one two whole a b numbers cols e f g =
    let both : two ≡ whole = f ∙ ap (λ (x : Document). pushed x b numbers cols) e ∙ ap (λ t. let r : Document = record { text = t; layout = relaid d.layout numbers cols } in r) (append_assoc d.text a b) ∙ sym g in
    record {
      same_rows = ap rows_of both;
      same_stored = ap stored_rows both;
      same_map = ap line_map both;
      same_count = ap (λ (x : Document). length (lines x.text)) both;
      same_longest = ap longest both;
    }

pub pieces_push_joined_lem : PiecesPushJoined
pieces_push_joined_lem d [] numbers cols some = absurd (omega arith)
pieces_push_joined_lem d (piece ∷ []) numbers cols some = ap (λ text. pushed d text numbers cols) (sym (append-nil piece))
pieces_push_joined_lem d (piece ∷ next ∷ pieces) numbers cols some =
    pieces_push_joined_lem (pushed d piece numbers cols) (next ∷ pieces) numbers cols (omega arith)
    ∙ ap (λ text. let r : Document = record { text = text; layout = relaid d.layout numbers cols } in r) (append_assoc d.text piece (concat (next ∷ pieces)))

-- the rows of a text are those of its finished lines and its unfinished ones
pub length-rows_of_lines : (text : List ℕ) (wrap : Wrap) → length (rows_of_lines wrap (lines text)) ≡ length (rows_of_lines wrap (finished_lines text)) + length (open_rows wrap (unfinished_line text))
length-rows_of_lines text wrap = elim (cases_Bool (eqb (length (unfinished_line text)) 0)) [
  | inl none ↦ rw (lines_closed text none, none) (omega arith)
  | inr some ↦
      let last : length (rows_of_lines wrap (unfinished_line text ∷ [])) ≡ length (own_rows wrap (unfinished_line text)) = ap length (append-nil (own_rows wrap (unfinished_line text))) in
      rw (lines_open text some, some) (omega (arith, length-rows_of_lines-append wrap (finished_lines text) (unfinished_line text ∷ []), last))
]
