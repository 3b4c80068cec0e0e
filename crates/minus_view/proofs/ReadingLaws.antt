-- Laws of options, one after another in a text.
use Rattle.std.proofs.Common.{ℕ, zero, suc, ◌≡◌, ◌==◌, ◌+◌, ◌-◌, ◌<◌, List, [], ◌∷◌, Bool, false, if◌then◌else◌, refl, ap, sym, ◌∙◌, length, take, drop, subst, arith}
use Rattle.std.proofs.lemmas.List.{drop-drop, length-drop, take_all}
use Rattle.std.proofs.lemmas.Bool.Decides.{nat_tests}
use Rattle.minus_view.specs.declared.arguments.reading.Item.{Item}
use Rattle.minus_view.specs.declared.arguments.reading.Reading.{Reading}
use Rattle.minus_view.specs.declared.arguments.option_table.Kind.{Kind}
use Rattle.minus_view.specs.declared.arguments.reading.Class.TheVariants.{Name}
use Rattle.minus_view.specs.OptionWords.{cut, run_of}
use Rattle.minus_view.specs.OptionTable.{name_kind}
use Rattle.minus_view.specs.Paging.{begins_with}
use Rattle.minus_view.specs.Reading.{ended_at, known, named_end, long_item, item_of, with_item, read_options}

-- an option behind `--`, by its steps
abbrev told_item : List ℕ → Bool → ℕ → Item
told_item bytes told end =
    ended_at (known (name_kind (cut bytes 2 end)) told) bytes (named_end (known (name_kind (cut bytes 2 end)) told) told bytes end)

pub long_is : (bytes name : List ℕ) (end n : ℕ) (told : Bool) (before kind : Kind) (item : Item)
    → end ≡ 2 + run_of Name (drop 2 bytes) → told ≡ begins_with 61 (drop end bytes) → name ≡ cut bytes 2 end → before ≡ name_kind name
    → kind ≡ known before told → n ≡ named_end kind told bytes end → item ≡ ended_at kind bytes n → item ≡ long_item bytes
long_is bytes name end n told before kind item is_end is_told is_name is_before is_kind is_n is =
    let all_kind = is_kind ∙ ap (λ k. known k told) (is_before ∙ ap name_kind is_name) in
    is ∙ ap (ended_at kind bytes) is_n ∙ ap (λ k. ended_at k bytes (named_end k told bytes end)) all_kind
    ∙ ap (λ t. told_item bytes t end) is_told ∙ ap (λ e. told_item bytes (begins_with 61 (drop e bytes)) e) is_end

-- what follows a place, as a slice of it
rest_of : (n : ℕ) (xs : List ℕ) → take (length xs - n) (drop n xs) ≡ drop n xs
rest_of n xs = take_all (length xs - n) (drop n xs) (omega (arith, length-drop n xs))

-- the same where the bytes are a slice of a text
pub long_at : (bytes rest name : List ℕ) (run n : ℕ) (told : Bool) (before kind : Kind) (item : Item) → bytes ≡ rest
    → run ≡ run_of Name (take (length bytes - 2) (drop 2 bytes)) → told ≡ begins_with 61 (take (length bytes - (2 + run)) (drop (2 + run) bytes))
    → name ≡ cut rest 2 (2 + run) → before ≡ name_kind name → kind ≡ known before told → n ≡ named_end kind told bytes (2 + run)
    → item ≡ ended_at kind bytes n → item ≡ long_item rest
long_at bytes rest name run n told before kind item same is_run is_told is_name is_before is_kind is_n is =
    long_is bytes name (2 + run) n told before kind item (ap (λ k. 2 + k) (is_run ∙ ap (run_of Name) (rest_of 2 bytes)))
    (is_told ∙ ap (begins_with 61) (rest_of (2 + run) bytes)) (is_name ∙ ap (λ xs. cut xs 2 (2 + run)) (sym same)) is_before is_kind is_n is
    ∙ ap long_item same

pub slice_is : (at : ℕ) (whole text : List ℕ) → whole ≡ text → take (length whole - at) (drop at whole) ≡ drop at text
slice_is at whole text h = rest_of at whole ∙ ap (drop at) h

some_left : (n : ℕ) → (suc n == 0) ≡ false
some_left n = grind (arith, nat_tests)

if_no : {X : Type 0} (t : Bool) (x y : X) → t ≡ false → (if t then x else y) ≡ y
if_no t x y h = ap (λ b. if b then x else y) h

-- bytes that were read are passed
pub passes : (r : Reading) (n : ℕ) (bytes : List ℕ) → read_options r n bytes ≡ read_options r 0 (drop n bytes)
passes r zero [] = refl
passes r (suc n) [] = refl
passes r zero (b ∷ bytes) = refl
passes r (suc n) (b ∷ bytes) =
    if_no (suc n == 0) _ _ (some_left n) ∙ ap (λ k. read_options r k bytes) (omega arith) ∙ passes r n bytes

drop_one : (n b : ℕ) (bytes : List ℕ) → 0 < n → drop (n - 1) bytes ≡ drop n (b ∷ bytes)
drop_one zero b bytes h = absurd (omega (arith, h))
drop_one (suc n) b bytes h = ap (λ k. drop k bytes) (omega arith)

-- the first option, and then the others
pub front : (r : Reading) (rest : List ℕ) → 0 < length rest → 0 < (item_of rest).to
    → read_options r 0 rest
    ≡ read_options (with_item r (item_of rest).kind (cut rest (item_of rest).from (item_of rest).to) ((item_of rest).from == length rest)) 0
    (drop (item_of rest).to rest)
front r [] some h = absurd (omega (arith, some))
front r (b ∷ bytes) some h =
    let item = item_of (b ∷ bytes) in
    let next = with_item r item.kind (cut (b ∷ bytes) item.from item.to) (item.from == length (b ∷ bytes)) in
    passes next (item.to - 1) bytes ∙ ap (read_options next 0) (drop_one item.to b bytes h)

front_of : (r : Reading) (rest : List ℕ) (item : Item) → 0 < length rest → 0 < item.to → item ≡ item_of rest
    → read_options r 0 rest ≡ read_options (with_item r item.kind (cut rest item.from item.to) (item.from == length rest)) 0 (drop item.to rest)
front_of r rest item some h is =
    front r rest some (subst (λ (x : Item). 0 < x.to) is h)
    ∙ ap (λ x. read_options (with_item r x.kind (cut rest x.from x.to) (x.from == length rest)) 0 (drop x.to rest)) (sym is)

-- one option more, of those behind a place
pub one_more : (r next start : Reading) (text value : List ℕ) (at : ℕ) (item : Item) → at < length text → 0 < item.to → item ≡ item_of (drop at text)
    → value ≡ cut (drop at text) item.from item.to → next ≡ with_item r item.kind value (item.from == length text - at)
    → read_options r 0 (drop at text) ≡ start → read_options next 0 (drop (at + item.to) text) ≡ start
one_more r next start text value at item within some is_item is_value is_next so_far =
    let rest = drop at text in
    let ends : (item.from == length text - at) ≡ (item.from == length rest) = ap (λ n. item.from == n) (sym (length-drop at text)) in
    let is : next ≡ with_item r item.kind (cut rest item.from item.to) (item.from == length rest) =
    is_next ∙ ap (λ v. with_item r item.kind v (item.from == length text - at)) is_value
    ∙ ap (λ b. with_item r item.kind (cut rest item.from item.to) b) ends in
    let first = front_of r rest item (omega (arith, within, length-drop at text)) some is_item in
    ap (λ x. read_options x 0 (drop (at + item.to) text)) is
    ∙ ap (read_options (with_item r item.kind (cut rest item.from item.to) (item.from == length rest)) 0) (sym (drop-drop item.to at text ∙ ap (λ n. drop n text) (omega arith)))
    ∙ sym first ∙ so_far
