-- Laws of what stands behind a place in a text.
use Rattle.std.proofs.Common.{ℕ, ◌≡◌, ◌==◌, ◌&&◌, ◌+◌, ◌-◌, ◌≤◌, List, [], Bool, not, ap, sym, ◌∙◌, length, take, drop, if◌then◌else◌, nat_lt, slice_index, slice_range, arith}
use Rattle.std.specs.Int.{is_in_range}
use Rattle.std.proofs.lemmas.List.{drop-drop, length-drop, get_or-drop}
use Rattle.std.proofs.lemmas.Bool.Decides.{nat_tests}
use Rattle.minus_view.specs.OptionWords.{is_between, cut}

lt_shift : (at n len : ℕ) → at + n ≤ len → nat_lt (at + n) len ≡ nat_lt n (len - at)
lt_shift at n len h = grind (arith, nat_tests)

eq_shift : (at n len : ℕ) → at + n ≤ len → (at + n == len) ≡ (n == len - at)
eq_shift at n len h = grind (arith, nat_tests)

order_shift : (at from to : ℕ) → nat_lt (at + to) (at + from) ≡ nat_lt to from
order_shift at from to = grind (arith, nat_tests)

abbrev between : Bool → ℕ → Bool → Bool
between inside b ends = if inside then not (is_in_range 0x80 0xBF b) else ends

between_drop : (text : List ℕ) (at n : ℕ) → at + n ≤ length text → is_between text (at + n) ≡ is_between (drop at text) n
between_drop text at n h =
    let len = sym (length-drop at text) in
    ap (λ t. between t (slice_index text (at + n)) (at + n == length text)) (lt_shift at n (length text) h ∙ ap (nat_lt n) len)
    ∙ ap (λ b. between (nat_lt n (length (drop at text))) b (at + n == length text)) (sym (get_or-drop at text n 0))
    ∙ ap (between (nat_lt n (length (drop at text))) (slice_index (drop at text) n)) (eq_shift at n (length text) h ∙ ap (λ k. n == k) len)

range_drop : (text : List ℕ) (at from to : ℕ) → slice_range text (at + from) (at + to) ≡ slice_range (drop at text) from to
range_drop text at from to =
    ap (λ n. take n (drop (at + from) text)) (omega arith) ∙ ap (take (to - from)) (sym (drop-drop from at text))

pub cut_drop : (text : List ℕ) (at from to : ℕ) → at + from ≤ length text → at + to ≤ length text
    → cut text (at + from) (at + to) ≡ cut (drop at text) from to
cut_drop text at from to f t =
    ap (λ b. if not b && is_between text (at + from) && is_between text (at + to) then slice_range text (at + from) (at + to) else []) (order_shift at from to)
    ∙ ap (λ b. if not (nat_lt to from) && b && is_between text (at + to) then slice_range text (at + from) (at + to) else []) (between_drop text at from f)
    ∙ ap (λ b. if not (nat_lt to from) && is_between (drop at text) from && b then slice_range text (at + from) (at + to) else []) (between_drop text at to t)
    ∙ ap (λ xs. if not (nat_lt to from) && is_between (drop at text) from && is_between (drop at text) to then xs else []) (range_drop text at from to)
