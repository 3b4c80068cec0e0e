-- Laws of the queries that were taken.
use Rattle.std.proofs.Common.{ℕ, ◌≡◌, ◌<◌, ◌-◌, ◌+◌, Bool, true, false, List, [], ◌∷◌, ◌++◌, Option, Some, None, length, slice_get, refl, ap, ◌∙◌, arith}
use Rattle.std.proofs.lemmas.Option.{slice_get_within, slice_get-get_or}
use Rattle.std.proofs.lemmas.List.{length-append}
use Rattle.std.proofs.lemmas.Slice.Eq.{bytes_eq-Decides}
use Rattle.std.proofs.Math.Seq.{get_or-append_seam}
use Rattle.minus_view.specs.History.{Queries, shown_query, older, newer, with_taken, query_back, is_query, is_newest, StepsLeadBack}

-- with a newest query, a step back shows it, and a step on from there what was typed
steps : (h : Queries) (query typed : List ℕ) → h.back ≡ 0 → query_back h.taken 1 ≡ Some query
    → (shown_query (older h typed) ≡ query) × (shown_query (newer (older h typed)) ≡ typed)
steps h query typed none newest =
    let within : length h.taken - 1 < length h.taken = slice_get_within h.taken (length h.taken - 1) query newest in
    grind (arith, none, newest, within)

-- the newest query is the one that was added last
added : (taken : List (List ℕ)) (query : List ℕ) → query_back (taken ++ query ∷ []) 1 ≡ Some query
added taken query =
    let count : length (taken ++ query ∷ []) ≡ length taken + 1 = length-append taken (query ∷ []) in
    let last : length (taken ++ query ∷ []) - 1 ≡ length taken = omega arith in
    ap (slice_get (taken ++ query ∷ [])) last
    ∙ slice_get-get_or (taken ++ query ∷ []) (length taken) [] (omega arith)
    ∙ ap Some (get_or-append_seam taken query [] [])

-- a query that is the newest one is that one
same : (query : List ℕ) (newest : Option (List ℕ)) → is_query query newest ≡ true → newest ≡ Some query
same query None is = cc
same query (Some other) is = ap Some ((bytes_eq-Decides other query).0 is)

-- the newest query is the one that was taken last
taken_last : (h : Queries) (query : List ℕ) → 0 < length query → (b : Bool) → is_newest h query ≡ b
    → query_back (with_taken h query).taken 1 ≡ Some query
taken_last h query some true is =
    let newest : query_back h.taken 1 ≡ Some query = same query (query_back h.taken 1) is in
    grind (arith, some, is, newest)
taken_last h query some false is =
    let newest : query_back (h.taken ++ query ∷ []) 1 ≡ Some query = added h.taken query in
    grind (arith, some, is, newest)

-- the reader stays where they are
back_stays : (h : Queries) (query : List ℕ) → h.back ≡ 0 → (with_taken h query).back ≡ 0
back_stays h query none = grind (arith, none)

pub steps_back : StepsLeadBack
steps_back h query typed some none =
    steps (with_taken h query) query typed (back_stays h query none) (taken_last h query some (is_newest h query) refl)
