-- The queries that were taken, and where among them the reader of a search prompt is.
use Rattle.std.specs.Prelude.{ℕ, ◌≡◌, ◌+◌, ◌-◌, ◌<◌, ◌==◌, ◌||◌, Bool, false, List, [], ◌∷◌, ◌++◌, Option, Some, None}
use Rattle.std.specs.Prelude.{length, nat_lt, slice_get, bytes_eq, if◌then◌else◌}

-- the queries, oldest first; how many of them, from the newest on, the reader has gone back; what they had typed before
pub record Queries : Type 0 where
  pub taken : List (List ℕ)
  pub back : ℕ
  pub typed : List ℕ

-- none was taken yet
abbrev pub no_queries : Queries
no_queries = record { taken = []; back = 0; typed = [] }

-- the query that is this number of steps back, the newest one at 1
abbrev pub query_back : List (List ℕ) → ℕ → Option (List ℕ)
query_back taken back = slice_get taken (length taken - back)

-- a query, or this one where there is none
abbrev pub query_or : List ℕ → Option (List ℕ) → List ℕ
query_or otherwise None = otherwise
query_or otherwise (Some query) = query

-- what the prompt is to show: what was typed where the reader has gone back by none
abbrev pub shown_query : Queries → List ℕ
shown_query h = if h.back == 0 then h.typed else query_or h.typed (query_back h.taken h.back)

-- whether there is an older query than the one that the prompt shows
abbrev pub has_older : Queries → Bool
has_older h = nat_lt h.back (length h.taken)

-- whether the reader has gone back, so that a newer query, or what was typed, can be shown again
abbrev pub has_newer : Queries → Bool
has_newer h = nat_lt 0 h.back

-- a step back, with this in the prompt: from what was typed on, that is kept
abbrev pub older : Queries → List ℕ → Queries
older h query =
    if has_older h then record h { back = h.back + 1; typed = if h.back == 0 then query else h.typed } else h

-- a step on
abbrev pub newer : Queries → Queries
newer h = record h { back = h.back - 1 }

-- a prompt has opened: the reader is where nothing is typed
abbrev pub begun : Queries → Queries
begun h = record h { back = 0; typed = [] }

-- whether there is a query, and it has these bytes
abbrev pub is_query : List ℕ → Option (List ℕ) → Bool
is_query query None = false
is_query query (Some other) = bytes_eq other query

-- whether the query is the one that was taken last
abbrev pub is_newest : Queries → List ℕ → Bool
is_newest h query = is_query query (query_back h.taken 1)

-- a query was taken: it is the newest one, but an empty one is not kept, nor one that is the newest already
abbrev pub with_taken : Queries → List ℕ → Queries
with_taken h query =
    if (length query == 0) || is_newest h query then h else record h { taken = h.taken ++ query ∷ [] }

-- a step back from what was typed shows the query that was taken last, and a step on from there what was typed
abbrev pub StepsLeadBack : Type 0
StepsLeadBack =
    (h : Queries) (query typed : List ℕ) → 0 < length query → h.back ≡ 0
    → (shown_query (older (with_taken h query) typed) ≡ query)
    × (shown_query (newer (older (with_taken h query) typed)) ≡ typed)
