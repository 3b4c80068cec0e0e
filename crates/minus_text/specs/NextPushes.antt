-- A push that is not made yet, beside the text that it goes on.
use Rattle.std.specs.Prelude.{ℕ, List, ◌++◌, Option, None, Some}
use Rattle.std.specs.Coded.{le_prop, Coded-set, coded_list, coded_ℕ}
use Rattle.minus_text.specs.contracts.line_numbers.LineNumbers as line_numbers
use Rattle.minus_text.specs.contracts.layout.Wrap as wrap
use Rattle.minus_text.specs.declared.layout.Wrap.{Wrap}
use Rattle.minus_text.specs.declared.line_numbers.LineNumbers.{LineNumbers}
use Rattle.minus_text.specs.declared.view.NextPush.{NextPush}
use Rattle.minus_text.specs.Document.{Document, pushed}
use Rattle.minus_text.specs.Pending.{Pending, IsPending}
use Rattle.minus_text.specs.PushedPlaces.{PlacesGoOn-prop}
use Rattle.minus_text.specs.Found.{RowMatches, found_above}

-- the document that it would leave
abbrev pub document_behind : Document → Option NextPush → Document
document_behind d None = d
document_behind d (Some next) = pushed d next.text.now next.pending.now.push.numbers next.pending.now.push.cols

-- what would be found in that: what was found in the rows that stay, and what was found in those that it forms
abbrev pub found_behind : List RowMatches → Option NextPush → List RowMatches
found_behind found None = found
found_behind found (Some next) = found_above next.pending.now.push.kept_rows found ++ next.pending.now.found

-- what was formed for it is what it would form
abbrev pub IsPendingBehind : Document → Option NextPush → Type 0
IsPendingBehind d None = Unit {0}
IsPendingBehind d (Some next) =
    IsPending d next.text.now next.pending.now.push.numbers next.pending.now.push.cols next.pending.now.push

-- each of these is a fact
rows_set : IsSet (List (List ℕ))
rows_set = Coded-set (coded_list (coded_list coded_ℕ))

entries_set : IsSet (List ℕ)
entries_set = Coded-set (coded_list coded_ℕ)

number_set : IsSet ℕ
number_set = Coded-set coded_ℕ

numbers_set : IsSet LineNumbers
numbers_set = Coded-set line_numbers.the_row.coded

wraps_set : IsSet Wrap
wraps_set = Coded-set wrap.the_row.coded

IsPending-prop : (d : Document) (piece : List ℕ) (numbers : LineNumbers) (cols : ℕ) (p : Pending) → IsProp
    (IsPending d piece numbers cols p)
IsPending-prop d piece numbers cols p =
    hlevel (le_prop, PlacesGoOn-prop, rows_set, entries_set, number_set, numbers_set, wraps_set)

pub IsPendingBehind-prop : (d : Document) (next : Option NextPush) → IsProp (IsPendingBehind d next)
IsPendingBehind-prop d None = hlevel
IsPendingBehind-prop d (Some next) =
    IsPending-prop d next.text.now next.pending.now.push.numbers next.pending.now.push.cols next.pending.now.push
