-- What is seen of rows.
use Rattle.minus_text.specs.declared.view.RowsView.{RowsView}
use Rattle.minus_text.specs.FoundBy.{found_rows}
use Rattle.minus_text.specs.NextPushes.{document_behind, found_behind}
use Rattle.minus_text.specs.Searched.{Searched}

-- the document whose rows they are, and what was found in them
abbrev pub viewed : RowsView → Searched
viewed v =
    record { document = document_behind v.store.now v.next; found = found_behind (found_rows v.found.now) v.next }
