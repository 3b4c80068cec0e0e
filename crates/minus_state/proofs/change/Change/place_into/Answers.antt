-- The values are put in their places, one after another.
use Rattle.std.proofs.Common.{ap, ◌∙◌, refl}
use Rattle.minus_text.specs.Document.{Document}
use Rattle.minus_text.specs.declared.layout.Layout.{Layout}
use Rattle.minus_state.specs.Changes.{settings_after, help_after}
use Rattle.minus_state.specs.Control.{Settings}
use Rattle.minus_state.specs.OpenSearches.{search_after}
use Rattle.minus_state.specs.declared.change.Change.{Change}
use Rattle.minus_state.specs.declared.state.PagerState.{PagerState}
use Rattle.minus_state.proofs.ChangeLaws.{same_settings}
use Rattle.minus_state.proofs.change.Change.place_into.Goals as goal

pub returns-clause-placed : goal.returns-clause-placed
returns-clause-placed c =
    let text = c.in_ok-place_text.ensures in
    let middle : PagerState = c.place_text.new.self in
    let change : Change = c.args.self in
    record {
      document = text.document;
      found = text.found;
      numbers = ap (λ (l : Layout). l.numbers) c.layout.ensures ∙ ap (λ (d : Document). d.layout.numbers) text.document;
      mark = refl;
      left = refl;
      ends = refl;
      term = text.term;
      search_mark = refl;
      mode = refl;
      search_mode = refl;
      cols = refl;
      rows = refl;
      settings = same_settings _ _ c.put_text-2.ensures c.put.ensures c.put_text.ensures refl refl ∙ ap (λ (s : Settings). settings_after s change) text.beside.settings;
      help = c.put-2.ensures ∙ ap (help_after change.help) text.aside;
      search = c.put-3.ensures ∙ ap (search_after change.search) text.beside.search;
    }
