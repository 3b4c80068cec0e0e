-- A change that was put in its place.
use Rattle.std.proofs.Common.{◌≡◌, ℕ, ◌-◌, ◌++◌, List, length, take, drop, Bool, Option, None, Some, String, Box, Result, Ok, Err, OnOk, OnErr, Global, string_bytes, refl, sym, ap, ap₂, subst, ◌∙◌}
use Rattle.std.specs.Option.{option_map, unwrap_or}
use Rattle.regex.specs.Patterns.{Re}
use Rattle.minus_text.specs.declared.line_numbers.LineNumbers.{LineNumbers}
use Rattle.minus_text.specs.Document.{Document, rows_of}
use Rattle.minus_text.specs.Found.{RowMatches, found_above}
use Rattle.minus_text.specs.Finds.{finds}
use Rattle.minus_text.specs.Searched.{Searched, searched, IsFoundBy}
use Rattle.minus_text.proofs.FindsGoOnLaws.{found_goes_on}
use Rattle.minus_state.specs.declared.selection.SelectionEnds.{SelectionEnds}
use Rattle.minus_state.specs.declared.state.PagerState.{PagerState}
use Rattle.minus_state.specs.declared.change.Change.{Change}
use Rattle.minus_state.specs.declared.change.MessageChange.{MessageChange}
use Rattle.minus_state.specs.declared.state.help.HelpChange.{HelpChange}
use Rattle.minus_state.specs.declared.change.NextText.{NextText}
use Rattle.minus_state.specs.declared.change.NextText.TheVariants.{Same, Whole, Pushed, Found, SavedWhole, SavedMore}
use Rattle.minus_state.specs.Control.{Control, Saved, Settings, document_of}
use Rattle.minus_state.specs.SearchMark.{first_match, search_mark_anew}
use Rattle.minus_state.specs.ShownPrompt.{shown_in}
use Rattle.minus_state.specs.Page.{shown_of, all_shown, shown}
use Rattle.minus_state.specs.NextTexts.{next_document, next_found, next_term, aside_with, IsNext}
use Rattle.minus_state.specs.Changes.{IsChange, IsFormedFor, IsPlaced, Leads, as_is, shown_by, help_after, settings_after, prompt_after, shown_prompt}
use Rattle.minus_state.specs.declared.change.Redraw.{Redraw}
use Rattle.minus_state.specs.Aside.{aside_of}
use Rattle.minus_state.specs.OpenSearches.{OpenSearch, search_after}
use Rattle.minus_state.specs.declared.search.SearchMode.{SearchMode}
use Rattle.minus_state.specs.Sizes.{IsSize}
use Rattle.minus_state.specs.States.{control_of, settings_of, term_of, search_of, IsFormed}

same_control : (a b : Control) → a.text ≡ b.text → a.cols ≡ b.cols → a.rows ≡ b.rows → a.numbers ≡ b.numbers → a.wrapping ≡ b.wrapping → a.match_lines ≡ b.match_lines → a.carry_style ≡ b.carry_style → a.mark ≡ b.mark → a.left ≡ b.left → a.ends ≡ b.ends → a.term ≡ b.term → a.search_mark ≡ b.search_mark → a.settings ≡ b.settings → a.help ≡ b.help → a.mode ≡ b.mode → a.search ≡ b.search → a ≡ b
same_control a b t c r n w i v m l e p q s h d o =
    ap (λ (x : List ℕ). let k : Control = record a { text = x } in k) t
    ∙ ap (λ (x : ℕ). let k : Control = record a { text = b.text; cols = x } in k) c
    ∙ ap (λ (x : ℕ). let k : Control = record a { text = b.text; cols = b.cols; rows = x } in k) r
    ∙ ap (λ (x : LineNumbers). let k : Control = record a { text = b.text; cols = b.cols; rows = b.rows; numbers = x } in k) n
    ∙ ap (λ (x : Bool). let k : Control = record a { text = b.text; cols = b.cols; rows = b.rows; numbers = b.numbers; wrapping = x } in k) w
    ∙ ap (λ (x : Bool). let k : Control = record a { text = b.text; cols = b.cols; rows = b.rows; numbers = b.numbers; wrapping = b.wrapping; match_lines = x } in k) i
    ∙ ap (λ (x : Bool). let k : Control = record a { text = b.text; cols = b.cols; rows = b.rows; numbers = b.numbers; wrapping = b.wrapping; match_lines = b.match_lines; carry_style = x } in k) v
    ∙ ap (λ (x : ℕ). let k : Control = record b { mark = x; left = a.left; ends = a.ends; term = a.term; search_mark = a.search_mark; settings = a.settings; help = a.help; mode = a.mode; search = a.search } in k) m
    ∙ ap (λ (x : ℕ). let k : Control = record b { left = x; ends = a.ends; term = a.term; search_mark = a.search_mark; settings = a.settings; help = a.help; mode = a.mode; search = a.search } in k) l
    ∙ ap (λ (x : SelectionEnds). let k : Control = record b { ends = x; term = a.term; search_mark = a.search_mark; settings = a.settings; help = a.help; mode = a.mode; search = a.search } in k) e
    ∙ ap (λ (x : Option Re). let k : Control = record b { term = x; search_mark = a.search_mark; settings = a.settings; help = a.help; mode = a.mode; search = a.search } in k) p
    ∙ ap (λ (x : ℕ). let k : Control = record b { search_mark = x; settings = a.settings; help = a.help; mode = a.mode; search = a.search } in k) q
    ∙ ap (λ (x : Settings). let k : Control = record b { settings = x; help = a.help; mode = a.mode; search = a.search } in k) s
    ∙ ap (λ (x : Option Saved). let k : Control = record b { help = x; mode = a.mode; search = a.search } in k) h
    ∙ ap (λ (x : SearchMode). let k : Control = record b { mode = x; search = a.search } in k) d
    ∙ ap (λ (x : Option OpenSearch). let k : Control = record b { search = x } in k) o

pub same_settings : (a b : Settings) → a.prompt ≡ b.prompt → a.message ≡ b.message → a.prefix ≡ b.prefix → a.is_shown ≡ b.is_shown → a.follow ≡ b.follow → a ≡ b
same_settings a b p m t s f =
    ap (λ (x : List ℕ). let k : Settings = record a { prompt = x } in k) p
    ∙ ap (λ (x : Option (List ℕ)). let k : Settings = record a { prompt = b.prompt; message = x } in k) m
    ∙ ap (λ (x : List ℕ). let k : Settings = record a { prompt = b.prompt; message = b.message; prefix = x } in k) t
    ∙ ap (λ (x : Bool). let k : Settings = record b { is_shown = x; follow = a.follow } in k) s
    ∙ ap (λ (x : Bool). let k : Settings = record b { follow = x } in k) f

-- what is kept as found in the rows that there will be is what the term finds in them
pub found_next : (term : Option Re) (s : Searched) (text : NextText) → IsNext term s text → next_found s.found text ≡ finds term (next_document s.document text)
found_next term s Same h = h.1.0
found_next term s (Whole screen) h = h.1.0
found_next term s (Pushed text pending) h =
    let (old, fresh) = h.1.0 in
    ap₂ (λ (kept formed : List RowMatches). found_above pending.value.push.kept_rows kept ++ formed) old fresh
    ∙ found_goes_on term s.document (string_bytes text) pending.value.push.numbers pending.value.push.cols pending.value.push h.0 h.1.1
found_next term s (Found pattern findings) h = h.1.0
found_next term s (SavedWhole text) h = h.1.0
found_next term s (SavedMore text) h = h.1.0

-- what was formed of the text that a change leads to
pub document_next : (s : PagerState) (change : Change) (new : Control) → IsFormed s → IsChange (control_of s) change new → next_document s.screen.document change.text ≡ document_of new
document_next s change new f h = ap (λ (x : Searched). next_document x.document change.text) f.screen ∙ h.document

-- a change of a formed state was formed for it
pub formed_for : (s : PagerState) (change : Change) (new : Control) → IsFormed s → IsChange (control_of s) change new → IsFormedFor s change
formed_for s change new f h =
    subst (λ (t : Option Re). IsNext t s.screen change.text) (sym h.term_is) (subst (λ (x : Searched). IsNext new.term x change.text) (sym f.screen) h.belongs)

-- what is found then
found_led : (s : PagerState) (change : Change) (new : Control) → IsFormed s → IsChange (control_of s) change new → next_found s.screen.found change.text ≡ finds new.term (document_of new)
found_led s change new f h =
    found_next (next_term (term_of s) change.text) s.screen change.text (formed_for s change new f h)
    ∙ ap₂ finds h.term_is (document_next s change new f h)

-- the rows are what the term finds in them, where the change was formed for the state
pub screen_placed : (s t : PagerState) (change : Change) → IsFormedFor s change → IsPlaced s change t → t.screen ≡ searched (next_term (term_of s) change.text) (next_document s.screen.document change.text)
screen_placed s t change next p =
    let term : Option Re = next_term (term_of s) change.text in
    let found = p.found next.1.0 ∙ ap (finds term) p.document in
    ap₂ (λ (d : Document) (fs : List RowMatches). let x : Searched = record { document = d; found = fs } in x) p.document found

-- the state holds the control that the change leads to
pub placed : (s t : PagerState) (change : Change) (new : Control) → IsFormed s → IsChange (control_of s) change new → IsPlaced s change t → control_of t ≡ new
placed s t change new f h p =
    let next = document_next s change new f h in
    let document : t.screen.document ≡ document_of new = p.document ∙ next in
    same_control (control_of t) new (ap (λ (d : Document). d.text) document) (p.cols ∙ h.cols_are) (p.rows ∙ h.rows_are) (p.numbers ∙ ap (λ (d : Document). d.layout.numbers) next) (ap (λ (d : Document). d.layout.wrapping) document) (ap (λ (d : Document). d.layout.match_lines) document) (ap (λ (d : Document). d.layout.carry_style) document) (p.mark ∙ h.mark_is) (p.left ∙ h.left_is) (p.ends ∙ h.ends_are) (p.term ∙ h.term_is) (p.search_mark ∙ h.search_mark_is) (p.settings ∙ h.settings_are) (p.help ∙ h.help_is) (p.search_mode ∙ h.mode_is) (p.search ∙ h.search_is)

-- and it is formed
pub formed_placed : (s t : PagerState) (change : Change) (new : Control) → IsFormed s → IsChange (control_of s) change new → IsPlaced s change t → IsFormed t
formed_placed s t change new f h p = record {
  screen = screen_placed s t change (formed_for s change new f h) p ∙ ap₂ searched h.term_is (document_next s change new f h) ∙ sym (ap (λ (c : Control). searched c.term (document_of c)) (placed s t change new f h p));
  mode = p.mode;
}

-- a state that keeps its control, its rows and the direction that it tells is formed as before
pub formed_kept : (s t : PagerState) → control_of t ≡ control_of s → t.screen ≡ s.screen → t.search_mode ≡ s.search_mode → IsFormed s → IsFormed t
formed_kept s t same kept mode f = record {
  screen = kept ∙ f.screen ∙ sym (ap (λ (c : Control). searched c.term (document_of c)) same);
  mode = mode ∙ f.mode ∙ sym (ap (λ (c : Control). c.mode) same);
}

-- whatever came of a change that was put in its place, the state is formed
pub formed_after : {E : Type 0} (r : Result (Unit {0}) E) (s t : PagerState) (change : Change) (new : Control) → OnOk r ((to : Control) → IsFormed s → IsChange (control_of s) change to → IsFormed t) → OnErr r (IsFormed s → IsFormed t) → (IsFormed s → IsChange (control_of s) change new) → IsFormed s → IsFormed t
formed_after (Ok x) s t change new placed still leads f = placed new f (leads f)
formed_after (Err e) s t change new placed still leads f = still f

-- a change to a text that was formed again, under the term as it is
pub change_anew : (s : PagerState) (change : Change) (next : Box Searched Global) (d : Document) (new : Control) → change.text ≡ Whole next → next.value ≡ searched (term_of s) d → d ≡ document_of new → change.mark ≡ new.mark → change.cols ≡ new.cols → change.rows ≡ new.rows → change.left ≡ new.left → change.ends ≡ new.ends → term_of s ≡ new.term → change.search_mark ≡ new.search_mark
    → settings_after (settings_of s) change ≡ new.settings → help_after change.help (aside_of s.saved) ≡ new.help → change.mode ≡ new.mode → search_after change.search (search_of s) ≡ new.search → IsChange (control_of s) change new
change_anew s change next d new is formed same m c r l e t n q h y z = record {
  belongs = rw is (tt, (subst (λ (x : Option Re). IsFoundBy x next.value) t (subst (λ (x : Searched). IsFoundBy (term_of s) x) (sym formed) refl), tt));
  document = ap (λ (n : NextText). next_document (document_of (control_of s)) n) is ∙ ap (λ (x : Searched). x.document) formed ∙ same;
  mark_is = m;
  cols_are = c;
  rows_are = r;
  left_is = l;
  ends_are = e;
  term_is = ap (λ (n : NextText). next_term (term_of s) n) is ∙ t;
  search_mark_is = n;
  settings_are = q;
  help_is = ap (λ (n : NextText). help_after change.help (aside_with n (aside_of s.saved))) is ∙ h;
  mode_is = y;
  search_is = z;
}

-- the rows of text on the page that a change leads to
pub shown_is : (s : PagerState) (change : Change) (new : Control) → IsFormed s → IsChange (control_of s) change new → shown_by s change ≡ shown new
shown_is s change new f h =
    ap (λ (t : Option Re). take (change.rows - 1) (drop change.mark (shown_of t (next_document s.screen.document change.text) change.left change.ends))) h.term_is
    ∙ ap (λ (d : Document). take (change.rows - 1) (drop change.mark (shown_of new.term d change.left change.ends))) (document_next s change new f h)
    ∙ ap (λ (l : ℕ). take (change.rows - 1) (drop change.mark (shown_of new.term (document_of new) l change.ends))) h.left_is
    ∙ ap (λ (e : SelectionEnds). take (change.rows - 1) (drop change.mark (shown_of new.term (document_of new) new.left e))) h.ends_are
    ∙ ap (λ (n : ℕ). take (n - 1) (drop change.mark (all_shown new))) h.rows_are
    ∙ ap (λ (m : ℕ). take (new.rows - 1) (drop m (all_shown new))) h.mark_is

-- a change that changes nothing
pub unchanged : (s : PagerState) (change : Change) (redraw : Redraw) → change ≡ as_is s redraw → IsChange (control_of s) change (control_of s)
unchanged s change redraw is = subst (λ (c : Change). IsChange (control_of s) c (control_of s)) (sym is) (record {
  belongs = (tt, (refl, tt));
  document = refl;
  mark_is = refl;
  cols_are = refl;
  rows_are = refl;
  left_is = refl;
  ends_are = refl;
  term_is = refl;
  search_mark_is = refl;
  settings_are = refl;
  help_is = refl;
  mode_is = refl;
  search_is = refl;
})

-- a change that was formed, at another mark
pub at_mark : (old : Control) (change : Change) (new : Control) (mark : ℕ) (sized : IsSize change.cols change.rows) → IsChange old change new → IsChange old (record change { mark = mark; sized = sized }) (record new { mark = mark })
at_mark old change new mark sized h = record {
  belongs = h.belongs;
  document = h.document;
  mark_is = refl;
  cols_are = h.cols_are;
  rows_are = h.rows_are;
  left_is = h.left_is;
  ends_are = h.ends_are;
  term_is = h.term_is;
  search_mark_is = h.search_mark_is;
  settings_are = h.settings_are;
  help_is = h.help_is;
  mode_is = h.mode_is;
  search_is = h.search_is;
}

-- a change that was formed, with other values beside its text
pub beside_anew : (old : Control) (formed : Change) (middle : Control) (left : ℕ) (settings : Settings) (aside : Option Saved) (follow : Bool) (prompt : Option (String Global)) (message : MessageChange) (help : HelpChange) (sized : IsSize formed.cols formed.rows) → IsChange old formed middle
    → (let change : Change = record formed { left = left; follow = follow; prompt = prompt; message = message; help = help; sized = sized } in settings_after old.settings change ≡ settings)
    → help_after help (aside_with formed.text old.help) ≡ aside
    → (let change : Change = record formed { left = left; follow = follow; prompt = prompt; message = message; help = help; sized = sized } in IsChange old change (record middle { left = left; settings = settings; help = aside }))
beside_anew old formed middle left settings aside follow prompt message help sized h set put = record {
  belongs = h.belongs;
  document = h.document;
  mark_is = h.mark_is;
  cols_are = h.cols_are;
  rows_are = h.rows_are;
  left_is = refl;
  ends_are = h.ends_are;
  term_is = h.term_is;
  search_mark_is = h.search_mark_is;
  settings_are = set;
  help_is = put;
  mode_is = h.mode_is;
  search_is = h.search_is;
}

-- the typed prefix after another one was typed, or it stayed
pub typed_after : (prefix : Option (String Global)) (typed : String Global) → string_bytes (unwrap_or prefix typed) ≡ unwrap_or (option_map string_bytes prefix) (string_bytes typed)
typed_after None typed = refl
typed_after (Some next) typed = refl

-- the search mark of rows that were formed again
pub search_mark_of : (s : PagerState) (seen next : Searched) (d e : Document) (mark : ℕ) {result : ℕ} → result ≡ first_match seen.found mark → seen ≡ next → next ≡ searched (term_of s) d → d ≡ e → result ≡ search_mark_anew (term_of s) e mark
search_mark_of s seen next d e mark is view formed same =
    is ∙ ap (λ (x : Searched). first_match x.found mark) (view ∙ formed) ∙ ap (λ (x : Document). search_mark_anew (term_of s) x mark) same

-- what the prompt row is formed of after a change, and before it
pub prompt_next : (s : PagerState) (change : Change) (new : Control) → IsFormed s → IsChange (control_of s) change new
    → prompt_after s change ≡ shown_in new.cols new.settings new.match_lines (finds new.term (document_of new)) new.search_mark
prompt_next s change new f h =
    let in_lines : Bool = (next_document s.screen.document change.text).layout.match_lines in
    let found : List RowMatches = next_found s.screen.found change.text in
    ap (λ (n : ℕ). shown_in n (settings_after (settings_of s) change) in_lines found change.search_mark) h.cols_are
    ∙ ap (λ (q : Settings). shown_in new.cols q in_lines found change.search_mark) h.settings_are
    ∙ ap (λ (d : Document). shown_in new.cols new.settings d.layout.match_lines found change.search_mark) (document_next s change new f h)
    ∙ ap₂ (λ (fs : List RowMatches) (n : ℕ). shown_in new.cols new.settings new.match_lines fs n) (found_led s change new f h) h.search_mark_is

pub prompt_now : (s : PagerState) → IsFormed s → shown_prompt s ≡ (let c : Control = control_of s in shown_in c.cols c.settings c.match_lines (finds c.term (document_of c)) c.search_mark)
prompt_now s f =
    let c : Control = control_of s in
    ap (λ (x : Searched). shown_in c.cols c.settings x.document.layout.match_lines x.found c.search_mark) f.screen

-- a change that changes nothing leaves what the prompt row is formed of
pub prompt_stays : (s : PagerState) (change : Change) (redraw : Redraw) → change ≡ as_is s redraw → prompt_after s change ≡ shown_prompt s
prompt_stays s change redraw is = ap (prompt_after s) is

-- a change that leads to a control leads to what that equals
pub leads_to : (s : PagerState) (change : Change) (a b : Control) → a ≡ b → Leads s change a → Leads s change b
leads_to s change a b e h f = subst (λ (c : Control). IsChange (control_of s) change c) e (h f)
