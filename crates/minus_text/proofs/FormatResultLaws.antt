-- What the result of a push tells.
use Rattle.std.proofs.Common.{◌≡◌, ℕ, ◌+◌, ◌-◌, ◌≤◌, Bool, true, eqb, cond, Option, None, List, [], ◌++◌, length, refl, sym, subst, ap, ◌∙◌, arith, inl, inr}
use Rattle.std.specs.List.{sum_by}
use Rattle.std.specs.Str.Lines.{lines}
use Rattle.std.specs.BTreeSet.{BTreeSet}
use Rattle.regex.specs.Patterns.{Re}
use Rattle.std.proofs.lemmas.Bool.{cases_Bool, eqb-true, eq-eqb}
use Rattle.std.proofs.lemmas.Bool.Decides.{nat_tests}
use Rattle.std.proofs.lemmas.List.{length-drop}
use Rattle.minus_text.specs.declared.rows.Span.{Span}
use Rattle.minus_text.specs.declared.formed.Finished.{Finished}
use Rattle.minus_text.specs.declared.formed.Border.{Border}
use Rattle.minus_text.specs.declared.formed.Restart.{Restart}
use Rattle.minus_text.specs.declared.formed.Formed.{Formed}
use Rattle.minus_text.specs.declared.screen.FormatResult.{FormatResult}
use Rattle.minus_text.specs.declared.line_numbers.LineNumbers.{LineNumbers}
use Rattle.minus_text.specs.Lines.{cut, unfinished_line}
use Rattle.minus_text.specs.declared.formed.Plan.{Plan}
use Rattle.minus_text.specs.declared.layout.Wrap.{Wrap}
use Rattle.minus_text.specs.Document.{Document, rows_of_lines, first_rows, open_rows, longest_of, wrap_in, pushed, plan_of, first_formed}
use Rattle.minus_text.specs.Fragments.{Fragment, rows_in}
use Rattle.minus_text.specs.Found.{RowMatches, found_from, jump_rows}
use Rattle.minus_text.specs.Finds.{found_in, finds, whole}
use Rattle.minus_text.specs.Kept.{bytes_of, IsFormOf, IsFormed, IsRestartOf, line_going_on, piece_behind}
use Rattle.minus_text.specs.Searched.{Searched, IsFoundBy}
use Rattle.minus_text.specs.FormatResults.{Tells, TellsWith, TellsAll, TellsPush, TellsFound, formed_by, is_clean}
use Rattle.minus_text.proofs.LinesLaws.{open_at}
use Rattle.minus_text.proofs.PendingLaws.{first_is}
use Rattle.minus_text.proofs.FindsGoOnLaws.{formed_from, in_document, in_fragment}
use Rattle.minus_text.proofs.DocumentLaws.{length-first_rows}
use Rattle.minus_text.proofs.ScreenLaws.{form-unfinished, from_start}

-- the text that a push forms
joined_is : (text piece : List ℕ) (plan : Plan) → (formed_by text piece plan).text ≡ line_going_on text plan ++ piece_behind text plan piece
joined_is text piece plan = elim (cases_Bool plan.keeps) [ inl t ↦ rw t refl | inr f ↦ rw f refl ]

-- a part is the whole just where nothing is left
pub same_part : (a b c : ℕ) → a + b ≡ c → eqb a c ≡ eqb b 0
same_part a b c e = elim (cases_Bool (eqb b 0)) [
  | inl t ↦ let z : b ≡ 0 = eqb-true b 0 t in rw t (eq-eqb a c (omega arith))
  | inr f ↦ grind (arith, nat_tests)
]

-- the finished lines take all of a text just where nothing follows the last newline
pub clean_is : (text : List ℕ) (wrap : Wrap) (rows : List Span) (firsts : List ℕ) (finished : Finished) (n : ℕ) (b : Border) (plan : Plan) → IsFormed text wrap rows firsts finished n b
    → cond plan.keeps (eqb finished.bytes (length text)) true ≡ is_clean text plan
clean_is text wrap rows firsts finished n b plan h =
    let o = open_at text in
    let byte : finished.bytes ≡ sum_by bytes_of (cut text).closed = omega (arith, h.its_finish.by_bytes) in
    let within : sum_by bytes_of (cut text).closed ≤ length text = o.within in
    let left : length text - sum_by bytes_of (cut text).closed ≡ length (unfinished_line text) = sym (length-drop (sum_by bytes_of (cut text).closed) text) ∙ ap length o.rest in
    ap (λ b. cond plan.keeps b true) (same_part finished.bytes (length (unfinished_line text)) (length text) (omega arith))

-- what a push that formed this tells
pub tells_push : (text piece : List ℕ) (wrap : Wrap) (rows : List Span) (firsts : List ℕ) (finished : Finished) (n : ℕ) (b : Border) (start : Restart) (f : Formed) (r : FormatResult) (d : Document) (plan : Plan)
    → text ≡ d.text → IsFormed text wrap rows firsts finished n b → (plan.keeps ≡ true → plan.wrap ≡ wrap_in d) → IsRestartOf d.text plan start → IsFormOf plan.wrap (line_going_on d.text plan) (piece_behind d.text plan piece) start f
    → r.lines_formatted ≡ length f.first_rows → r.rows_formatted ≡ start.rows + length f.rows.items → r.num_unterminated ≡ (start.finished.rows + (start.rows + length f.rows.items)) - f.finished.rows → r.append_search_idx.keys ≡ [] → r.lines_to_row_map ≡ f.first_rows → r.max_line_length ≡ f.longest
    → r.clean_append ≡ cond plan.keeps (eqb finished.bytes (length text)) true
    → Tells r None d.layout.match_lines (formed_by d.text piece plan) (first_formed d plan) (is_clean d.text plan)
unfolding rows_in
tells_push text piece wrap rows firsts finished n b start f r d plan v h w k is el er eu es em ew ec =
    let joined : List ℕ = line_going_on d.text plan ++ piece_behind d.text plan piece in
    let ej : joined ≡ (formed_by d.text piece plan).text = sym (joined_is d.text piece plan) in
    record {
      lines_told = el ∙ ap length is.its_map ∙ length-first_rows plan.wrap start.finished.rows (lines joined) ∙ ap (λ t. length (lines t)) ej;
      rows_told = er ∙ sym is.its_count ∙ ap (λ t. length (rows_of_lines plan.wrap (lines t))) ej;
      unfinished_told = eu ∙ (form-unfinished plan.wrap (line_going_on d.text plan) (piece_behind d.text plan piece) start f is).1 ∙ ap (λ t. length (open_rows plan.wrap (unfinished_line t))) ej;
      matches_told = es;
      map_told = em ∙ is.its_map ∙ ap (λ t. first_rows plan.wrap start.finished.rows (lines t)) ej ∙ ap (λ m. first_rows plan.wrap m (lines (formed_by d.text piece plan).text)) (first_is d plan start w k);
      longest_told = ew ∙ is.its_longest ∙ ap (λ t. longest_of (lines t)) ej;
      clean_told = ec ∙ clean_is text wrap rows firsts finished n b plan h ∙ ap (λ t. is_clean t plan) v;
    }

-- what forming a whole text tells
pub tells_whole : (text : List ℕ) (wrap : Wrap) (f : Formed) (r : FormatResult) → IsFormOf wrap [] text from_start f → r.lines_formatted ≡ length f.first_rows → r.rows_formatted ≡ length f.rows.items → r.num_unterminated ≡ length f.rows.items - f.finished.rows
    → r.append_search_idx.keys ≡ [] → r.lines_to_row_map ≡ f.first_rows → r.max_line_length ≡ f.longest → r.clean_append ≡ true → (by_lines : Bool) → Tells r None by_lines (record { text = text; wrap = wrap }) 0 true
unfolding rows_in
tells_whole text wrap f r is el er eu es em ew ec by_lines = record {
  lines_told = el ∙ ap length is.its_map ∙ length-first_rows wrap 0 (lines text);
  rows_told = omega (arith, er, is.its_count);
  unfinished_told = omega (arith, eu, (form-unfinished wrap [] text from_start f is).1);
  matches_told = es;
  map_told = em ∙ is.its_map;
  longest_told = ew ∙ is.its_longest;
  clean_told = ec;
}

-- ---- the rows that match

-- what tells no row that matches, with some told
pub tells_matches : (r : FormatResult) (rows : BTreeSet ℕ) (by_lines : Bool) (formed : Fragment) (n : ℕ) (clean : Bool) → Tells r None by_lines formed n clean → TellsWith (record r { append_search_idx = rows }) rows.keys formed n clean
tells_matches r rows by_lines formed n clean h = record {
  lines_told = h.lines_told;
  rows_told = h.rows_told;
  unfinished_told = h.unfinished_told;
  matches_told = refl;
  map_told = h.map_told;
  longest_told = h.longest_told;
  clean_told = h.clean_told;
}

-- the rows told are those that are kept as found
pub tells_found : (r told : FormatResult) (rows : BTreeSet ℕ) (n : ℕ) (found : List RowMatches) (d : Document) (piece : List ℕ) (numbers : LineNumbers) (cols : ℕ) → r ≡ record told { append_search_idx = rows } → rows.keys ≡ jump_rows (found_from n found)
    → n ≡ first_formed d (plan_of d piece numbers cols) → TellsPush told None d piece numbers cols → TellsFound r found d piece numbers cols
tells_found r told rows n found d piece numbers cols is keys at h =
    let plan = plan_of d piece numbers cols in
    let f : Fragment = formed_by d.text piece plan in
    let m : ℕ = first_formed d plan in
    let clean : Bool = is_clean d.text plan in
    subst (λ x. TellsWith x (jump_rows (found_from m found)) f m clean) (sym is)
    (subst (λ ks. TellsWith (record told { append_search_idx = rows }) ks f m clean) (keys ∙ ap (λ k. jump_rows (found_from k found)) at) (tells_matches told rows d.layout.match_lines f m clean h))

-- what is reported of all rows, formed again
pub tells_formed : (r told : FormatResult) (rows : BTreeSet ℕ) (term : Option Re) (found : List RowMatches) (d e : Document) → r ≡ record told { append_search_idx = rows } → rows.keys ≡ jump_rows found
    → found ≡ finds term d → d ≡ e → TellsAll told None e → TellsAll r term e
tells_formed r told rows term found d e is keys by same h =
    let all : rows.keys ≡ jump_rows (found_in term e.layout.match_lines 0 (whole e)) = keys ∙ ap jump_rows (by ∙ ap (finds term) same ∙ in_document term e ∙ sym (in_fragment term e.layout.match_lines 0 (whole e))) in
    subst (λ x. TellsWith x (jump_rows (found_in term e.layout.match_lines 0 (whole e))) (whole e) 0 true) (sym is)
    (subst (λ ks. TellsWith (record told { append_search_idx = rows }) ks (whole e) 0 true) all (tells_matches told rows e.layout.match_lines (whole e) 0 true h))

-- what is kept as found is what a term finds, and so is what is told
pub tells_pushed : (r : FormatResult) (term : Option Re) (s : Searched) (d : Document) (piece : List ℕ) (numbers : LineNumbers) (cols : ℕ) → IsFoundBy term s → s.document ≡ pushed d piece numbers cols
    → TellsFound r s.found d piece numbers cols → TellsPush r term d piece numbers cols
tells_pushed r term s d piece numbers cols is left h =
    let plan = plan_of d piece numbers cols in
    let same : found_from (first_formed d plan) s.found ≡ found_in term d.layout.match_lines (first_formed d plan) (formed_by d.text piece plan) =
    ap (found_from (first_formed d plan)) (is ∙ ap (finds term) left) ∙ formed_from term d piece numbers cols in
    subst (λ l. TellsWith r (jump_rows l) (formed_by d.text piece plan) (first_formed d plan) (is_clean d.text plan)) same h

-- where nothing is kept as found, none is told
pub tells_none : (r : FormatResult) (found : List RowMatches) (d : Document) (piece : List ℕ) (numbers : LineNumbers) (cols : ℕ) → found ≡ [] → TellsPush r None d piece numbers cols → TellsFound r found d piece numbers cols
tells_none r found d piece numbers cols is h =
    let plan = plan_of d piece numbers cols in
    subst (λ l. TellsWith r (jump_rows (found_from (first_formed d plan) l)) (formed_by d.text piece plan) (first_formed d plan) (is_clean d.text plan)) (sym is) h
