-- What is formed goes behind what is kept.
use Rattle.std.proofs.Common.{true, cond, eqb, ◌≡◌, ℕ, ◌+◌, ◌++◌, List, length, take, max, refl, sym, subst, ap, arith, ◌∙◌}
use Rattle.std.specs.Str.Lines.{lines}
use Rattle.std.specs.String.{string_bytes}
use Rattle.std.proofs.lemmas.Str.{IsUtf8-string_bytes}
use Rattle.minus_text.specs.declared.rows.Span.{Span}
use Rattle.minus_text.specs.Layouts.{wrap_of}
use Rattle.minus_text.specs.Document.{Document, wrap_in}
use Rattle.minus_text.specs.RowText.{IsUnescapedFrom}
use Rattle.minus_text.specs.Kept.{IsFormed, IsFormOf, IsRestartOf, kept_lines, line_going_on, piece_behind}
use Rattle.minus_text.proofs.ScreenLaws.{front_is, push_formed, formed-ascends, form-unfinished}
use Rattle.minus_text.proofs.FormatResultLaws.{tells_push}
use Rattle.minus_text.proofs.store.Store.place_formed.Goals as goal

pub replace_rows-requires-clause-rows : goal.replace_rows-requires-clause-rows
replace_rows-requires-clause-rows c =
    let keeps : c.args.plan.keeps ≡ true → c.args.plan.wrap ≡ (wrap_of c.self.inside.layout (length (lines (string_bytes c.self.inside.text)))) = λ t. c.requires.keeps t ∙ sym (ap (λ (x : Document). wrap_in x) c.self.view_is) in
    let start : IsRestartOf (string_bytes c.self.inside.text) c.args.plan c.args.start = subst (λ (x : Document). IsRestartOf x.text c.args.plan c.args.start) (sym c.self.view_is) c.requires.start in
    let formed : IsFormOf c.args.plan.wrap (line_going_on (string_bytes c.self.inside.text) c.args.plan) (piece_behind (string_bytes c.self.inside.text) c.args.plan c.args.piece.now) c.args.start c.args.formed = subst (λ (x : Document). IsFormOf c.args.plan.wrap (line_going_on x.text c.args.plan) (piece_behind x.text c.args.plan c.args.piece.now) c.args.start c.args.formed) (sym c.self.view_is) c.requires.formed in
    let front = front_is (string_bytes c.self.inside.text) c.args.piece.now (wrap_of c.self.inside.layout (length (lines (string_bytes c.self.inside.text)))) c.self.inside.rows.items c.self.inside.first_rows c.self.inside.finished c.self.inside.longest c.self.inside.border c.args.start c.args.plan (IsUtf8-string_bytes c.self.inside.text) c.self.invariant.0 keeps start in
    omega (arith, front.few, c.self.inside.rows.ok.0, c.self.inside.rows.ok.1, c.self.inside.rows.small)

pub replace_rows-requires-clause-first_rows : goal.replace_rows-requires-clause-first_rows
replace_rows-requires-clause-first_rows c =
    let keeps : c.args.plan.keeps ≡ true → c.args.plan.wrap ≡ (wrap_of c.self.inside.layout (length (lines (string_bytes c.self.inside.text)))) = λ t. c.requires.keeps t ∙ sym (ap (λ (x : Document). wrap_in x) c.self.view_is) in
    let start : IsRestartOf (string_bytes c.self.inside.text) c.args.plan c.args.start = subst (λ (x : Document). IsRestartOf x.text c.args.plan c.args.start) (sym c.self.view_is) c.requires.start in
    let formed : IsFormOf c.args.plan.wrap (line_going_on (string_bytes c.self.inside.text) c.args.plan) (piece_behind (string_bytes c.self.inside.text) c.args.plan c.args.piece.now) c.args.start c.args.formed = subst (λ (x : Document). IsFormOf c.args.plan.wrap (line_going_on x.text c.args.plan) (piece_behind x.text c.args.plan c.args.piece.now) c.args.start c.args.formed) (sym c.self.view_is) c.requires.formed in
    let front = front_is (string_bytes c.self.inside.text) c.args.piece.now (wrap_of c.self.inside.layout (length (lines (string_bytes c.self.inside.text)))) c.self.inside.rows.items c.self.inside.first_rows c.self.inside.finished c.self.inside.longest c.self.inside.border c.args.start c.args.plan (IsUtf8-string_bytes c.self.inside.text) c.self.invariant.0 keeps start in
    let news : List Span = take (c.args.start.finished.rows + c.args.start.rows) c.self.inside.rows.items ++ c.args.formed.rows.items in
    let firsts : List ℕ = take c.args.start.finished.lines c.self.inside.first_rows ++ c.args.formed.first_rows in
    let widest : ℕ = max c.args.start.finished.longest c.args.formed.longest in
    let all = push_formed (string_bytes c.self.inside.text) c.args.piece.now ((string_bytes c.self.inside.text) ++ c.args.piece.now) c.args.plan.wrap c.self.inside.rows.items news c.self.inside.first_rows firsts c.args.start (kept_lines (string_bytes c.self.inside.text) c.args.plan) (line_going_on (string_bytes c.self.inside.text) c.args.plan) (piece_behind (string_bytes c.self.inside.text) c.args.plan c.args.piece.now) c.args.formed widest
    front refl formed refl refl refl in
    formed-ascends ((string_bytes c.self.inside.text) ++ c.args.piece.now) c.args.plan.wrap news firsts c.args.formed.finished widest c.args.formed.border all

pub told-requires-clause-rows : goal.told-requires-clause-rows
told-requires-clause-rows c =
    let keeps : c.args.plan.keeps ≡ true → c.args.plan.wrap ≡ (wrap_of c.self.inside.layout (length (lines (string_bytes c.self.inside.text)))) = λ t. c.requires.keeps t ∙ sym (ap (λ (x : Document). wrap_in x) c.self.view_is) in
    let start : IsRestartOf (string_bytes c.self.inside.text) c.args.plan c.args.start = subst (λ (x : Document). IsRestartOf x.text c.args.plan c.args.start) (sym c.self.view_is) c.requires.start in
    let formed : IsFormOf c.args.plan.wrap (line_going_on (string_bytes c.self.inside.text) c.args.plan) (piece_behind (string_bytes c.self.inside.text) c.args.plan c.args.piece.now) c.args.start c.args.formed = subst (λ (x : Document). IsFormOf c.args.plan.wrap (line_going_on x.text c.args.plan) (piece_behind x.text c.args.plan c.args.piece.now) c.args.start c.args.formed) (sym c.self.view_is) c.requires.formed in
    let front = front_is (string_bytes c.self.inside.text) c.args.piece.now (wrap_of c.self.inside.layout (length (lines (string_bytes c.self.inside.text)))) c.self.inside.rows.items c.self.inside.first_rows c.self.inside.finished c.self.inside.longest c.self.inside.border c.args.start c.args.plan (IsUtf8-string_bytes c.self.inside.text) c.self.invariant.0 keeps start in
    omega (arith, front.few, c.self.inside.rows.ok.0, c.self.inside.rows.ok.1, c.self.inside.rows.small, c.args.formed.rows.ok.0, c.args.formed.rows.ok.1, c.args.formed.rows.small)

pub told-requires-clause-finished : goal.told-requires-clause-finished
told-requires-clause-finished c = (form-unfinished c.args.plan.wrap (line_going_on c.args.self.now.text c.args.plan) (piece_behind c.args.self.now.text c.args.plan c.args.piece.now) c.args.start c.args.formed c.requires.formed).0

pub invariant_of-self-2 : goal.invariant_of-self-2
invariant_of-self-2 c =
    let keeps : c.args.plan.keeps ≡ true → c.args.plan.wrap ≡ (wrap_of c.self.inside.layout (length (lines (string_bytes c.self.inside.text)))) = λ t. c.requires.keeps t ∙ sym (ap (λ (x : Document). wrap_in x) c.self.view_is) in
    let start : IsRestartOf (string_bytes c.self.inside.text) c.args.plan c.args.start = subst (λ (x : Document). IsRestartOf x.text c.args.plan c.args.start) (sym c.self.view_is) c.requires.start in
    let formed : IsFormOf c.args.plan.wrap (line_going_on (string_bytes c.self.inside.text) c.args.plan) (piece_behind (string_bytes c.self.inside.text) c.args.plan c.args.piece.now) c.args.start c.args.formed = subst (λ (x : Document). IsFormOf c.args.plan.wrap (line_going_on x.text c.args.plan) (piece_behind x.text c.args.plan c.args.piece.now) c.args.start c.args.formed) (sym c.self.view_is) c.requires.formed in
    let front = front_is (string_bytes c.self.inside.text) c.args.piece.now (wrap_of c.self.inside.layout (length (lines (string_bytes c.self.inside.text)))) c.self.inside.rows.items c.self.inside.first_rows c.self.inside.finished c.self.inside.longest c.self.inside.border c.args.start c.args.plan (IsUtf8-string_bytes c.self.inside.text) c.self.invariant.0 keeps start in
    let joined = c.push_str_reserved.ensures ∙ ap (λ t. t ++ c.args.piece.now) c.in_ok-reserve.ensures.bytes in
    let is = push_formed (string_bytes c.self.inside.text) c.args.piece.now (string_bytes c.push_str_reserved.new.text) c.args.plan.wrap c.self.inside.rows.items c.replace_rows.new.rows.items c.self.inside.first_rows c.replace_rows.new.first_rows c.args.start (kept_lines (string_bytes c.self.inside.text) c.args.plan) (line_going_on (string_bytes c.self.inside.text) c.args.plan) (piece_behind (string_bytes c.self.inside.text) c.args.plan c.args.piece.now) c.args.formed c.longest_behind-self-inside.result
    front joined formed c.in_ok-replace_rows.ensures.rows c.in_ok-replace_rows.ensures.first_rows c.longest_behind-self-inside.ensures in
    let wrap : c.args.plan.wrap ≡ wrap_of c.args.layout (length (lines (string_bytes c.push_str_reserved.new.text))) =
    c.requires.wrap ∙ ap (λ (x : Document). wrap_of c.args.layout (length (lines (x.text ++ c.args.piece.now)))) (sym c.self.view_is) ∙ ap (λ t. wrap_of c.args.layout (length (lines t))) (sym joined) in
    let len : c.len-2.result ≡ length (string_bytes c.self.inside.text) = c.len-2.ensures ∙ c.self.inside.text.bytes.ok.0 in
    let escapes = subst (λ t. IsUnescapedFrom c.escapes_end-escapes_end.result t) (sym joined) (c.escapes_end-escapes_end.ensures (string_bytes c.self.inside.text) len c.self.invariant.1) in
    (subst (λ w. IsFormed (string_bytes c.push_str_reserved.new.text) w c.replace_rows.new.rows.items c.replace_rows.new.first_rows c.args.formed.finished c.longest_behind-self-inside.result c.args.formed.border) wrap is, escapes)

pub returns-clause-told : goal.returns-clause-told
returns-clause-told c =
    let bytes : c.len.result ≡ length (string_bytes c.self.inside.text) = c.len.ensures ∙ c.self.inside.text.bytes.ok.0 in
    let t = c.told.ensures in
    let same : (string_bytes c.self.inside.text) ≡ c.args.self.now.text = ap (λ (x : Document). x.text) c.self.view_is in
    tells_push (string_bytes c.self.inside.text) c.args.piece.now (wrap_of c.self.inside.layout (length (lines (string_bytes c.self.inside.text)))) c.self.inside.rows.items c.self.inside.first_rows c.self.inside.finished c.self.inside.longest c.self.inside.border c.args.start c.args.formed _ c.args.self.now c.args.plan
    same c.self.invariant.0 c.requires.keeps c.requires.start c.requires.formed
    t.lines t.rows t.unfinished t.matches t.map t.longest
    (t.clean ∙ c.attaches_nothing-clean.ensures ∙ ap (λ n. cond c.args.plan.keeps (eqb c.self.inside.finished.bytes n) true) bytes)
