-- The stored row is ended where styles are carried.
use Rattle.std.proofs.Common.{◌≡◌, ◌++◌, List, ℕ, Option, Some, Bool, true, false, option_map, string_bytes, refl, sym, ap, ◌∙◌}
use Rattle.minus_text.specs.Document.{Document}
use Rattle.minus_text.specs.Styles.{closing, ended}
use Rattle.minus_state.specs.Control.{document_of}
use Rattle.minus_state.specs.ShownRow.{ended_in}
use Rattle.minus_state.specs.States.{control_of}
use Rattle.minus.proofs.PrintLaws.{ended_at}
use Rattle.minus.proofs.static_pager.printed_row.Goals as goal
use Rattle.minus.proofs.static_pager.printed_row.Goals.{then-carry_style+in_ok-end+in_ok-push_str, else-carry_style}

-- a row where styles are carried, and where they are not
carried : (d : Document) (text : List ℕ) (carries : Bool) → carries ≡ d.layout.carry_style → carries ≡ true → text ++ closing text ≡ ended_in d text
carried d text carries is on = let all : d.layout.carry_style ≡ true = sym is ∙ on in rw all refl

as_stored : (d : Document) (text : List ℕ) (carries : Bool) → carries ≡ d.layout.carry_style → carries ≡ false → text ≡ ended_in d text
as_stored d text carries is off = let none : d.layout.carry_style ≡ false = sym is ∙ off in rw none refl

pub returns : goal.returns
returns c =
    let state = c.args.state.now in
    let d : Document = document_of (control_of state) in
    let text : List ℕ = string_bytes c.in-Some.text in
    let there = ap (option_map (ended_in d)) (sym (ap (option_map string_bytes) c.in-Some.is)) ∙ ended_at state c.args.row (option_map string_bytes c.in_ok-text.field-0) c.requires c.in_ok-text.ensures in
    elim c.if-carry_style.branch [
      | then-carry_style+in_ok-end+in_ok-push_str w ↦
          let end = w.in_ok-end.ensures ∙ ap closing w.as_bytes.ensures.value in
          let put = ap string_bytes w.text-is ∙ w.in_ok-push_str.ensures.bytes ∙ ap (λ (e : List ℕ). text ++ e) end in
          ap Some (put ∙ carried d text c.carry_style.result c.carry_style.ensures w.if-carry_style.true) ∙ there
      | else-carry_style w ↦ ap Some (ap string_bytes w.text-is ∙ as_stored d text c.carry_style.result c.carry_style.ensures w.if-carry_style.false) ∙ there
    ]
