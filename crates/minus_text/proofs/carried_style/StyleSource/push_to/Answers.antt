-- Both parts are read, one behind the other.
use Rattle.std.proofs.Common.{◌≡◌, ℕ, List, ◌++◌, sym, ap, subst, ◌∙◌}
use Rattle.std.specs.Prelude.{OnOk}
use Rattle.std.proofs.lemmas.List.{append-nil}
use Rattle.minus_text.proofs.StyleSourceLaws.{read_twice}
use Rattle.minus_text.proofs.carried_style.StyleSource.push_to.Goals as goal

pub returns-then-is_empty : goal.returns-then-is_empty
returns-then-is_empty g c =
    let none = c.is_empty.ensures c.if-is_empty.true in
    sym (append-nil (g.T.PushText.bytes c.args.out.now)) ∙ ap (λ (s : List ℕ). g.T.PushText.bytes c.args.out.now ++ s) (sym none)

pub returns : goal.returns
returns g c =
    let style = c.held.ensures ∙ read_twice c.args.self.kept.now c.args.self.formed.now _ _ _ c.new-reader.ensures c.in_ok-read_bytes.ensures c.in_ok-read_bytes-2.ensures in
    subst (λ s. OnOk c.push_text.result (g.T.PushText.bytes c.push_text.new.self ≡ g.T.PushText.bytes c.args.out.now ++ s)) style c.push_text.ensures
