use Rattle.std.proofs.Common.{◌≡◌, ◌++◌, ◌∷◌, [], ap, ◌∙◌, lit<, string_bytes, Some, eqb, rules}
use Rattle.std.specs.Prelude.{encode_utf8}
use Rattle.std.specs.List.{before_first}
use Rattle.minus_script.proofs.EscapeLaws.{onto_nothing, reads_no_escape, reads_escape, reads_rest}
use Rattle.minus_script.proofs.script.unescape.Goals as goal

pub loop-plain-init : goal.loop-plain-init
loop-plain-init c = record { utf8 = c.utf8.written; read = onto_nothing _ _ c.new-text.ensures.bytes }

pub returns-in_default-split_escape : goal.returns-in_default-split_escape
returns-in_default-split_escape c =
    let h = c.in-Some.ensures.byte (lit< tt) (λ w o f. f) in
    reads_no_escape c.args.written.now (string_bytes c.loop-plain.text) c.loop-plain.rest.now c.loop-plain.invariant.read h.2 (rw h.1 at c.in_default-split_escape.ensures.value)

pub loop-plain-preserved : goal.loop-plain-preserved
loop-plain-preserved c =
    let h = c.in-Some.ensures.byte (lit< tt) (λ w o f. f) in
    let e = c.in-Some-split_escape.character in
    let one : encode_utf8 e ≡ e ∷ [] = c.in_ok-push.ensures.ascii c.in-Some-split_escape.ensures.ascii in
    let front = string_bytes c.loop-plain.text in
    record {
      utf8 = search rules;
      read = reads_escape c.args.written.now front c.loop-plain.rest.now c.in-Some-split_escape.more.now (string_bytes c.push.new.self) e c.loop-plain.invariant.read h.2
          (rw h.1 at c.in-Some-split_escape.ensures.value)
          (c.in_ok-push.ensures.bytes ∙ ap (λ l. l ++ encode_utf8 e) (c.in_ok-push_str.ensures.bytes ∙ ap (λ l. front ++ l) h.0) ∙ ap (λ l. (front ++ before_first (λ b. eqb b 92) c.loop-plain.rest.now) ++ l) one);
    }

pub returns : goal.returns
returns c =
    let h = c.in_default.ensures.byte (lit< tt) (λ w o f. f) in
    ap Some c.in_ok-push_str-2.ensures.bytes ∙ reads_rest c.args.written.now (string_bytes c.loop-plain.text) c.loop-plain.rest.now c.loop-plain.invariant.read h
