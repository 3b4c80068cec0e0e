use Rattle.std.proofs.Common.{rules, ◌≡◌, ◌++◌, ◌∷◌, [], string_bytes, ap, sym, ◌∙◌, lit<, encode_utf8}
use Rattle.std.proofs.lemmas.List.{drop_all}
use Rattle.minus_view.specs.declared.tab_marks.Tab.{Tab}
use Rattle.minus_view.specs.TabMarks.{with_tabs}
use Rattle.minus_view.proofs.TabLaws.{behind_tab, without_tab}
use Rattle.minus_view.proofs.tab_marks.with_tabs.Goals as goal
use Rattle.minus_view.proofs.tab_marks.with_tabs.Goals.{in-Some+in_ok-push_str+in_ok-push, in_default}

pub loop-tab-init : goal.loop-tab-init
loop-tab-init c = record {
  utf8 = c.utf8.text;
  text = ap (λ xs. xs ++ with_tabs c.args.place c.args.text.now c.args.tabs.now) c.new-out.ensures.bytes;
}

pub loop-tab-preserved : goal.loop-tab-preserved
loop-tab-preserved c =
    let out = string_bytes c.loop-tab.out in
    let rest = c.loop-tab.rest.now in
    let at = c.loop-tab.at in
    let i = c.loop-tab.tab-index in
    let tabs = c.args.tabs.now in
    let none : Tab = record { start = 0; end = 0 } in
    elim c.match-cut_at_tab.branch [
      | in-Some+in_ok-push_str+in_ok-push w ↦
          let is = rw w.in-Some.is at c.cut_at_tab.ensures in
          let one : encode_utf8 9 ≡ 9 ∷ [] = w.in_ok-push.ensures.ascii (lit< tt) in
          let put : string_bytes w.push.new.self ≡ (out ++ w.in-Some.front.now) ++ 9 ∷ [] =
          w.in_ok-push.ensures.bytes ∙ ap (λ xs. xs ++ encode_utf8 9) w.in_ok-push_str.ensures.bytes ∙ ap (λ xs. (out ++ w.in-Some.front.now) ++ xs) one in
          rw (w.out-is, w.rest-is, w.at-is) (record {
            utf8 = search rules;
            text = behind_tab out w.in-Some.front.now (string_bytes w.push.new.self) w.in-Some.behind.now at i rest tabs none c.loop-tab-test.true is.0 is.1 is.2 put
                ∙ c.loop-tab.invariant.text;
          })
      | in_default w ↦
          let no = rw w.in_default.is at c.cut_at_tab.ensures in
          rw (w.out-is, w.rest-is, w.at-is) (record {
            utf8 = c.loop-tab.invariant.utf8;
            text = sym (without_tab out at i rest tabs none c.loop-tab-test.true no) ∙ c.loop-tab.invariant.text;
          })
    ]

pub returns : goal.returns
returns c =
    let out = string_bytes c.loop-tab.out in
    c.in_ok-push_str-2.ensures.bytes
    ∙ ap (λ ts. out ++ with_tabs c.loop-tab.at c.loop-tab.rest.now ts) (sym (drop_all c.loop-tab.tab-index c.args.tabs.now c.loop-tab-test.false))
    ∙ c.loop-tab.invariant.text
