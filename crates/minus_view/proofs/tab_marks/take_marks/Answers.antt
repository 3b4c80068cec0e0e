use Rattle.std.proofs.Common.{rules, ◌≡◌, ◌+◌, ◌++◌, ◌∷◌, [], length, string_bytes, None, Some, ap, sym, ◌∙◌, lit<, arith, encode_utf8}
use Rattle.std.proofs.lemmas.List.{append-nil, length-append}
use Rattle.minus_view.specs.TabMarks.{begun_tab, ended_tab, past_mark, tab_places, unmarked}
use Rattle.minus_view.proofs.TabLaws.{cut_at_escape, mark_at, no_escape_left, text_past_mark, tabs_past_mark, text_past_escape, tabs_past_escape, unmarked_all, tabs_none}
use Rattle.minus_view.proofs.tab_marks.take_marks.Goals as goal

pub loop-front-init : goal.loop-front-init
loop-front-init c =
    let text = c.args.text.now in
    record {
      utf8 = c.utf8.text;
      text = ap (λ xs. xs ++ unmarked text) (sym c.new-plain.ensures.bytes);
      tabs = ap (λ ts. ts ++ tab_places 0 None text) (sym c.new-tabs.ensures.items)
          ∙ ap (λ xs. c.new-tabs.result.items ++ tab_places (length xs) None text) (sym c.new-plain.ensures.bytes);
    }

pub loop-front-smaller-in-Some-past_mark : goal.loop-front-smaller-in-Some-past_mark
loop-front-smaller-in-Some-past_mark c =
    let h = c.in-Some.ensures.byte (lit< tt) (λ w o f. f) in
    let cut = cut_at_escape c.loop-front.rest.now c.in-Some.front.now c.in-Some.behind.now h.0 h.1 h.2 in
    let mark = mark_at c.in-Some.behind.now c.in-Some-past_mark.more.now (sym (rw c.in-Some-past_mark.is at c.past_mark.ensures)) in
    omega (arith, ap length cut.all, length-append c.in-Some.front.now (27 ∷ c.in-Some.behind.now), mark.shorter)

pub loop-front-preserved-in-Some-past_mark : goal.loop-front-preserved-in-Some-past_mark
loop-front-preserved-in-Some-past_mark c =
    let h = c.in-Some.ensures.byte (lit< tt) (λ w o f. f) in
    let whole = c.args.text.now in
    let rest = c.loop-front.rest.now in
    let front = c.in-Some.front.now in
    let behind = c.in-Some.behind.now in
    let more = c.in-Some-past_mark.more.now in
    let plain = string_bytes c.loop-front.plain in
    let now = string_bytes c.push_str.new.self in
    let cut = cut_at_escape rest front behind h.0 h.1 h.2 in
    let mark : past_mark behind ≡ Some more = sym (rw c.in-Some-past_mark.is at c.past_mark.ensures) in
    let put = c.in_ok-push_str.ensures.bytes in
    let len : c.len.result ≡ length now = search (rules, c.len.ensures) in
    let at : length now ≡ length plain + length front = ap length put ∙ length-append plain front in
    record {
      utf8 = search rules;
      text = text_past_mark whole plain rest front behind more now c.loop-front.invariant.text cut mark put;
      tabs = tabs_past_mark whole rest front behind more c.loop-front.tabs.items c.turn_at.new.tabs.items c.loop-front.begun c.in_ok-begun-in-Some-past_mark.begun
          (length plain) (length now) c.loop-front.invariant.tabs cut mark at
          (c.in_ok-begun-in-Some-past_mark.ensures.begun ∙ ap (begun_tab c.loop-front.begun) len)
          (c.in_ok-begun-in-Some-past_mark.ensures.tabs ∙ ap (λ n. c.loop-front.tabs.items ++ ended_tab c.loop-front.begun n) len);
    }

pub loop-front-smaller : goal.loop-front-smaller
loop-front-smaller c =
    let h = c.in-Some.ensures.byte (lit< tt) (λ w o f. f) in
    let cut = cut_at_escape c.loop-front.rest.now c.in-Some.front.now c.in-Some.behind.now h.0 h.1 h.2 in
    omega (arith, ap length cut.all, length-append c.in-Some.front.now (27 ∷ c.in-Some.behind.now))

pub loop-front-preserved : goal.loop-front-preserved
loop-front-preserved c =
    let h = c.in-Some.ensures.byte (lit< tt) (λ w o f. f) in
    let whole = c.args.text.now in
    let rest = c.loop-front.rest.now in
    let front = c.in-Some.front.now in
    let behind = c.in-Some.behind.now in
    let plain = string_bytes c.loop-front.plain in
    let now = string_bytes c.push.new.self in
    let cut = cut_at_escape rest front behind h.0 h.1 h.2 in
    let none : past_mark behind ≡ None = sym (rw c.in-None.is at c.past_mark.ensures) in
    let one : encode_utf8 27 ≡ 27 ∷ [] = c.in_ok-push-in-None.ensures.ascii (lit< tt) in
    let put : now ≡ (plain ++ front) ++ 27 ∷ [] =
    c.in_ok-push-in-None.ensures.bytes ∙ ap (λ xs. xs ++ encode_utf8 27) c.in_ok-push_str.ensures.bytes ∙ ap (λ xs. (plain ++ front) ++ xs) one in
    let at : length now ≡ (length plain + length front) + 1 =
    ap length put ∙ length-append (plain ++ front) (27 ∷ []) ∙ ap (λ n. n + 1) (length-append plain front) in
    record {
      utf8 = search rules;
      text = text_past_escape whole plain rest front behind now c.loop-front.invariant.text cut none put;
      tabs = tabs_past_escape whole rest front behind c.loop-front.tabs.items c.loop-front.begun (length plain) (length now) c.loop-front.invariant.tabs cut none at;
    }

pub returns-clause-text : goal.returns-clause-text
returns-clause-text c =
    let h = c.in_default.ensures.byte (lit< tt) (λ w o f. f) in
    let rest = c.loop-front.rest.now in
    let plain = string_bytes c.loop-front.plain in
    c.in_ok-push_str-2.ensures.bytes ∙ ap (λ xs. plain ++ xs) (sym (unmarked_all rest (no_escape_left rest h))) ∙ sym c.loop-front.invariant.text

pub returns-clause-tabs : goal.returns-clause-tabs
returns-clause-tabs c =
    let h = c.in_default.ensures.byte (lit< tt) (λ w o f. f) in
    let rest = c.loop-front.rest.now in
    let items = c.loop-front.tabs.items in
    sym (append-nil items) ∙ ap (λ ts. items ++ ts) (sym (tabs_none (length (string_bytes c.loop-front.plain)) c.loop-front.begun rest (no_escape_left rest h)))
    ∙ sym c.loop-front.invariant.tabs
