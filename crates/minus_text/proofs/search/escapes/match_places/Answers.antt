use Rattle.std.proofs.Common.{rules, ◌≡◌, [], ◌∷◌, ◌++◌, IfSome, option_map, sym, ap, ◌∙◌, subst, IsCharBoundary}
use Rattle.std.proofs.lemmas.Str.{IsCharBoundary-start}
use Rattle.regex_hir.specs.Find.{find_after}
use Rattle.regex.specs.Patterns.{find_str, span}
use Rattle.regex.specs.Strings.{matcher_pattern, match_span, match_haystack}
use Rattle.minus_text.proofs.MatchPlacesLaws.{Ascend, EachCuts, places_ascend, one_more_cuts, cuts_text}
use Rattle.minus_text.proofs.FindPlacesLaws.{IsLeft, more_left, none_left}
use Rattle.minus_text.proofs.search.escapes.match_places.Goals as goal

pub loop-next-preserved : goal.loop-next-preserved
loop-next-preserved c =
    let text = c.args.text.now in
    let re = matcher_pattern c.args.matcher.now in
    let items = c.loop-next.places.items in
    let m = c.in-Some.found in
    let inv = c.loop-next.invariant in
    let pair : (c.start.result, c.end.result) ≡ match_span m = search (rules, c.start.ensures, c.end.ensures) in
    let grown = c.in_ok-push.ensures.items ∙ ap (λ p. items ++ p ∷ []) pair in
    let next : option_map match_span c.following-next.result ≡ option_map span (find_after (find_str re text) m.end) =
    rw (inv.same, c.end-in-Some.ensures) at c.following-next.ensures.found in
    let left = subst (λ o. IsLeft re text items (option_map match_span o)) c.in-Some.is inv.left in
    let same = subst (λ o. IfSome o (λ x. match_haystack x ≡ text)) c.in-Some.is inv.within in
    record {
      same = c.following-next.ensures.same ∙ inv.same;
      left = subst (λ l. IsLeft re text l (option_map match_span c.following-next.result)) (sym grown) (more_left re text items (match_span m) left _ next);
      within = c.following-next.ensures.within;
      cuts = subst (EachCuts text) (sym grown) (one_more_cuts text items (match_span m) inv.cuts m.ordered
          (subst (λ t. IsCharBoundary t m.start) same m.starts_cleanly) (subst (λ t. IsCharBoundary t m.end) same m.ends_cleanly));
    }

pub returns-clause-found : goal.returns-clause-found
returns-clause-found c =
    let text = c.args.text.now in
    let re = matcher_pattern c.args.matcher.now in
    none_left re text c.loop-next.places.items (subst (λ o. IsLeft re text c.loop-next.places.items (option_map match_span o)) c.in_default.is c.loop-next.invariant.left)

pub returns-clause-cuts : goal.returns-clause-cuts
returns-clause-cuts c =
    let text = c.args.text.now in
    let re = matcher_pattern c.args.matcher.now in
    cuts_text text 0 c.loop-next.places.items (IsCharBoundary-start text c.utf8.text)
    (subst (Ascend 0) (sym (returns-clause-found c)) (places_ascend re text)) c.loop-next.invariant.cuts
