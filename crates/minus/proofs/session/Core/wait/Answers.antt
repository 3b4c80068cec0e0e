-- The input waits behind the others, or could not.
use Rattle.std.proofs.Common.{rules, ◌≡◌, ◌∷◌, ◌++◌, [], List, map, ap, ◌∙◌, refl, inr}
use Rattle.std.proofs.lemmas.List.{map-append}
use Rattle.minus_state.proofs.RefusalLaws.{passed_on}
use Rattle.minus.specs.Core.{seen_of}
use Rattle.minus_commands.specs.Reads.{Told, told_of}
use Rattle.minus.specs.Seen.{Seen}
use Rattle.minus.specs.SessionSteps.{IsNotKept}
use Rattle.minus.proofs.session.Core.wait.Goals as goal

pub returns-clause-kept : goal.returns-clause-kept
returns-clause-kept g c =
    let old : Seen _ _ = seen_of c.args.self.now in
    let put : c.push_back.new.self.items ≡ c.args.self.now.waiting.items ++ c.args.input ∷ [] = search rules in
    let is = ap (map told_of) put ∙ map-append told_of c.args.self.now.waiting.items (c.args.input ∷ []) in
    record {
      possible = search rules;
      seen = ap (λ (x : List (Told _ _)). let r : Seen _ _ = record old { waiting = x } in r) is;
      sink = refl;
      goes_on = refl;
    }

pub returns-in_err-check-clause-refused : goal.returns-in_err-check-clause-refused
returns-in_err-check-clause-refused g c =
    passed_on c.from_residual.result (λ e. IsNotKept c.args.self.now (told_of c.args.input) c.args.self.now e) c.in_err-check.field-0.0 c.from_residual.ensures
    (record { why = inr c.in_err-check.ensures.err; seen = refl; sink = refl })
