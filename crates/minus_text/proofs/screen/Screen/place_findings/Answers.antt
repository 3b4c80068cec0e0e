-- Findings that are what a term finds are that once they are kept.
use Rattle.std.proofs.Common.{rules}
use Rattle.minus_text.proofs.screen.Screen.place_findings.Goals as goal

pub returns-clause-found : goal.returns-clause-found
returns-clause-found c = search rules
