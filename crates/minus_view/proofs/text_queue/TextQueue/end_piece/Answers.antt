use Rattle.std.proofs.Common.{rules}
use Rattle.std.proofs.lemmas.List.{map-append}
use Rattle.minus_view.proofs.TextQueueLaws.{ended}
use Rattle.minus_view.proofs.text_queue.TextQueue.end_piece.Goals as goal

pub returns-in_default : goal.returns-in_default
returns-in_default c = search (rules, ended, map-append)
