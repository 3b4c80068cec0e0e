use Rattle.minus_text.proofs.HyphensLaws.{words_cut}
use Rattle.minus_text.proofs.hyphens.words_are_cut_at_joints.Goals as goal

pub returns : goal.returns
returns c = words_cut
