use Rattle.labels.proofs.TwoValued.{two_valued}
use Rattle.labels.proofs.theorems.truth_is_two_valued.Goals as goal

pub returns : goal.returns
returns c = two_valued
