use Rattle.labels.proofs.Joining.{simplifying}
use Rattle.labels.proofs.theorems.simplifying_keeps_meaning.Goals as goal

pub returns : goal.returns
returns c = simplifying
