use Rattle.labels.proofs.Examples.{worked}
use Rattle.labels.proofs.theorems.worked_examples_hold.Goals as goal

pub returns : goal.returns
returns c = worked
