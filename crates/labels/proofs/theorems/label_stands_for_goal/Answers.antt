use Rattle.labels.proofs.Ledger.{label-stands}
use Rattle.labels.proofs.theorems.label_stands_for_goal.Goals as goal

pub returns : goal.returns
returns c = label-stands
