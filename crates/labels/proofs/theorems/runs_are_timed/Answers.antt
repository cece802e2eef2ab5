use Rattle.labels.proofs.Ledger.{runs-timed}
use Rattle.labels.proofs.theorems.runs_are_timed.Goals as goal

pub returns : goal.returns
returns c = runs-timed
