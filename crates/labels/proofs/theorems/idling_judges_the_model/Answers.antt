use Rattle.labels.proofs.Ledger.{judges_model}
use Rattle.labels.proofs.theorems.idling_judges_the_model.Goals as goal

pub returns : goal.returns
returns c = judges_model
