use Rattle.labels.proofs.Knowing.{stay_known}
use Rattle.labels.proofs.theorems.labels_stay_known.Goals as goal

pub returns : goal.returns
returns c = stay_known
