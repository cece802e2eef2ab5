use Rattle.labels.proofs.Rows.{stand_once}
use Rattle.labels.proofs.theorems.labels_stand_once.Goals as goal

pub returns : goal.returns
returns c = stand_once
