use Rattle.labels.proofs.Idling.{idling-is_truth}
use Rattle.labels.proofs.theorems.idling_is_truth_on_copies.Goals as goal

pub returns : goal.returns
returns c = idling-is_truth
