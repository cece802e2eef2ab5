use Rattle.labels.proofs.Order.{stay_in_order}
use Rattle.labels.proofs.theorems.ends_stay_in_order.Goals as goal

pub returns : goal.returns
returns c = stay_in_order
