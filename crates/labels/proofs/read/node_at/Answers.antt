use Rattle.std.proofs.Common.{refl}
use Rattle.goals.specs.JobView.{nodes_of, sound}
use Rattle.labels.proofs.Nodes.{node-or_true}
use Rattle.labels.proofs.read.node_at.Goals as goal

pub returns : goal.returns
returns c =
    let n = node-or_true (nodes_of c.args.job.now) c.args.number c.node_ref.result c.unwrap_or.result _ (sound c.args.job.now).rising c.node_ref.ensures c.unwrap_or.ensures refl in
    record { value = n.0; below = n.1 }
