use Rattle.std.proofs.Common.{vec_items, sym, ap, ◌∙◌}
use Rattle.goals.specs.JobView.{nodes_of}
use Rattle.labels.specs.Goals.{node_ends}
use Rattle.labels.specs.Labels.{pending}
use Rattle.labels.proofs.Trees.{waiting-at}
use Rattle.labels.proofs.Calls.{at_label}
use Rattle.labels.proofs.walk.Step.waiting.Goals as goal

pub returns : goal.returns
returns g c =
    let e = ap (pending c.args.number c.args.binding) (c.own_ends-ends.ensures ∙ ap node_ends c.node_at.ensures.value) in
    at_label 4096 (vec_items c.args.table.now.items) (vec_items c.add.new.self.items) c.add.result
    (e ∙ sym (waiting-at (nodes_of c.args.self.now.job.now) c.args.number c.args.binding)) c.add.ensures
