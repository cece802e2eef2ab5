use Rattle.std.proofs.Common.{◌≡◌, ◌+◌, ◌*◌, false}
use Rattle.goals.specs.JobView.{ids_of, nodes_of}
use Rattle.labels.specs.Facts.{bind, fact}
use Rattle.labels.specs.Goals.{goal_of_node}
use Rattle.labels.specs.Idling.{some, agrees, idles}
use Rattle.labels.specs.Held.{facts_of}
use Rattle.labels.proofs.idle.Idling.+any_node_until.Given as goal

abbrev pub decreases-node : goal.decreases-node
decreases-node g l = l.number * 2 + 1

abbrev pub decreases-until : goal.decreases-until
decreases-until g l = l.wait.node * 2

abbrev pub decreases-any : goal.decreases-any
decreases-any g l = l.range.node * 2

abbrev pub invariant-any-loop-id : goal.invariant-any-loop-id
invariant-any-loop-id g l =
    some (λ x. fact (facts_of (g.R.Register.meaning l.self.register.now)) (bind l.range.variable x l.binding) l.range.bound)
    (λ x. agrees l.wanted (idles (ids_of l.self.job.now) (facts_of (g.R.Register.meaning l.self.register.now)) (goal_of_node (nodes_of l.self.job.now) l.range.body) (bind l.range.variable x l.binding)))
    l.id ≡ false
