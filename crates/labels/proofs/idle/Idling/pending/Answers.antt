use Rattle.std.proofs.Common.{ℕ, List, sym, ap, ◌∙◌}
use Rattle.goals.specs.declared.goal.Node.{Node}
use Rattle.goals.specs.declared.goal.Node.TheVariants.{Until}
use Rattle.goals.specs.JobView.{ids_of, nodes_of}
use Rattle.labels.specs.Facts.{Facts}
use Rattle.labels.specs.Goals.{Goal, goal_of_node, with_ends}
use Rattle.labels.specs.Idling.{idles}
use Rattle.labels.specs.Held.{facts_of}
use Rattle.labels.proofs.Trees.{tree_of, tree-read}
use Rattle.labels.proofs.Shapes.{keeps_wait}
use Rattle.labels.proofs.Walking.{with_other}
use Rattle.labels.proofs.idle.Idling.pending.Goals as goal

pub returns-in-Until : goal.returns-in-Until
returns-in-Until g c =
    let N : ℕ = ids_of c.args.self.now.job.now in
    let S : Facts = facts_of (g.R.Register.meaning c.args.self.now.register.now) in
    let nodes : List Node = nodes_of c.args.self.now.job.now in
    let tree = tree-read nodes c.args.number (Until c.in-Until.field-0 c.in-Until.hold c.in-Until.reach)
    c.node_at.ensures.value c.node_at.ensures.below c.in-Until.is in
    keeps_wait c.args.self.now.job.now (g.R.Register.meaning c.args.self.now.register.now) c.args.binding c.new.ensures c.until.ensures
    ∙ ap (λ (φ : Goal). idles N S (with_ends c.args.ends φ) c.args.binding) (sym tree)

pub returns-in_default : goal.returns-in_default
returns-in_default g c =
    let N : ℕ = ids_of c.args.self.now.job.now in
    let S : Facts = facts_of (g.R.Register.meaning c.args.self.now.register.now) in
    let nodes : List Node = nodes_of c.args.self.now.job.now in
    let nd : Node = c.node_at.result.now in
    let tree = tree_of nodes c.args.number nd (sym c.node_at.ensures.value) c.node_at.ensures.below in
    c.node.ensures
    ∙ ap (λ (φ : Goal). idles N S φ c.args.binding)
    (tree ∙ (with_other (goal_of_node nodes) c.args.number nd c.args.ends c.in_default.not-Until ∙ ap (with_ends c.args.ends) (sym tree)))
