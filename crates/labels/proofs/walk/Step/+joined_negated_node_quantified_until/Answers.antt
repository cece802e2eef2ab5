use Rattle.std.proofs.Common.{◌≡◌, ℕ, ◌+◌, ◌<◌, eqb, List, ◌∷◌, ◌++◌, vec_items, Result, sym, ◌∙◌, subst, ap₂, arith}
use Rattle.std.proofs.lemmas.Result.{err_from_is_err_and}
use Rattle.goals.specs.declared.goal.Node.{Node}
use Rattle.goals.specs.declared.goal.Node.TheVariants.{True, Test, Equal, Not, And, Or, Next, Until, ForAll, Exists}
use Rattle.goals.specs.JobView.{ids_of, nodes_of}
use Rattle.labels.specs.declared.part.Part.{Part}
use Rattle.labels.specs.declared.table.Table.{Table}
use Rattle.labels.specs.declared.table.Full.{Full}
use Rattle.labels.specs.declared.binding.Binding.{Binding}
use Rattle.labels.specs.Facts.{Facts}
use Rattle.labels.specs.Goals.{Goal, until, goal_of_node}
use Rattle.labels.specs.Joining.{negate}
use Rattle.labels.specs.Connectives.{join_by}
use Rattle.labels.specs.Progress.{progress}
use Rattle.labels.specs.Work.{results}
use Rattle.labels.specs.Growth.{Made}
use Rattle.labels.specs.Held.{facts_of}
use Rattle.labels.specs.Walks.{joined_to, results_to}
use Rattle.labels.proofs.Trees.{tree-read}
use Rattle.labels.proofs.Shapes.{at_pair, at_wait, at-range}
use Rattle.labels.proofs.Calls.{after-negate, after-join}
use Rattle.labels.proofs.Walking.{stop, left_over, right_over, at-goal, walk_top, walk-test, walk-equal, walk-next, walk-and, walk-or, walk-all, walk-exists, walk-not, not-over, hold_over, rest_over, both-over, waits, reach-over, reaches-it, begins, skips, item-over, join-over, joins, all_turns, start-over, turn_over}
use Rattle.labels.proofs.walk.Step.+joined_negated_node_quantified_until.Goals as goal
use Rattle.labels.proofs.walk.Step.+joined_negated_node_quantified_until.Goals.{quantified-then-is_fact+in_ok-p+in_ok-so_far-2, quantified-else-is_fact}

-- the arms of a node: the limit is passed, or the place is told
pub node-returns-in-True : goal.node-returns-in-True
node-returns-in-True g t c =
    let N : ℕ = ids_of c.args.self.now.job.now in
    let S : Facts = facts_of (g.R.Register.meaning c.args.self.now.register.now) in
    let D : ℕ = c.args.self.now.span.hours in
    let nodes : List Node = nodes_of c.args.self.now.job.now in
    let T0 : List Part = vec_items c.args.table.now.items in
    let k : ℕ = c.args.number in
    let B : Binding = c.args.binding in
    let tree = tree-read nodes k True c.node_at.ensures.value c.node_at.ensures.below c.in-True.is in
    let u : List Part = vec_items c.settle.new.self.items in
    let r : Result ℕ Full = c.settle.result in
    at-goal N S D 4096 T0 u B r (sym tree)
    (walk_top N S D 4096 T0 u k B r
    c.settle.ensures)

pub node-returns-in-Test : goal.node-returns-in-Test
node-returns-in-Test g t c =
    let N : ℕ = ids_of c.args.self.now.job.now in
    let S : Facts = facts_of (g.R.Register.meaning c.args.self.now.register.now) in
    let D : ℕ = c.args.self.now.span.hours in
    let nodes : List Node = nodes_of c.args.self.now.job.now in
    let T0 : List Part = vec_items c.args.table.now.items in
    let k : ℕ = c.args.number in
    let B : Binding = c.args.binding in
    let tree = tree-read nodes k (Test c.in-Test.atom) c.node_at.ensures.value c.node_at.ensures.below c.in-Test.is in
    let u : List Part = vec_items c.settle-in-Test.new.self.items in
    let r : Result ℕ Full = c.settle-in-Test.result in
    at-goal N S D 4096 T0 u B r (sym tree)
    (walk-test N S D 4096 T0 u k B r c.in-Test.atom c.is_fact.result c.is_fact.ensures
    c.settle-in-Test.ensures)

pub node-returns-in-Equal : goal.node-returns-in-Equal
node-returns-in-Equal g t c =
    let N : ℕ = ids_of c.args.self.now.job.now in
    let S : Facts = facts_of (g.R.Register.meaning c.args.self.now.register.now) in
    let D : ℕ = c.args.self.now.span.hours in
    let nodes : List Node = nodes_of c.args.self.now.job.now in
    let T0 : List Part = vec_items c.args.table.now.items in
    let k : ℕ = c.args.number in
    let B : Binding = c.args.binding in
    let tree = tree-read nodes k (Equal c.in-Equal.left c.in-Equal.right) c.node_at.ensures.value c.node_at.ensures.below c.in-Equal.is in
    let u : List Part = vec_items c.settle-in-Equal.new.self.items in
    let r : Result ℕ Full = c.settle-in-Equal.result in
    at-goal N S D 4096 T0 u B r (sym tree)
    (walk-equal N S D 4096 T0 u k B r c.in-Equal.left c.in-Equal.right (eqb c.value.result c.value-in-Equal.result) (ap₂ eqb c.value.ensures c.value-in-Equal.ensures)
    c.settle-in-Equal.ensures)

pub node-returns-in-Not : goal.node-returns-in-Not
node-returns-in-Not g t c =
    let N : ℕ = ids_of c.args.self.now.job.now in
    let S : Facts = facts_of (g.R.Register.meaning c.args.self.now.register.now) in
    let D : ℕ = c.args.self.now.span.hours in
    let nodes : List Node = nodes_of c.args.self.now.job.now in
    let T0 : List Part = vec_items c.args.table.now.items in
    let k : ℕ = c.args.number in
    let B : Binding = c.args.binding in
    let tree = tree-read nodes k (Not c.in-Not.x) c.node_at.ensures.value c.node_at.ensures.below c.in-Not.is in
    let u : List Part = vec_items c.negated.new.table.items in
    let r : Result ℕ Full = c.negated.result in
    at-goal N S D 4096 T0 u B r (sym tree)
    (walk-not N S D 4096 T0 u k B r (goal_of_node nodes c.in-Not.x)
    c.negated.ensures)

pub node-returns-in-And : goal.node-returns-in-And
node-returns-in-And g t c =
    let N : ℕ = ids_of c.args.self.now.job.now in
    let S : Facts = facts_of (g.R.Register.meaning c.args.self.now.register.now) in
    let D : ℕ = c.args.self.now.span.hours in
    let nodes : List Node = nodes_of c.args.self.now.job.now in
    let T0 : List Part = vec_items c.args.table.now.items in
    let k : ℕ = c.args.number in
    let B : Binding = c.args.binding in
    let tree = tree-read nodes k (And c.in-And.left c.in-And.right) c.node_at.ensures.value c.node_at.ensures.below c.in-And.is in
    let u : List Part = vec_items c.joined.new.table.items in
    let r : Result ℕ Full = c.joined.result in
    at-goal N S D 4096 T0 u B r (sym tree)
    (walk-and N S D 4096 T0 u k B r (goal_of_node nodes c.in-And.left) (goal_of_node nodes c.in-And.right)
    (at_pair c.args.self.now.job.now (g.R.Register.meaning c.args.self.now.register.now) c.args.self.now.span c.args.table.now c.joined.new.table B r c.new-pair.ensures c.joined.ensures))

pub node-returns-in-Or : goal.node-returns-in-Or
node-returns-in-Or g t c =
    let N : ℕ = ids_of c.args.self.now.job.now in
    let S : Facts = facts_of (g.R.Register.meaning c.args.self.now.register.now) in
    let D : ℕ = c.args.self.now.span.hours in
    let nodes : List Node = nodes_of c.args.self.now.job.now in
    let T0 : List Part = vec_items c.args.table.now.items in
    let k : ℕ = c.args.number in
    let B : Binding = c.args.binding in
    let tree = tree-read nodes k (Or c.in-Or.left c.in-Or.right) c.node_at.ensures.value c.node_at.ensures.below c.in-Or.is in
    let u : List Part = vec_items c.joined-in-Or.new.table.items in
    let r : Result ℕ Full = c.joined-in-Or.result in
    at-goal N S D 4096 T0 u B r (sym tree)
    (walk-or N S D 4096 T0 u k B r (goal_of_node nodes c.in-Or.left) (goal_of_node nodes c.in-Or.right)
    (at_pair c.args.self.now.job.now (g.R.Register.meaning c.args.self.now.register.now) c.args.self.now.span c.args.table.now c.joined-in-Or.new.table B r c.new-pair-in-Or.ensures c.joined-in-Or.ensures))

pub node-returns-in-Next : goal.node-returns-in-Next
node-returns-in-Next g t c =
    let N : ℕ = ids_of c.args.self.now.job.now in
    let S : Facts = facts_of (g.R.Register.meaning c.args.self.now.register.now) in
    let D : ℕ = c.args.self.now.span.hours in
    let nodes : List Node = nodes_of c.args.self.now.job.now in
    let T0 : List Part = vec_items c.args.table.now.items in
    let k : ℕ = c.args.number in
    let B : Binding = c.args.binding in
    let tree = tree-read nodes k (Next c.in-Next.x) c.node_at.ensures.value c.node_at.ensures.below c.in-Next.is in
    let u : List Part = vec_items c.waiting.new.table.items in
    let r : Result ℕ Full = c.waiting.result in
    at-goal N S D 4096 T0 u B r (sym tree)
    (walk-next N S D 4096 T0 u k B r (goal_of_node nodes c.in-Next.x)
    c.waiting.ensures)

pub node-returns-in-Until : goal.node-returns-in-Until
node-returns-in-Until g t c =
    let N : ℕ = ids_of c.args.self.now.job.now in
    let S : Facts = facts_of (g.R.Register.meaning c.args.self.now.register.now) in
    let D : ℕ = c.args.self.now.span.hours in
    let nodes : List Node = nodes_of c.args.self.now.job.now in
    let T0 : List Part = vec_items c.args.table.now.items in
    let k : ℕ = c.args.number in
    let B : Binding = c.args.binding in
    let tree = tree-read nodes k (Until c.in-Until.ends c.in-Until.hold c.in-Until.reach) c.node_at.ensures.value c.node_at.ensures.below c.in-Until.is in
    let u : List Part = vec_items c.until.new.table.items in
    let r : Result ℕ Full = c.until.result in
    at-goal N S D 4096 T0 u B r (sym tree)
    (at_wait c.args.self.now.job.now (g.R.Register.meaning c.args.self.now.register.now) c.args.self.now.span c.args.table.now c.until.new.table B r c.new-wait.ensures c.until.ensures)

pub node-returns-in-ForAll : goal.node-returns-in-ForAll
node-returns-in-ForAll g t c =
    let N : ℕ = ids_of c.args.self.now.job.now in
    let S : Facts = facts_of (g.R.Register.meaning c.args.self.now.register.now) in
    let D : ℕ = c.args.self.now.span.hours in
    let nodes : List Node = nodes_of c.args.self.now.job.now in
    let T0 : List Part = vec_items c.args.table.now.items in
    let k : ℕ = c.args.number in
    let B : Binding = c.args.binding in
    let tree = tree-read nodes k (ForAll c.in-ForAll.variable c.in-ForAll.bound c.in-ForAll.body) c.node_at.ensures.value c.node_at.ensures.below c.in-ForAll.is in
    let u : List Part = vec_items c.quantified.new.table.items in
    let r : Result ℕ Full = c.quantified.result in
    at-goal N S D 4096 T0 u B r (sym tree)
    (walk-all N S D 4096 T0 u k B r c.in-ForAll.variable c.in-ForAll.bound (goal_of_node nodes c.in-ForAll.body)
    (at-range c.args.self.now.job.now (g.R.Register.meaning c.args.self.now.register.now) c.args.self.now.span c.args.table.now c.quantified.new.table B r c.new-range.ensures c.quantified.ensures))

pub node-returns-in-Exists : goal.node-returns-in-Exists
node-returns-in-Exists g t c =
    let N : ℕ = ids_of c.args.self.now.job.now in
    let S : Facts = facts_of (g.R.Register.meaning c.args.self.now.register.now) in
    let D : ℕ = c.args.self.now.span.hours in
    let nodes : List Node = nodes_of c.args.self.now.job.now in
    let T0 : List Part = vec_items c.args.table.now.items in
    let k : ℕ = c.args.number in
    let B : Binding = c.args.binding in
    let tree = tree-read nodes k (Exists c.in-Exists.variable c.in-Exists.bound c.in-Exists.body) c.node_at.ensures.value c.node_at.ensures.below c.in-Exists.is in
    let u : List Part = vec_items c.quantified-in-Exists.new.table.items in
    let r : Result ℕ Full = c.quantified-in-Exists.result in
    at-goal N S D 4096 T0 u B r (sym tree)
    (walk-exists N S D 4096 T0 u k B r c.in-Exists.variable c.in-Exists.bound (goal_of_node nodes c.in-Exists.body)
    (at-range c.args.self.now.job.now (g.R.Register.meaning c.args.self.now.register.now) c.args.self.now.span c.args.table.now c.quantified-in-Exists.new.table B r c.new-range-in-Exists.ensures c.quantified-in-Exists.ensures))

pub negated-returns-in_err-p : goal.negated-returns-in_err-p
negated-returns-in_err-p g t c =
    let N : ℕ = ids_of c.args.self.now.job.now in
    let S : Facts = facts_of (g.R.Register.meaning c.args.self.now.register.now) in
    let D : ℕ = c.args.self.now.span.hours in
    let nodes : List Node = nodes_of c.args.self.now.job.now in
    let φ : Goal = goal_of_node nodes c.args.number in
    let B = c.args.binding in
    let p = progress N S D φ B in
    let a = results N S D φ B in
    let pr = err_from_is_err_and c.from_residual.result c.from_residual.ensures.1 in
    stop (vec_items c.node.new.table.items) (negate p) (negate p ∷ a) c.from_residual.result pr.0 pr.1 (not-over p a c.in_err-p.ensures)

pub negated-returns : goal.negated-returns
negated-returns g t c =
    let v : List Part = vec_items c.negate.new.self.items in
    after-negate 4096 v c.in_ok-p.p c.negate.result c.in_ok-p.ensures
    c.negate.ensures

pub joined-returns-in_err-p : goal.joined-returns-in_err-p
joined-returns-in_err-p g t c =
    let N : ℕ = ids_of c.args.self.now.job.now in
    let S : Facts = facts_of (g.R.Register.meaning c.args.self.now.register.now) in
    let D : ℕ = c.args.self.now.span.hours in
    let nodes : List Node = nodes_of c.args.self.now.job.now in
    let φ : Goal = goal_of_node nodes c.args.pair.left in
    let ψ : Goal = goal_of_node nodes c.args.pair.right in
    let B = c.args.binding in
    let J = join_by c.args.pair.by in
    let p = progress N S D φ B in
    let q = progress N S D ψ B in
    let a = results N S D φ B in
    let b = results N S D ψ B in
    let pr = err_from_is_err_and c.from_residual.result c.from_residual.ensures.1 in
    stop (vec_items c.node.new.table.items) (J p q) (J p q ∷ (a ++ b)) c.from_residual.result pr.0 pr.1 (left_over J p q a b c.in_err-p.ensures)

pub joined-returns-in_err-q : goal.joined-returns-in_err-q
joined-returns-in_err-q g t c =
    let N : ℕ = ids_of c.args.self.now.job.now in
    let S : Facts = facts_of (g.R.Register.meaning c.args.self.now.register.now) in
    let D : ℕ = c.args.self.now.span.hours in
    let nodes : List Node = nodes_of c.args.self.now.job.now in
    let φ : Goal = goal_of_node nodes c.args.pair.left in
    let ψ : Goal = goal_of_node nodes c.args.pair.right in
    let B = c.args.binding in
    let J = join_by c.args.pair.by in
    let p = progress N S D φ B in
    let q = progress N S D ψ B in
    let a = results N S D φ B in
    let b = results N S D ψ B in
    let pr = err_from_is_err_and c.from_residual-in_err-q.result c.from_residual-in_err-q.ensures.1 in
    stop (vec_items c.node-2.new.table.items) (J p q) (J p q ∷ (a ++ b)) c.from_residual-in_err-q.result pr.0 pr.1
    (right_over J p q a b c.in_ok-p.ensures c.in_err-q.ensures)

pub joined-returns : goal.joined-returns
joined-returns g t c =
    let J = join_by c.args.pair.by in
    let w : List Part = (vec_items c.join.new.self.items) in
    after-join 4096 w J c.in_ok-p.p c.in_ok-q.q c.join.result c.in_ok-p.ensures c.in_ok-q.ensures
    c.join.ensures

pub until-returns-in_err-p : goal.until-returns-in_err-p
until-returns-in_err-p g t c =
    let N : ℕ = ids_of c.args.self.now.job.now in
    let S : Facts = facts_of (g.R.Register.meaning c.args.self.now.register.now) in
    let D : ℕ = c.args.self.now.span.hours in
    let nodes : List Node = nodes_of c.args.self.now.job.now in
    let k : ℕ = c.args.wait.node in
    let e = c.args.wait.ends in
    let φ : Goal = goal_of_node nodes c.args.wait.hold in
    let ψ : Goal = goal_of_node nodes c.args.wait.reach in
    let B = c.args.binding in
    let X = progress N S D (until k e φ ψ) B in
    let M = results N S D (until k e φ ψ) B in
    let pr = err_from_is_err_and c.from_residual.result c.from_residual.ensures.1 in
    stop (vec_items c.node.new.table.items) X M c.from_residual.result pr.0 pr.1 (hold_over N S D k e φ ψ B c.in_err-p.ensures)

pub until-returns-in_err-later : goal.until-returns-in_err-later
until-returns-in_err-later g t c =
    let N : ℕ = ids_of c.args.self.now.job.now in
    let S : Facts = facts_of (g.R.Register.meaning c.args.self.now.register.now) in
    let D : ℕ = c.args.self.now.span.hours in
    let nodes : List Node = nodes_of c.args.self.now.job.now in
    let k : ℕ = c.args.wait.node in
    let e = c.args.wait.ends in
    let φ : Goal = goal_of_node nodes c.args.wait.hold in
    let ψ : Goal = goal_of_node nodes c.args.wait.reach in
    let B = c.args.binding in
    let X = progress N S D (until k e φ ψ) B in
    let M = results N S D (until k e φ ψ) B in
    let pr = err_from_is_err_and c.from_residual-in_err-later.result c.from_residual-in_err-later.ensures.1 in
    stop (vec_items c.rest.new.table.items) X M c.from_residual-in_err-later.result pr.0 pr.1 (rest_over N S D k e φ ψ B c.in_ok-p.ensures c.in_err-later.ensures)

pub until-returns-in_err-q : goal.until-returns-in_err-q
until-returns-in_err-q g t c =
    let N : ℕ = ids_of c.args.self.now.job.now in
    let S : Facts = facts_of (g.R.Register.meaning c.args.self.now.register.now) in
    let D : ℕ = c.args.self.now.span.hours in
    let nodes : List Node = nodes_of c.args.self.now.job.now in
    let k : ℕ = c.args.wait.node in
    let e = c.args.wait.ends in
    let φ : Goal = goal_of_node nodes c.args.wait.hold in
    let ψ : Goal = goal_of_node nodes c.args.wait.reach in
    let B = c.args.binding in
    let X = progress N S D (until k e φ ψ) B in
    let M = results N S D (until k e φ ψ) B in
    let pr = err_from_is_err_and c.from_residual-in_err-q.result c.from_residual-in_err-q.ensures.1 in
    stop (vec_items c.join.new.self.items) X M c.from_residual-in_err-q.result pr.0 pr.1 (both-over N S D k e φ ψ B c.in_ok-p.p c.in_ok-later.later c.in_ok-p.ensures c.in_ok-later.ensures c.in_err-q.ensures)

pub until-returns-then-wait-gt0 : goal.until-returns-then-wait-gt0
until-returns-then-wait-gt0 g t c =
    let N : ℕ = ids_of c.args.self.now.job.now in
    let S : Facts = facts_of (g.R.Register.meaning c.args.self.now.register.now) in
    let D : ℕ = c.args.self.now.span.hours in
    let nodes : List Node = nodes_of c.args.self.now.job.now in
    let k : ℕ = c.args.wait.node in
    let e = c.args.wait.ends in
    let φ : Goal = goal_of_node nodes c.args.wait.hold in
    let ψ : Goal = goal_of_node nodes c.args.wait.reach in
    let B = c.args.binding in
    waits N S D k e φ ψ B c.in_ok-p.p c.in_ok-later.later c.in_ok-p.ensures c.in_ok-later.ensures c.in_ok-q.q c.in_ok-q.ensures c.if-wait-gt0.true

pub until-returns-in_err-reached : goal.until-returns-in_err-reached
until-returns-in_err-reached g t c =
    let N : ℕ = ids_of c.args.self.now.job.now in
    let S : Facts = facts_of (g.R.Register.meaning c.args.self.now.register.now) in
    let D : ℕ = c.args.self.now.span.hours in
    let nodes : List Node = nodes_of c.args.self.now.job.now in
    let k : ℕ = c.args.wait.node in
    let e = c.args.wait.ends in
    let φ : Goal = goal_of_node nodes c.args.wait.hold in
    let ψ : Goal = goal_of_node nodes c.args.wait.reach in
    let B = c.args.binding in
    let X = progress N S D (until k e φ ψ) B in
    let M = results N S D (until k e φ ψ) B in
    let pr = err_from_is_err_and c.from_residual-in_err-reached.result c.from_residual-in_err-reached.ensures.1 in
    stop (vec_items c.node-2.new.table.items) X M c.from_residual-in_err-reached.result pr.0 pr.1 (reach-over N S D k e φ ψ B c.in_ok-p.p c.in_ok-later.later c.in_ok-p.ensures c.in_ok-later.ensures c.in_ok-q.q c.in_ok-q.ensures c.if-wait-gt0.false c.in_err-reached.ensures)

pub until-returns : goal.until-returns
until-returns g t c =
    let N : ℕ = ids_of c.args.self.now.job.now in
    let S : Facts = facts_of (g.R.Register.meaning c.args.self.now.register.now) in
    let D : ℕ = c.args.self.now.span.hours in
    let nodes : List Node = nodes_of c.args.self.now.job.now in
    let k : ℕ = c.args.wait.node in
    let e = c.args.wait.ends in
    let φ : Goal = goal_of_node nodes c.args.wait.hold in
    let ψ : Goal = goal_of_node nodes c.args.wait.reach in
    let B = c.args.binding in
    reaches-it N S D k e φ ψ B c.in_ok-p.p c.in_ok-later.later c.in_ok-p.ensures c.in_ok-later.ensures c.in_ok-q.q c.in_ok-q.ensures c.if-wait-gt0.false 4096 (vec_items c.join-2.new.self.items) c.in_ok-reached.reached c.join-2.result
    c.in_ok-reached.ensures c.join-2.ensures

pub quantified-returns-in_err-so_far : goal.quantified-returns-in_err-so_far
quantified-returns-in_err-so_far g t c =
    let N : ℕ = ids_of c.args.self.now.job.now in
    let S : Facts = facts_of (g.R.Register.meaning c.args.self.now.register.now) in
    let D : ℕ = c.args.self.now.span.hours in
    let nodes : List Node = nodes_of c.args.self.now.job.now in
    let by = c.args.range.by in
    let v = c.args.range.variable in
    let at = c.args.range.bound in
    let φ : Goal = goal_of_node nodes c.args.range.body in
    let B = c.args.binding in
    let X = joined_to N S D by v at φ B N in
    let M = results_to N S D by v at φ B N in
    let pr = err_from_is_err_and c.from_residual.result c.from_residual.ensures.1 in
    stop (vec_items c.start.new.self.items) X M c.from_residual.result pr.0 pr.1 (start-over N S D by v at φ B c.in_err-so_far.ensures)

pub quantified-loop-id-init : goal.quantified-loop-id-init
quantified-loop-id-init g t c =
    let N : ℕ = ids_of c.args.self.now.job.now in
    let S : Facts = facts_of (g.R.Register.meaning c.args.self.now.register.now) in
    let D : ℕ = c.args.self.now.span.hours in
    let nodes : List Node = nodes_of c.args.self.now.job.now in
    let by = c.args.range.by in
    let v = c.args.range.variable in
    let at = c.args.range.bound in
    let φ : Goal = goal_of_node nodes c.args.range.body in
    let B = c.args.binding in
    begins N S D by v at φ B c.start.new.self.order c.in_ok-so_far.ensures

pub quantified-returns-in_err-p : goal.quantified-returns-in_err-p
quantified-returns-in_err-p g t c =
    let N : ℕ = ids_of c.args.self.now.job.now in
    let S : Facts = facts_of (g.R.Register.meaning c.args.self.now.register.now) in
    let D : ℕ = c.args.self.now.span.hours in
    let nodes : List Node = nodes_of c.args.self.now.job.now in
    let by = c.args.range.by in
    let v = c.args.range.variable in
    let at = c.args.range.bound in
    let φ : Goal = goal_of_node nodes c.args.range.body in
    let B = c.args.binding in
    let X = joined_to N S D by v at φ B N in
    let M = results_to N S D by v at φ B N in
    let pr = err_from_is_err_and c.from_residual-in_err-p.result c.from_residual-in_err-p.ensures.1 in
    let lt : c.loop-id.id < N = omega (arith, c.ids-id-end.ensures, c.loop-id-test.true) in
    stop (vec_items c.node.new.table.items) X M c.from_residual-in_err-p.result pr.0 pr.1
    (turn_over N S D by v at φ B c.in_ok-so_far.ensures
    (item-over N S D by v at φ B c.loop-id.id c.with-bound.result c.with-bound.ensures c.loop-id.so_far c.loop-id.invariant (sym c.is_fact.ensures ∙ c.if-is_fact.true) lt c.in_err-p.ensures))

pub quantified-returns-in_err-so_far-2 : goal.quantified-returns-in_err-so_far-2
quantified-returns-in_err-so_far-2 g t c =
    let N : ℕ = ids_of c.args.self.now.job.now in
    let S : Facts = facts_of (g.R.Register.meaning c.args.self.now.register.now) in
    let D : ℕ = c.args.self.now.span.hours in
    let nodes : List Node = nodes_of c.args.self.now.job.now in
    let by = c.args.range.by in
    let v = c.args.range.variable in
    let at = c.args.range.bound in
    let φ : Goal = goal_of_node nodes c.args.range.body in
    let B = c.args.binding in
    let X = joined_to N S D by v at φ B N in
    let M = results_to N S D by v at φ B N in
    let pr = err_from_is_err_and c.from_residual-in_err-so_far-2.result c.from_residual-in_err-so_far-2.ensures.1 in
    let lt : c.loop-id.id < N = omega (arith, c.ids-id-end.ensures, c.loop-id-test.true) in
    stop (vec_items c.join.new.self.items) X M c.from_residual-in_err-so_far-2.result pr.0 pr.1
    (turn_over N S D by v at φ B c.in_ok-so_far.ensures
    (join-over N S D by v at φ B c.loop-id.id c.with-bound.result c.with-bound.ensures c.loop-id.so_far c.loop-id.invariant (sym c.is_fact.ensures ∙ c.if-is_fact.true) c.in_ok-p.p c.in_ok-p.ensures
    lt c.in_err-so_far-2.ensures))

pub quantified-loop-id-preserved : goal.quantified-loop-id-preserved
quantified-loop-id-preserved g t c =
    let N : ℕ = ids_of c.args.self.now.job.now in
    let S : Facts = facts_of (g.R.Register.meaning c.args.self.now.register.now) in
    let D : ℕ = c.args.self.now.span.hours in
    let nodes : List Node = nodes_of c.args.self.now.job.now in
    let by = c.args.range.by in
    let v = c.args.range.variable in
    let at = c.args.range.bound in
    let φ : Goal = goal_of_node nodes c.args.range.body in
    let B = c.args.binding in
    let Goes : Table 4096 → ℕ → Type 0 = λ tb j. Made (vec_items c.start.new.self.items) (vec_items tb.items) (joined_to N S D by v at φ B (c.loop-id.id + 1)) (results_to N S D by v at φ B (c.loop-id.id + 1)) j in
    elim c.if-is_fact.branch [
      | quantified-then-is_fact+in_ok-p+in_ok-so_far-2 w ↦
          subst (λ (tb : Table 4096). Goes tb c.if-is_fact.so_far) (sym w.table-is)
          (subst (Goes w.join.new.self) (sym w.so_far-is)
          (joins N S D by v at φ B c.loop-id.id c.with-bound.result c.with-bound.ensures c.loop-id.so_far c.loop-id.invariant (sym c.is_fact.ensures ∙ w.if-is_fact.true) w.in_ok-p.p w.in_ok-p.ensures
          w.in_ok-so_far-2.ensures))
      | quantified-else-is_fact w ↦
          subst (λ (tb : Table 4096). Goes tb c.if-is_fact.so_far) (sym w.table-is)
          (subst (Goes c.loop-id.table) (sym w.so_far-is)
          (skips N S D by v at φ B c.loop-id.id c.with-bound.result c.with-bound.ensures c.loop-id.so_far c.loop-id.invariant (sym c.is_fact.ensures ∙ w.if-is_fact.false)))
    ]

pub quantified-returns : goal.quantified-returns
quantified-returns g t c =
    let N : ℕ = ids_of c.args.self.now.job.now in
    let S : Facts = facts_of (g.R.Register.meaning c.args.self.now.register.now) in
    let D : ℕ = c.args.self.now.span.hours in
    let nodes : List Node = nodes_of c.args.self.now.job.now in
    let by = c.args.range.by in
    let v = c.args.range.variable in
    let at = c.args.range.bound in
    let φ : Goal = goal_of_node nodes c.args.range.body in
    let B = c.args.binding in
    let n : c.loop-id.id ≡ N = omega (arith, c.ids-id-end.ensures) in
    all_turns N S D by v at φ B c.loop-id.id n c.in_ok-so_far.ensures c.loop-id.invariant
