use Rattle.std.proofs.Common.{◌≡◌, ℕ, ◌<◌, Bool, true, false, eqb, List, sym, ap, ◌∙◌, ap₂, arith}
use Rattle.goals.specs.declared.goal.Node.{Node}
use Rattle.goals.specs.declared.goal.Node.TheVariants.{True, Test, Equal, Not, And, Or, Next, Until, ForAll, Exists}
use Rattle.goals.specs.JobView.{ids_of, nodes_of}
use Rattle.labels.specs.declared.binding.Binding.{Binding}
use Rattle.labels.specs.Facts.{Facts, bind, fact}
use Rattle.labels.specs.Goals.{Goal, goal_of_node}
use Rattle.labels.specs.Idling.{agrees, idles}
use Rattle.labels.specs.Held.{facts_of}
use Rattle.labels.proofs.Trees.{tree-read}
use Rattle.labels.proofs.Shapes.{keeps_wait, keeps-range}
use Rattle.labels.proofs.Idles.{same-agrees, some-here, some_out, some_miss, idle_top, idle_test, idle_equal, idle_next, idle_not, idle_and_no, idle_and_yes, idle_or_yes, idle_or_no, idle_until_now, idle-until-no, idle-until-yes, idle_all, idle_exists}
use Rattle.labels.proofs.idle.Idling.+any_node_until.Goals as goal
use Rattle.labels.proofs.idle.Idling.+any_node_until.Goals.{until-else-wait-gt0-via-then-wait-gt0+else-not-node, until-else-wait-gt0-via-else-wait-gt0, any-else-is_fact-via-then-is_fact+else-node-wanted, any-else-is_fact-via-else-is_fact}

pub node-returns-in-True : goal.node-returns-in-True
node-returns-in-True g t c =
    let N : ℕ = ids_of c.args.self.now.job.now in
    let S : Facts = facts_of (g.R.Register.meaning c.args.self.now.register.now) in
    let nodes : List Node = nodes_of c.args.self.now.job.now in
    let B : Binding = c.args.binding in
    let k : ℕ = c.args.number in
    let tree = tree-read nodes k (True) c.node_at.ensures.value c.node_at.ensures.below c.in-True.is in
    idle_top N S k B
    ∙ ap (λ (φ : Goal). idles N S φ B) (sym tree)

pub node-returns-in-Test : goal.node-returns-in-Test
node-returns-in-Test g t c =
    let N : ℕ = ids_of c.args.self.now.job.now in
    let S : Facts = facts_of (g.R.Register.meaning c.args.self.now.register.now) in
    let nodes : List Node = nodes_of c.args.self.now.job.now in
    let B : Binding = c.args.binding in
    let k : ℕ = c.args.number in
    let tree = tree-read nodes k (Test c.in-Test.atom) c.node_at.ensures.value c.node_at.ensures.below c.in-Test.is in
    idle_test N S k B c.in-Test.atom c.is_fact.result c.is_fact.ensures
    ∙ ap (λ (φ : Goal). idles N S φ B) (sym tree)

pub node-returns-in-Equal : goal.node-returns-in-Equal
node-returns-in-Equal g t c =
    let N : ℕ = ids_of c.args.self.now.job.now in
    let S : Facts = facts_of (g.R.Register.meaning c.args.self.now.register.now) in
    let nodes : List Node = nodes_of c.args.self.now.job.now in
    let B : Binding = c.args.binding in
    let k : ℕ = c.args.number in
    let tree = tree-read nodes k (Equal c.in-Equal.left c.in-Equal.right) c.node_at.ensures.value c.node_at.ensures.below c.in-Equal.is in
    idle_equal N S k B c.in-Equal.left c.in-Equal.right (eqb c.value.result c.value-in-Equal.result) (ap₂ eqb c.value.ensures c.value-in-Equal.ensures)
    ∙ ap (λ (φ : Goal). idles N S φ B) (sym tree)

pub node-returns-in-Not : goal.node-returns-in-Not
node-returns-in-Not g t c =
    let N : ℕ = ids_of c.args.self.now.job.now in
    let S : Facts = facts_of (g.R.Register.meaning c.args.self.now.register.now) in
    let nodes : List Node = nodes_of c.args.self.now.job.now in
    let B : Binding = c.args.binding in
    let k : ℕ = c.args.number in
    let tree = tree-read nodes k (Not c.in-Not.x) c.node_at.ensures.value c.node_at.ensures.below c.in-Not.is in
    idle_not N S k B (goal_of_node nodes c.in-Not.x) c.node.result c.node.ensures
    ∙ ap (λ (φ : Goal). idles N S φ B) (sym tree)

pub node-returns-in-Next : goal.node-returns-in-Next
node-returns-in-Next g t c =
    let N : ℕ = ids_of c.args.self.now.job.now in
    let S : Facts = facts_of (g.R.Register.meaning c.args.self.now.register.now) in
    let nodes : List Node = nodes_of c.args.self.now.job.now in
    let B : Binding = c.args.binding in
    let k : ℕ = c.args.number in
    let tree = tree-read nodes k (Next c.in-Next.x) c.node_at.ensures.value c.node_at.ensures.below c.in-Next.is in
    idle_next N S k B (goal_of_node nodes c.in-Next.x) c.node-in-Next.result c.node-in-Next.ensures
    ∙ ap (λ (φ : Goal). idles N S φ B) (sym tree)

pub node-returns-else-node : goal.node-returns-else-node
node-returns-else-node g t c =
    let N : ℕ = ids_of c.args.self.now.job.now in
    let S : Facts = facts_of (g.R.Register.meaning c.args.self.now.register.now) in
    let nodes : List Node = nodes_of c.args.self.now.job.now in
    let B : Binding = c.args.binding in
    let k : ℕ = c.args.number in
    let tree = tree-read nodes k (And c.in-And.left c.in-And.right) c.node_at.ensures.value c.node_at.ensures.below c.in-And.is in
    c.if-node.false
    ∙ idle_and_no N S k B (goal_of_node nodes c.in-And.left) (goal_of_node nodes c.in-And.right) c.node-in-And.result c.node-in-And.ensures c.if-node.false
    ∙ ap (λ (φ : Goal). idles N S φ B) (sym tree)

pub node-returns-then-node : goal.node-returns-then-node
node-returns-then-node g t c =
    let N : ℕ = ids_of c.args.self.now.job.now in
    let S : Facts = facts_of (g.R.Register.meaning c.args.self.now.register.now) in
    let nodes : List Node = nodes_of c.args.self.now.job.now in
    let B : Binding = c.args.binding in
    let k : ℕ = c.args.number in
    let tree = tree-read nodes k (And c.in-And.left c.in-And.right) c.node_at.ensures.value c.node_at.ensures.below c.in-And.is in
    idle_and_yes N S k B (goal_of_node nodes c.in-And.left) (goal_of_node nodes c.in-And.right) c.node-in-And.result c.node-in-And.ensures c.if-node.true c.node-then-node.result c.node-then-node.ensures
    ∙ ap (λ (φ : Goal). idles N S φ B) (sym tree)

pub node-returns-then-node-2 : goal.node-returns-then-node-2
node-returns-then-node-2 g t c =
    let N : ℕ = ids_of c.args.self.now.job.now in
    let S : Facts = facts_of (g.R.Register.meaning c.args.self.now.register.now) in
    let nodes : List Node = nodes_of c.args.self.now.job.now in
    let B : Binding = c.args.binding in
    let k : ℕ = c.args.number in
    let tree = tree-read nodes k (Or c.in-Or.left c.in-Or.right) c.node_at.ensures.value c.node_at.ensures.below c.in-Or.is in
    c.if-node-2.true
    ∙ idle_or_yes N S k B (goal_of_node nodes c.in-Or.left) (goal_of_node nodes c.in-Or.right) c.node-in-Or.result c.node-in-Or.ensures c.if-node-2.true
    ∙ ap (λ (φ : Goal). idles N S φ B) (sym tree)

pub node-returns-else-node-2 : goal.node-returns-else-node-2
node-returns-else-node-2 g t c =
    let N : ℕ = ids_of c.args.self.now.job.now in
    let S : Facts = facts_of (g.R.Register.meaning c.args.self.now.register.now) in
    let nodes : List Node = nodes_of c.args.self.now.job.now in
    let B : Binding = c.args.binding in
    let k : ℕ = c.args.number in
    let tree = tree-read nodes k (Or c.in-Or.left c.in-Or.right) c.node_at.ensures.value c.node_at.ensures.below c.in-Or.is in
    idle_or_no N S k B (goal_of_node nodes c.in-Or.left) (goal_of_node nodes c.in-Or.right) c.node-in-Or.result c.node-in-Or.ensures c.if-node-2.false c.node-else-node-2.result c.node-else-node-2.ensures
    ∙ ap (λ (φ : Goal). idles N S φ B) (sym tree)

pub node-returns-in-Until : goal.node-returns-in-Until
node-returns-in-Until g t c =
    let N : ℕ = ids_of c.args.self.now.job.now in
    let S : Facts = facts_of (g.R.Register.meaning c.args.self.now.register.now) in
    let nodes : List Node = nodes_of c.args.self.now.job.now in
    let B : Binding = c.args.binding in
    let k : ℕ = c.args.number in
    let tree = tree-read nodes k (Until c.in-Until.ends c.in-Until.hold c.in-Until.reach) c.node_at.ensures.value c.node_at.ensures.below c.in-Until.is in
    keeps_wait c.args.self.now.job.now (g.R.Register.meaning c.args.self.now.register.now) c.args.binding c.new.ensures c.until.ensures
    ∙ ap (λ (φ : Goal). idles N S φ B) (sym tree)

pub node-returns-in-ForAll : goal.node-returns-in-ForAll
node-returns-in-ForAll g t c =
    let N : ℕ = ids_of c.args.self.now.job.now in
    let S : Facts = facts_of (g.R.Register.meaning c.args.self.now.register.now) in
    let nodes : List Node = nodes_of c.args.self.now.job.now in
    let B : Binding = c.args.binding in
    let k : ℕ = c.args.number in
    let tree = tree-read nodes k (ForAll c.in-ForAll.variable c.in-ForAll.bound c.in-ForAll.body) c.node_at.ensures.value c.node_at.ensures.below c.in-ForAll.is in
    idle_all N S k B c.in-ForAll.variable c.in-ForAll.bound (goal_of_node nodes c.in-ForAll.body) c.any.result (keeps-range c.args.self.now.job.now (g.R.Register.meaning c.args.self.now.register.now) c.args.binding false c.new-range.ensures c.any.ensures)
    ∙ ap (λ (φ : Goal). idles N S φ B) (sym tree)

pub node-returns-in-Exists : goal.node-returns-in-Exists
node-returns-in-Exists g t c =
    let N : ℕ = ids_of c.args.self.now.job.now in
    let S : Facts = facts_of (g.R.Register.meaning c.args.self.now.register.now) in
    let nodes : List Node = nodes_of c.args.self.now.job.now in
    let B : Binding = c.args.binding in
    let k : ℕ = c.args.number in
    let tree = tree-read nodes k (Exists c.in-Exists.variable c.in-Exists.bound c.in-Exists.body) c.node_at.ensures.value c.node_at.ensures.below c.in-Exists.is in
    idle_exists N S k B c.in-Exists.variable c.in-Exists.bound (goal_of_node nodes c.in-Exists.body) c.any-in-Exists.result (keeps-range c.args.self.now.job.now (g.R.Register.meaning c.args.self.now.register.now) c.args.binding true c.new-range-in-Exists.ensures c.any-in-Exists.ensures)
    ∙ ap (λ (φ : Goal). idles N S φ B) (sym tree)

pub until-returns-then-not-node : goal.until-returns-then-not-node
until-returns-then-not-node g t c =
    let N : ℕ = ids_of c.args.self.now.job.now in
    let S : Facts = facts_of (g.R.Register.meaning c.args.self.now.register.now) in
    let nodes : List Node = nodes_of c.args.self.now.job.now in
    let B : Binding = c.args.binding in
    idle-until-no N S c.args.wait.node B c.args.wait.ends (goal_of_node nodes c.args.wait.hold) (goal_of_node nodes c.args.wait.reach) (λ e. omega arith) c.node.result c.node.ensures c.if-not-node.true

pub until-returns : goal.until-returns
until-returns g t c =
    let N : ℕ = ids_of c.args.self.now.job.now in
    let S : Facts = facts_of (g.R.Register.meaning c.args.self.now.register.now) in
    let nodes : List Node = nodes_of c.args.self.now.job.now in
    let B : Binding = c.args.binding in
    let φ : Goal = goal_of_node nodes c.args.wait.hold in
    let ψ : Goal = goal_of_node nodes c.args.wait.reach in
    elim c.else-wait-gt0.branch [
      | until-else-wait-gt0-via-then-wait-gt0+else-not-node w ↦
          idle-until-yes N S c.args.wait.node B c.args.wait.ends φ ψ (λ e. omega arith) w.node.result w.node.ensures w.if-not-node.false c.node-2.result c.node-2.ensures
      | until-else-wait-gt0-via-else-wait-gt0 w ↦
          idle_until_now N S c.args.wait.node B c.args.wait.ends φ ψ (omega arith) c.node-2.result c.node-2.ensures
    ]

pub any-returns-then-node-wanted : goal.any-returns-then-node-wanted
any-returns-then-node-wanted g t c =
    let N : ℕ = ids_of c.args.self.now.job.now in
    let S : Facts = facts_of (g.R.Register.meaning c.args.self.now.register.now) in
    let nodes : List Node = nodes_of c.args.self.now.job.now in
    let B : Binding = c.args.binding in
    let v = c.args.range.variable in
    let a = c.args.range.bound in
    let φ : Goal = goal_of_node nodes c.args.range.body in
    let range : ℕ → Bool = λ x. fact S (bind v x B) a in
    let item : ℕ → Bool = λ x. agrees c.args.wanted (idles N S φ (bind v x B)) in
    let id : ℕ = c.loop-id.id in
    let is : c.with-bound.result ≡ bind v id B = c.with-bound.ensures in
    let lt : id < N = omega (arith, c.ids-id-end.ensures, c.loop-id-test.true) in
    some-here range item id N lt
    (ap (λ (w : Binding). fact S w a) (sym is) ∙ (sym c.is_fact.ensures ∙ c.if-is_fact.true))
    (ap (λ (w : Binding). agrees c.args.wanted (idles N S φ w)) (sym is)
    ∙ (ap (agrees c.args.wanted) (sym c.node.ensures) ∙ (sym (same-agrees c.node.result c.args.wanted) ∙ c.if-node-wanted.true)))

pub any-loop-id-preserved : goal.any-loop-id-preserved
any-loop-id-preserved g t c =
    let N : ℕ = ids_of c.args.self.now.job.now in
    let S : Facts = facts_of (g.R.Register.meaning c.args.self.now.register.now) in
    let nodes : List Node = nodes_of c.args.self.now.job.now in
    let B : Binding = c.args.binding in
    let v = c.args.range.variable in
    let a = c.args.range.bound in
    let φ : Goal = goal_of_node nodes c.args.range.body in
    let range : ℕ → Bool = λ x. fact S (bind v x B) a in
    let item : ℕ → Bool = λ x. agrees c.args.wanted (idles N S φ (bind v x B)) in
    let id : ℕ = c.loop-id.id in
    let is : c.with-bound.result ≡ bind v id B = c.with-bound.ensures in
    elim c.else-is_fact.branch [
      | any-else-is_fact-via-then-is_fact+else-node-wanted w ↦ some_miss range item id c.loop-id.invariant
          (ap (λ (z : Binding). agrees c.args.wanted (idles N S φ z)) (sym is)
          ∙ (ap (agrees c.args.wanted) (sym w.node.ensures) ∙ (sym (same-agrees w.node.result c.args.wanted) ∙ w.if-node-wanted.false)))
      | any-else-is_fact-via-else-is_fact w ↦ some_out range item id c.loop-id.invariant
          (ap (λ (z : Binding). fact S z a) (sym is) ∙ (sym c.is_fact.ensures ∙ w.if-is_fact.false))
    ]
