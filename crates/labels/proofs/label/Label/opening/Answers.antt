use Rattle.std.proofs.Common.{◌≡◌, ℕ, List, [], ◌∷◌, get_or, vec_items, sym, ap, ◌∙◌, subst}
use Rattle.goals.specs.declared.goal.Ends.{Ends}
use Rattle.goals.specs.declared.goal.Node.{Node}
use Rattle.goals.specs.declared.goal.Node.TheVariants.{True}
use Rattle.goals.specs.JobView.{nodes_of, root_of, sound}
use Rattle.labels.specs.declared.part.Part.{Part}
use Rattle.labels.specs.Facts.{unbound}
use Rattle.labels.specs.Goals.{node_ends, goal_of_node}
use Rattle.labels.specs.Labels.{Label, pending, waiting}
use Rattle.labels.specs.Order.{ordered_label}
use Rattle.labels.specs.Table.{label_at}
use Rattle.labels.specs.Growth.{Made, Over}
use Rattle.labels.specs.LabelCalls.{label_of, opening_of}
use Rattle.labels.proofs.Trees.{waiting-at}
use Rattle.labels.proofs.Labelled.{none-is-empty, only_grown, one-fits}
use Rattle.labels.proofs.Meanings.{opening-ordered}
use Rattle.labels.proofs.label.Label.opening.Goals as goal

pub unreachable-requires : goal.unreachable-requires
unreachable-requires c =
    let q : Label = pending c.root-node.result unbound c.own_ends-ends.result in
    let e = none-is-empty (vec_items c.args.room.table.items) c.args.room.empty in
    one-fits c.root-node.result unbound c.own_ends-ends.result
    (subst (λ (t : List Part). Over 512 t (q ∷ [])) e c.in_default.ensures)

opens : (nodes : List Node) (root k : ℕ) (e : Ends) (nd : Node) → k ≡ root → e ≡ node_ends nd → nd ≡ get_or nodes k True →
    pending k unbound e ≡ waiting (goal_of_node nodes root) unbound
opens nodes root k e nd ek ee en =
    ap (pending k unbound) (ee ∙ ap node_ends en)
    ∙ (sym (waiting-at nodes k unbound) ∙ ap (λ (j : ℕ). waiting (goal_of_node nodes j) unbound) ek)

pub invariant_of-result : goal.invariant_of-result
unfolding opening_of
invariant_of-result c =
    let job = c.args.job.now in
    let q : Label = pending c.root-node.result unbound c.own_ends-ends.result in
    let new : List Part = vec_items c.add.new.self.items in
    let e = none-is-empty (vec_items c.args.room.table.items) c.args.room.empty in
    let m : Made [] new q (q ∷ []) c.in-Ok.root = subst (λ (t : List Part). Made t new q (q ∷ []) c.in-Ok.root) e c.in-Ok.ensures in
    let is : label_at new c.in-Ok.root ≡ opening_of job = m.is
    ∙ opens (nodes_of job) (root_of job) c.root-node.result c.own_ends-ends.result c.node_at.result.now
    c.root-node.ensures c.own_ends-ends.ensures c.node_at.ensures.value in
    record {
      inside = m.within;
      only = only_grown m;
      ordered = ap ordered_label is ∙ opening-ordered job (sound c.args.job.now);
    }

pub returns : goal.returns
unfolding label_of opening_of
returns c =
    let job = c.args.job.now in
    c.in-Ok.ensures.is
    ∙ opens (nodes_of job) (root_of job) c.root-node.result c.own_ends-ends.result c.node_at.result.now
    c.root-node.ensures c.own_ends-ends.ensures c.node_at.ensures.value
