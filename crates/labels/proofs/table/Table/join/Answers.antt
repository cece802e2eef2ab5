use Rattle.std.proofs.Common.{◌≡◌, List, get_or, vec_items, ap, ◌∙◌, rules}
use Rattle.labels.specs.declared.part.Part.{Part}
use Rattle.labels.specs.declared.part.Part.TheVariants.{True}
use Rattle.labels.specs.Connectives.{join_by, absorbing_part, neutral_part}
use Rattle.labels.specs.Table.{composed, label_at}
use Rattle.labels.proofs.Growing.{stands}
use Rattle.labels.proofs.Calls.{at_label}
use Rattle.labels.proofs.Joins.{left_absorbs, right_absorbs, left_leaves, right_leaves, one_label, two_labels}
use Rattle.labels.proofs.table.Table.join.Goals as goal
use Rattle.labels.proofs.table.Table.join.Goals.{then-eq-4-via-then-eq-4, then-eq-4-via-else-eq-4+then-i-j}

pub returns-then-eq : goal.returns-then-eq
returns-then-eq g c =
    let t : List Part = vec_items c.args.self.now.items in
    let is : get_or t c.args.i True ≡ absorbing_part c.args.by = search rules in
    stands t c.args.self.now.order (join_by c.args.by (label_at t c.args.i) (label_at t c.args.j)) c.args.i c.requires.left
    (left_absorbs c.args.by t c.args.self.now.order c.args.i c.args.j c.requires.left c.requires.right is)

pub returns-then-eq-2 : goal.returns-then-eq-2
returns-then-eq-2 g c =
    let t : List Part = vec_items c.args.self.now.items in
    let is : get_or t c.args.j True ≡ absorbing_part c.args.by = search rules in
    stands t c.args.self.now.order (join_by c.args.by (label_at t c.args.i) (label_at t c.args.j)) c.args.j c.requires.right
    (right_absorbs c.args.by t c.args.self.now.order c.args.i c.args.j c.requires.left c.requires.right is)

pub returns-then-eq-3 : goal.returns-then-eq-3
returns-then-eq-3 g c =
    let t : List Part = vec_items c.args.self.now.items in
    let is : get_or t c.args.i True ≡ neutral_part c.args.by = search rules in
    stands t c.args.self.now.order (join_by c.args.by (label_at t c.args.i) (label_at t c.args.j)) c.args.j c.requires.right
    (left_leaves c.args.by t c.args.self.now.order c.args.i c.args.j c.requires.left c.requires.right is)

pub returns-then-eq-4 : goal.returns-then-eq-4
returns-then-eq-4 g c =
    let t : List Part = vec_items c.args.self.now.items in
    stands t c.args.self.now.order (join_by c.args.by (label_at t c.args.i) (label_at t c.args.j)) c.args.i c.requires.left
    (elim c.then-eq-4.branch [
      | then-eq-4-via-then-eq-4 w ↦
          let is : get_or t c.args.j True ≡ neutral_part c.args.by = search rules in
          right_leaves c.args.by t c.args.self.now.order c.args.i c.args.j c.requires.left c.requires.right is
      | then-eq-4-via-else-eq-4+then-i-j w ↦
          one_label c.args.by t c.args.self.now.order c.args.i c.args.j c.requires.left c.requires.right w.if-i-j.true
    ])

pub returns : goal.returns
returns g c =
    let t : List Part = vec_items c.args.self.now.items in
    let is = two_labels c.args.by t c.args.self.now.order c.args.i c.args.j c.requires.left c.requires.right c.args.self.now.twins
    (λ e. search rules) (λ e. search rules) (λ e. search rules) (λ e. search rules) (λ e. search rules) in
    at_label g.row.LIMIT t (vec_items c.add.new.self.items) c.add.result (ap (composed (label_at t)) c.joined.ensures ∙ is) c.add.ensures
