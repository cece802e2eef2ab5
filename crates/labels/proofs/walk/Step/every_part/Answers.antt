use Rattle.std.proofs.Common.{◌≡◌, ℕ, ◌<◌, ◌≤◌, List, length, get_or, vec_items, ap, sym, subst, arith}
use Rattle.std.proofs.lemmas.Result.{err_from_is_err_and}
use Rattle.goals.specs.declared.goal.Node.{Node}
use Rattle.goals.specs.JobView.{ids_of, nodes_of}
use Rattle.labels.specs.declared.part.Part.{Part}
use Rattle.labels.specs.declared.part.Part.TheVariants.{True}
use Rattle.labels.specs.Facts.{Facts}
use Rattle.labels.specs.Held.{facts_of}
use Rattle.labels.specs.Partwise.{ProgressedTo}
use Rattle.labels.proofs.Parting.{parts_none, parts-over, parts_more, parts_all, all_stop}
use Rattle.labels.proofs.walk.Step.every_part.Goals as goal

pub loop-k-init : goal.loop-k-init
loop-k-init g c =
    let N : ℕ = ids_of c.args.self.now.job.now in
    let S : Facts = facts_of (g.R.Register.meaning c.args.self.now.register.now) in
    let D : ℕ = c.args.self.now.span.hours in
    let nodes : List Node = nodes_of c.args.self.now.job.now in
    let t : List Part = vec_items c.args.source.now.items in
    let order = c.args.source.now.order in
    (parts_none N S D nodes t order (vec_items c.args.table.now.items), λ j l. absurd (omega arith))

pub returns-in_err-to : goal.returns-in_err-to
returns-in_err-to g c =
    let N : ℕ = ids_of c.args.self.now.job.now in
    let S : Facts = facts_of (g.R.Register.meaning c.args.self.now.register.now) in
    let D : ℕ = c.args.self.now.span.hours in
    let nodes : List Node = nodes_of c.args.self.now.job.now in
    let t : List Part = vec_items c.args.source.now.items in
    let order = c.args.source.now.order in
    let d : List Part = vec_items c.loop-k.table.items in
    let k : ℕ = c.loop-k.k in
    let to : List ℕ = c.loop-k.to in
    let long : length t ≤ length c.args.to.now = c.requires in
    let parts : c.parts-part-items.result.now ≡ t = c.parts-part-items.ensures in
    let part : Part = get_or c.parts-part-items.result.now k True in
    let here : get_or t k True ≡ part = ap (λ (u : List Part). get_or u k True) (sym parts) in
    let kl : k < length t = omega (arith, ap length parts, c.loop-k-test.true) in
    let pr = err_from_is_err_and c.from_residual.result c.from_residual.ensures.1 in
    all_stop N S D nodes t to (vec_items c.one_part.new.table.items) c.from_residual.result pr.0 pr.1
    (parts-over N S D nodes t order to d k kl c.loop-k.invariant.1 part here c.loop-k.invariant.0
    c.in_err-to.ensures)

pub loop-k-preserved : goal.loop-k-preserved
loop-k-preserved g c =
    let N : ℕ = ids_of c.args.self.now.job.now in
    let S : Facts = facts_of (g.R.Register.meaning c.args.self.now.register.now) in
    let D : ℕ = c.args.self.now.span.hours in
    let nodes : List Node = nodes_of c.args.self.now.job.now in
    let t : List Part = vec_items c.args.source.now.items in
    let order = c.args.source.now.order in
    let d : List Part = vec_items c.loop-k.table.items in
    let k : ℕ = c.loop-k.k in
    let to : List ℕ = c.loop-k.to in
    let long : length t ≤ length c.args.to.now = c.requires in
    let parts : c.parts-part-items.result.now ≡ t = c.parts-part-items.ensures in
    let part : Part = get_or c.parts-part-items.result.now k True in
    let here : get_or t k True ≡ part = ap (λ (u : List Part). get_or u k True) (sym parts) in
    let kl : k < length t = omega (arith, ap length parts, c.loop-k-test.true) in
    parts_more N S D nodes t order to d k kl c.loop-k.invariant.1 part here c.in_ok-to.field-0 (omega arith)
    c.loop-k.invariant.0 c.in_ok-to.ensures

pub returns : goal.returns
returns g c =
    let N : ℕ = ids_of c.args.self.now.job.now in
    let S : Facts = facts_of (g.R.Register.meaning c.args.self.now.register.now) in
    let D : ℕ = c.args.self.now.span.hours in
    let nodes : List Node = nodes_of c.args.self.now.job.now in
    let t : List Part = vec_items c.args.source.now.items in
    let order = c.args.source.now.order in
    let n : c.loop-k.k ≡ length t = omega (arith, ap length c.parts-part-items.ensures) in
    record {
      grew = parts_all N S D nodes t order c.loop-k.k n c.loop-k.invariant.0;
      placed = subst (ProgressedTo N S D nodes t c.loop-k.to (vec_items c.loop-k.table.items)) n c.loop-k.invariant.1;
    }
