use Rattle.std.proofs.Common.{◌≡◌, ℕ, ◌<◌, ◌≤◌, Bool, false, List, length, get_or, set, vec_items, vec_len, sym, ap, ◌∙◌, arith}
use native.Mathlib.Decide.{dec_lt}
use Rattle.std.proofs.lemmas.List.{get_or-set_same, get_or-set_other}
use Rattle.goals.specs.declared.goal.Node.{Node}
use Rattle.goals.specs.JobView.{ids_of, nodes_of}
use Rattle.labels.specs.declared.part.Part.{Part}
use Rattle.labels.specs.declared.part.Part.TheVariants.{True}
use Rattle.labels.specs.Facts.{Facts}
use Rattle.labels.specs.Idling.{idling}
use Rattle.labels.specs.Table.{label_at}
use Rattle.labels.specs.Held.{facts_of}
use Rattle.labels.proofs.Parting.{part_idles-is}
use Rattle.labels.proofs.idle.Idling.every_part.Goals as goal

pub loop-k-preserved : goal.loop-k-preserved
loop-k-preserved g c =
    let N : ℕ = ids_of c.args.self.now.job.now in
    let S : Facts = facts_of (g.R.Register.meaning c.args.self.now.register.now) in
    let nodes : List Node = nodes_of c.args.self.now.job.now in
    let l = c.args.label.now in
    let t : List Part = vec_items l.table.items in
    let gave : List Bool = c.loop-k.gave in
    let k : ℕ = c.loop-k.k in
    let y : vec_len l.table.items ≡ length t = l.table.items.ok.0 in
    let room : length t ≤ length c.args.gave.now = c.requires in
    let parts : c.parts-part-items.result.now ≡ t = c.parts-part-items.ensures in
    let part : Part = get_or c.parts-part-items.result.now k True in
    let here : get_or t k True ≡ part = ap (λ (u : List Part). get_or u k True) (sym parts) in
    let kl : k < length t = omega (arith, ap length parts, c.loop-k-test.true) in
    let r : Bool = c.one_part.result in
    let is : r ≡ idling N S nodes (label_at t k) =
    c.one_part.ensures
    ∙ part_idles-is N S nodes t l.table.order (λ x. get_or gave x false) k kl c.loop-k.invariant part here in
    λ j jl. elim (dec_lt j k) [
      | yes lt ↦ get_or-set_other gave k j r false (λ e. omega arith) ∙ c.loop-k.invariant j lt
      | no m ↦
          let e : j ≡ k = omega arith in
          ap (λ (i : ℕ). get_or (set gave k r) i false) e
          ∙ (get_or-set_same gave k r false (omega arith) ∙ (is ∙ ap (λ (i : ℕ). idling N S nodes (label_at t i)) (sym e)))
    ]
