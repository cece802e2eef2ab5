use Rattle.std.proofs.Common.{◌≡◌, ℕ, true, false, ◌&&◌, ltb, List, vec_items, ◌∙◌, ap₂, rules}
use Rattle.std.proofs.lemmas.Iterator.{cases_from_all, YieldsList-from_slice}
use Rattle.labels.specs.declared.part.Part.{Part}
use Rattle.labels.specs.Known.{ids_below, known_part}
use Rattle.labels.specs.Labels.{every_pending}
use Rattle.labels.specs.LabelCalls.{label_of, known_to}
use Rattle.labels.specs.Table.{label_at}
use Rattle.labels.proofs.Labelled.{all_told}
use Rattle.labels.proofs.known.is_known.Goals as goal

pub returns : goal.returns
unfolding label_of known_to
returns c =
    let l = c.args.label.now in
    let t : List Part = vec_items l.table.items in
    let n : ℕ = c.node_count-nodes.result in
    let N : ℕ = c.ids-ids.result in
    let told = cases_from_all _ _ c.all.result (λ p. known_part n N p ≡ true) (λ p. known_part n N p ≡ false) c.all.ensures.ran
    (YieldsList-from_slice t cc) (λ x q k. search rules) (λ x q k. search rules) in
    all_told (λ k b e. ltb k n && ids_below N b) t l.table.order l.root l.inside l.only c.all.result told
    ∙ ap₂ (λ x y. every_pending (λ k b e. ltb k x && ids_below y b) (label_at t l.root)) c.node_count-nodes.ensures c.ids-ids.ensures
