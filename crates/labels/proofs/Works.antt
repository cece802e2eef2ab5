-- The work of a step goes by the set of the label's parts.
use Rattle.std.proofs.Common.{ℕ, List, refl}
use Rattle.goals.specs.declared.goal.Node.{Node}
use Rattle.labels.specs.Facts.{Facts}
use Rattle.labels.specs.Labels.{Label, parts}
use Rattle.labels.specs.Work.{all_parts, own_results, each_results, work}
use Rattle.labels.specs.TableClaims.{Subset, WorkGoesByParts}
use Rattle.labels.proofs.Members.{gathered, all_parts_subset}
use Rattle.labels.proofs.Counting.{counted}

module _ (N : ℕ) (s : Facts) (D : ℕ) (table : List Node) where
  -- the results with their parts, for some parts more
  pub results_subset : (ps qs : List Label) → Subset ps qs →
      Subset (all_parts (each_results N s D table ps)) (all_parts (each_results N s D table qs))
  unfolding each_results
  results_subset ps qs w =
      all_parts_subset (each_results N s D table ps) (each_results N s D table qs)
      (gathered (own_results N s D table) (each_results N s D table) refl (λ q rest. refl) ps qs w)

pub by_parts : WorkGoesByParts
unfolding work
by_parts N s D table l ps ys a b u w =
    let up = results_subset N s D table ps (parts l) a in
    let down = results_subset N s D table (parts l) ps b in
    let c = counted (all_parts (each_results N s D table (parts l))) ys u (λ x t. up x (w x t)) in
    (c.0, λ v. c.1 (λ x t. v x (down x t)))
