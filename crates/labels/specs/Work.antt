-- The work of a step: every result of its rules (progress, rests, joinings, starts, running results) with its parts.
-- No rule is skipped; an until with a lower end above 0 does not progress its second part.
use Rattle.std.specs.Prelude.{ℕ, zero, suc, Bool, true, false, List, [], ◌∷◌, ◌++◌, nat_lt}
use Rattle.goals.specs.declared.goal.Node.{Node}
use Rattle.labels.specs.declared.binding.Binding.{Binding}
use Rattle.labels.specs.Facts.{Facts, bind, fact}
use Rattle.labels.specs.Goals.{Goal, top, test, equal, neg, conj, disj, next, until, for_all, exists, with_ends, goal_of_node}
use Rattle.labels.specs.Labels.{Label, true_label, false_label, pending, not_label, and_label, or_label, parts}
use Rattle.labels.specs.Size.{distinct}
use Rattle.labels.specs.Joining.{conjoin, disjoin, joined}
use Rattle.labels.specs.Progress.{rest, progress, progressed}

-- the labels of a list with their parts
unfoldable pub all_parts : List Label → List Label
all_parts [] = []
all_parts (x ∷ xs) = parts x ++ all_parts xs

-- a quantifier's start and running results over the ids below n, with the results for each id in range
unfoldable pub running : (Label → Label → Label) → Label → (ℕ → Bool) → (ℕ → Label) → (ℕ → List Label) → ℕ → List Label
running join start range item results zero = start ∷ []
running join start range item results (suc n) =
    let before : List Label = running join start range item results n in
    elim (range n) [ true ↦ (joined join start range item (suc n) ∷ results n) ++ before | false ↦ before ]

module _ (N : ℕ) (s : Facts) (D : ℕ) where
  -- the results for a goal node
  unfoldable pub results : Goal → Binding → List Label
  results (top k) b = progress N s D (top k) b ∷ []
  results (test k a) b = progress N s D (test k a) b ∷ []
  results (equal k t u) b = progress N s D (equal k t u) b ∷ []
  results (neg k φ) b = progress N s D (neg k φ) b ∷ results φ b
  results (conj k φ ψ) b = progress N s D (conj k φ ψ) b ∷ (results φ b ++ results ψ b)
  results (disj k φ ψ) b = progress N s D (disj k φ ψ) b ∷ (results φ b ++ results ψ b)
  results (next k φ) b = progress N s D (next k φ) b ∷ []
  results (until k e φ ψ) b =
      progress N s D (until k e φ ψ) b
      ∷ (rest D k b e
      ∷ (conjoin (progress N s D φ b) (rest D k b e)
      ∷ (results φ b ++ (elim (nat_lt 0 e.lower.hours) [ true ↦ [] | false ↦ results ψ b ]))))
  results (for_all k v a φ) b =
      running conjoin true_label (λ x. fact s (bind v x b) a) (λ x. progress N s D φ (bind v x b)) (λ x. results φ (bind v x b)) N
  results (exists k v a φ) b =
      running disjoin false_label (λ x. fact s (bind v x b) a) (λ x. progress N s D φ (bind v x b)) (λ x. results φ (bind v x b)) N

  module _ (table : List Node) where
    -- the results for one part of a label, apart from those for its own parts
    unfoldable pub own_results : Label → List Label
    own_results true_label = true_label ∷ []
    own_results false_label = false_label ∷ []
    own_results (pending n b e) = results (with_ends e (goal_of_node table n)) b
    own_results (not_label q) = progressed N s D table (not_label q) ∷ []
    own_results (and_label q r) = progressed N s D table (and_label q r) ∷ []
    own_results (or_label q r) = progressed N s D table (or_label q r) ∷ []

    -- the results for each of a list of parts
    unfoldable pub each_results : List Label → List Label
    each_results [] = []
    each_results (q ∷ qs) = own_results q ++ each_results qs

    -- the distinct labels that a step of a label works out
    unfoldable pub work : Label → List Label
    work l = distinct (all_parts (each_results (parts l)))
