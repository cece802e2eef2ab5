-- What is not untrue is true.
use Rattle.std.proofs.Common.{ℕ, suc, List}
use Rattle.goals.specs.declared.goal.Node.{Node}
use Rattle.labels.specs.declared.binding.Binding.{Binding}
use Rattle.labels.specs.Facts.{Facts, bind, fact, alike}
use Rattle.labels.specs.Goals.{Goal, top, test, equal, neg, conj, disj, next, until, for_all, exists, with_ends, goal_of_node}
use Rattle.labels.specs.Labels.{Label, true_label, false_label, pending, not_label, and_label, or_label}
use Rattle.labels.specs.Truth.{GoalTrue, LabelTrue}
use Rattle.labels.specs.Claims.{TruthIsTwoValued}
use Rattle.labels.proofs.Logic.{not_stable, T_stable}

module _ (N : ℕ) (state : ℕ → Facts) (hour : ℕ → ℕ) where
  pub goal_stable : (φ : Goal) (b : Binding) (i : ℕ) → ¬ (¬ (GoalTrue N state hour φ b i)) → GoalTrue N state hour φ b i
  unfolding GoalTrue
  goal_stable (top k) b i h = tt
  goal_stable (test k a) b i h = T_stable (fact (state i) b a) h
  goal_stable (equal k t u) b i h = T_stable (alike b t u) h
  goal_stable (neg k φ) b i h = not_stable h
  goal_stable (conj k φ ψ) b i h =
      (goal_stable φ b i (λ n. h (λ p. n p.0)), goal_stable ψ b i (λ n. h (λ p. n p.1)))
  goal_stable (disj k φ ψ) b i h = not_stable h
  goal_stable (next k φ) b i h = goal_stable φ b (suc i) h
  goal_stable (until k e φ ψ) b i h = not_stable h
  goal_stable (for_all k v a φ) b i h = λ x lt t. goal_stable φ (bind v x b) i (λ n. h (λ f. n (f x lt t)))
  goal_stable (exists k v a φ) b i h = not_stable h

  module _ (table : List Node) where
    pub label_stable : (l : Label) (i : ℕ) → ¬ (¬ (LabelTrue N state hour table l i)) → LabelTrue N state hour table l i
    unfolding LabelTrue
    label_stable true_label i h = tt
    label_stable false_label i h = h (λ z. z)
    label_stable (pending n b e) i h = goal_stable (with_ends e (goal_of_node table n)) b i h
    label_stable (not_label q) i h = not_stable h
    label_stable (and_label q r) i h =
        (label_stable q i (λ n. h (λ p. n p.0)), label_stable r i (λ n. h (λ p. n p.1)))
    label_stable (or_label q r) i h = not_stable h

pub two_valued : TruthIsTwoValued
two_valued N table state hour i =
    ((λ φ b. goal_stable N state hour φ b i), (λ l. label_stable N state hour table l i))
