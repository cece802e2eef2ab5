-- Truth of a bound goal node and of a label at a state of a timed sequence.
-- "Or" is "not neither", "there is" and until's state are "not none", so that truth is two-valued without an axiom.
use Rattle.std.specs.Prelude.{ℕ, suc, ◌-◌, ◌<◌, ◌≤◌, T, List, Some, None, Option}
use Rattle.goals.specs.declared.time.Span.{Span}
use Rattle.goals.specs.declared.goal.Ends.{Ends}
use Rattle.goals.specs.declared.goal.Node.{Node}
use Rattle.labels.specs.declared.binding.Binding.{Binding}
use Rattle.labels.specs.Facts.{Facts, bind, fact, alike}
use Rattle.labels.specs.Goals.{Goal, top, test, equal, neg, conj, disj, next, until, for_all, exists, with_ends, goal_of_node}
use Rattle.labels.specs.Labels.{Label, true_label, false_label, pending, not_label, and_label, or_label}

abbrev pub Neither : Type 0 → Type 0 → Type 0
Neither A B = (¬ A) × (¬ B)

abbrev pub AtMost : Option Span → ℕ → Type 0
AtMost (Some n) span = span ≤ n.hours
AtMost None span = Unit {0}

-- a span lies between the ends
abbrev pub Within : Ends → ℕ → Type 0
Within e span = (e.lower.hours ≤ span) × AtMost e.upper span

-- not for no state j from i on: the span from i to j lies between the ends, Q at j, and P at each state from i to j - 1
abbrev pub Until : (ℕ → ℕ) → Ends → (ℕ → Type 0) → (ℕ → Type 0) → ℕ → Type 0
Until hour e P Q i =
    ¬ ((j : ℕ) → i ≤ j → Within e (hour j - hour i) → Q j → ¬ ((k : ℕ) → i ≤ k → k < j → P k))

module _ (N : ℕ) (state : ℕ → Facts) (hour : ℕ → ℕ) where
  unfoldable pub GoalTrue : Goal → Binding → ℕ → Type 0
  GoalTrue (top k) b i = Unit {0}
  GoalTrue (test k a) b i = T (fact (state i) b a)
  GoalTrue (equal k t u) b i = T (alike b t u)
  GoalTrue (neg k φ) b i = ¬ (GoalTrue φ b i)
  GoalTrue (conj k φ ψ) b i = GoalTrue φ b i × GoalTrue ψ b i
  GoalTrue (disj k φ ψ) b i = ¬ (Neither (GoalTrue φ b i) (GoalTrue ψ b i))
  GoalTrue (next k φ) b i = GoalTrue φ b (suc i)
  GoalTrue (until k e φ ψ) b i = Until hour e (GoalTrue φ b) (GoalTrue ψ b) i
  GoalTrue (for_all k v a φ) b i = (x : ℕ) → x < N → T (fact (state i) (bind v x b) a) → GoalTrue φ (bind v x b) i
  GoalTrue (exists k v a φ) b i =
      ¬ ((x : ℕ) → x < N → T (fact (state i) (bind v x b) a) → ¬ (GoalTrue φ (bind v x b) i))

  module _ (table : List Node) where
    unfoldable pub LabelTrue : Label → ℕ → Type 0
    LabelTrue true_label i = Unit {0}
    LabelTrue false_label i = ⊥
    LabelTrue (pending n b e) i = GoalTrue (with_ends e (goal_of_node table n)) b i
    LabelTrue (not_label q) i = ¬ (LabelTrue q i)
    LabelTrue (and_label q r) i = LabelTrue q i × LabelTrue r i
    LabelTrue (or_label q r) i = ¬ (Neither (LabelTrue q i) (LabelTrue r i))
