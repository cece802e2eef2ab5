-- Idling: does holding one set of facts for ever keep a goal node, or a label?
-- "Next" falls away; an until asks for its second part and, if its lower end is above 0, for its first too.
use Rattle.std.specs.Prelude.{ℕ, zero, suc, Bool, true, false, cond, not, ◌&&◌, ◌||◌, List, ◌==◌}
use Rattle.goals.specs.declared.goal.Node.{Node}
use Rattle.labels.specs.declared.binding.Binding.{Binding}
use Rattle.labels.specs.Facts.{Facts, bind, fact, alike}
use Rattle.labels.specs.Goals.{Goal, top, test, equal, neg, conj, disj, next, until, for_all, exists, with_ends, goal_of_node}
use Rattle.labels.specs.Labels.{Label, true_label, false_label, pending, not_label, and_label, or_label}

-- is the item true for each id below n in range?
abbrev pub every : (ℕ → Bool) → (ℕ → Bool) → ℕ → Bool
every range item zero = true
every range item (suc n) = every range item n && (not (range n) || item n)

-- is it true for one of them?
abbrev pub some : (ℕ → Bool) → (ℕ → Bool) → ℕ → Bool
some range item zero = false
some range item (suc n) = some range item n || (range n && item n)

-- is an answer the wanted one?
abbrev pub agrees : Bool → Bool → Bool
agrees true answer = answer
agrees false answer = not answer

module _ (N : ℕ) (s : Facts) where
  unfoldable pub idles : Goal → Binding → Bool
  idles (top k) b = true
  idles (test k a) b = fact s b a
  idles (equal k t u) b = alike b t u
  idles (neg k φ) b = not (idles φ b)
  idles (conj k φ ψ) b = idles φ b && idles ψ b
  idles (disj k φ ψ) b = idles φ b || idles ψ b
  idles (next k φ) b = idles φ b
  idles (until k e φ ψ) b = cond (e.lower.hours == 0) (idles ψ b) (idles φ b && idles ψ b)
  idles (for_all k v a φ) b = every (λ x. fact s (bind v x b) a) (λ x. idles φ (bind v x b)) N
  idles (exists k v a φ) b = some (λ x. fact s (bind v x b) a) (λ x. idles φ (bind v x b)) N

  module _ (table : List Node) where
    unfoldable pub idling : Label → Bool
    idling true_label = true
    idling false_label = false
    idling (pending n b e) = idles (with_ends e (goal_of_node table n)) b
    idling (not_label q) = not (idling q)
    idling (and_label q r) = idling q && idling r
    idling (or_label q r) = idling q || idling r
