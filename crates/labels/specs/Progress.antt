-- Progress of a goal node and of a label at the facts before a step of span D.
-- N is the number of ids; the nodes of a label's pending parts stand in a table.
use Rattle.std.specs.Prelude.{ℕ, ◌-◌, Bool, true, false, cond, List, Some, None, Option, nat_lt}
use Rattle.goals.specs.declared.time.Span.{Span}
use Rattle.goals.specs.declared.goal.Ends.{Ends}
use Rattle.goals.specs.declared.goal.Node.{Node}
use Rattle.labels.specs.declared.binding.Binding.{Binding}
use Rattle.labels.specs.Facts.{Facts, bind, fact, alike}
use Rattle.labels.specs.Goals.{Goal, top, test, equal, neg, conj, disj, next, until, for_all, exists, with_ends, goal_of_node}
use Rattle.labels.specs.Labels.{Label, true_label, false_label, pending, not_label, and_label, or_label, waiting}
use Rattle.labels.specs.Joining.{negate, conjoin, disjoin, joined}

-- a span shorter by D hours, though not below 0
abbrev pub less : ℕ → Span → Span
less D m = record { hours = m.hours - D }

abbrev pub upper_less : ℕ → Option Span → Option Span
upper_less D (Some n) = Some (less D n)
upper_less D None = None

-- is the upper end below D?
abbrev pub passed : ℕ → Option Span → Bool
passed D (Some n) = nat_lt n.hours D
passed D None = false

-- the ends as they stand D hours later
abbrev pub later : ℕ → Ends → Ends
later D e = record { lower = less D e.lower; upper = upper_less D e.upper }

-- the rest of an until numbered k: itself with later ends, or FALSE if its upper end is passed
abbrev pub rest : ℕ → ℕ → Binding → Ends → Label
rest D k b e = cond (passed D e.upper) false_label (pending k b (later D e))

-- a truth as TRUE or FALSE
abbrev pub settled : Bool → Label
settled c = cond c true_label false_label

module _ (N : ℕ) (s : Facts) (D : ℕ) where
  unfoldable pub progress : Goal → Binding → Label
  progress (top k) b = true_label
  progress (test k a) b = settled (fact s b a)
  progress (equal k t u) b = settled (alike b t u)
  progress (neg k φ) b = negate (progress φ b)
  progress (conj k φ ψ) b = conjoin (progress φ b) (progress ψ b)
  progress (disj k φ ψ) b = disjoin (progress φ b) (progress ψ b)
  progress (next k φ) b = waiting φ b
  progress (until k e φ ψ) b =
      let q : Label = conjoin (progress φ b) (rest D k b e) in
      elim (nat_lt 0 e.lower.hours) [ true ↦ q | false ↦ disjoin (progress ψ b) q ]
  progress (for_all k v a φ) b =
      joined conjoin true_label (λ x. fact s (bind v x b) a) (λ x. progress φ (bind v x b)) N
  progress (exists k v a φ) b =
      joined disjoin false_label (λ x. fact s (bind v x b) a) (λ x. progress φ (bind v x b)) N

  module _ (table : List Node) where
    unfoldable pub progressed : Label → Label
    progressed true_label = true_label
    progressed false_label = false_label
    progressed (pending n b e) = progress (with_ends e (goal_of_node table n)) b
    progressed (not_label q) = negate (progressed q)
    progressed (and_label q r) = conjoin (progressed q) (progressed r)
    progressed (or_label q r) = disjoin (progressed q) (progressed r)
