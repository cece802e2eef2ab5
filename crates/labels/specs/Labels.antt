-- Labels: TRUE, FALSE, a pending part, and "not", "and", "or" over labels.
-- A pending part is the number of a goal node, a binding and two ends.
use Rattle.std.specs.Prelude.{ℕ, Bool, true, ◌&&◌, List, [], ◌∷◌, ◌++◌}
use Rattle.goals.specs.declared.goal.Ends.{Ends}
use Rattle.labels.specs.declared.binding.Binding.{Binding}
use Rattle.labels.specs.Goals.{Goal, number, own_ends}

pub data Label : Type 0 where
  true_label false_label : Label
  pending : ℕ → Binding → Ends → Label
  not_label : Label → Label
  and_label or_label : Label → Label → Label
  deriving Discrete as label-discrete

-- a goal node, pending with its own ends
abbrev pub waiting : Goal → Binding → Label
waiting φ b = pending (number φ) b (own_ends φ)

-- the parts of a label, itself included
unfoldable pub parts : Label → List Label
parts true_label = true_label ∷ []
parts false_label = false_label ∷ []
parts (pending n b e) = pending n b e ∷ []
parts (not_label q) = not_label q ∷ parts q
parts (and_label q r) = and_label q r ∷ (parts q ++ parts r)
parts (or_label q r) = or_label q r ∷ (parts q ++ parts r)

-- do all pending parts of a label pass a test?
unfoldable pub every_pending : (ℕ → Binding → Ends → Bool) → Label → Bool
every_pending test true_label = true
every_pending test false_label = true
every_pending test (pending n b e) = test n b e
every_pending test (not_label q) = every_pending test q
every_pending test (and_label q r) = every_pending test q && every_pending test r
every_pending test (or_label q r) = every_pending test q && every_pending test r
